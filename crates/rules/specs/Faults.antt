-- What is said where no store is made.
use Rattle.std.specs.Prelude.{ℕ, List, codes}
use Rattle.rules.specs.declared.fault.MakeFault.{MakeFault}
use Rattle.rules.specs.declared.fault.MakeFault.TheVariants.{Size, Memory}

abbrev pub fault_text : MakeFault → List ℕ
fault_text Size = codes "no store has this size"
fault_text Memory = codes "there is no memory for the store"
