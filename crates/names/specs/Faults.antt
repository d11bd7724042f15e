-- What is said where a name is not added to a table.
use Rattle.std.specs.Prelude.{ℕ, List, codes}
use Rattle.names.specs.declared.fault.NameFault.{NameFault}
use Rattle.names.specs.declared.fault.NameFault.TheVariants.{TooLong, Full}

abbrev pub fault_text : NameFault → List ℕ
fault_text TooLong = codes "the name has more than 64 bytes"
fault_text Full = codes "the table of names has no room for the name"
