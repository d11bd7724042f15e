-- The sentences of faults.
use Rattle.std.specs.Prelude.{ℕ, List, codes}
use Rattle.arithmetic.specs.declared.function.ArithmeticFault.{ArithmeticFault}
use Rattle.arithmetic.specs.declared.function.ArithmeticFault.TheVariants.{ZeroDivisor, Overflow}

abbrev pub fault_text : ArithmeticFault → List ℕ
fault_text ZeroDivisor = codes "division by zero"
fault_text Overflow = codes "the value does not fit into 32 bits"
