-- The quotient, checked, by a divisor that is not zero.
use Rattle.std.proofs.Common.{rules}
use Rattle.std.proofs.lemmas.Int.{to_z-of_z}
use Rattle.arithmetic.proofs.RangeProperties.{ok_or_checked_quotient_is_quotient}
use Rattle.arithmetic.proofs.function.divided.Goals as goal

pub returns : goal.returns
returns c = search (rules, to_z-of_z, ok_or_checked_quotient_is_quotient)
