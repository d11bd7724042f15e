-- The opposite and the magnitude, each checked.
use Rattle.std.proofs.Common.{rules}
use Rattle.std.proofs.lemmas.Int.{to_z-of_z}
use Rattle.arithmetic.proofs.RangeProperties.{ok_or_checked_is_ranged, ok_or_checked_absolute_is_ranged}
use Rattle.arithmetic.proofs.function.Unary.apply.Goals as goal

pub returns-in-Negate : goal.returns-in-Negate
returns-in-Negate c = search (rules, to_z-of_z, ok_or_checked_is_ranged)

pub returns-in-Absolute : goal.returns-in-Absolute
returns-in-Absolute c = search (rules, to_z-of_z, ok_or_checked_absolute_is_ranged)
