-- All rows by computing.
use Rattle.std.proofs.Common.{◌≡◌, map, refl}
use Rattle.std.specs.Fmt.{digits}
use Rattle.worked.specs.Table.{table, computed, expected, seen_in, told_in}
use Rattle.worked.proofs.examples.worked_examples.Goals as goal

steps_tell : map computed table ≡ map expected table
unfolding digits
steps_tell = refl

trees_hold : map seen_in table ≡ map told_in table
unfolding digits
trees_hold = refl

pub returns : goal.returns
returns c = record { steps_tell = steps_tell; trees_hold = trees_hold }
