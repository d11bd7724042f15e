-- What is found so far is the front of the row, and what is left of the row grows less.
use Rattle.std.proofs.Common.{◌-◌, length, vec_items, vec_len}
use Rattle.rules.proofs.WalkProperties.{Walked}
use Rattle.rules.proofs.walk.walk.Given as goal

abbrev pub invariant-loop-at : goal.invariant-loop-at
invariant-loop-at g l =
    Walked ((g.S.RuleStore.meaning l.store).row l.indicator.name l.indicator.arity) (vec_items l.out)
    (vec_len l.out) l.at

abbrev pub decreases-loop-at : goal.decreases-loop-at
decreases-loop-at g l =
    length ((g.S.RuleStore.meaning l.store).row l.indicator.name l.indicator.arity) - vec_len l.out
