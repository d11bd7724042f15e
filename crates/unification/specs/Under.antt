-- Unification under bindings that were made before.
use Rattle.std.proofs.Math.Option.{none, some}
use Rattle.terms.specs.Term.{Term, Terms}
use Rattle.unification.specs.Substitution.{Bindings, apply, applys}
use Rattle.unification.specs.Unifying.{Answer, before, unify, unifys}

abbrev pub and_then : Answer → (Bindings → Answer) → Answer
and_then none k = none
and_then (some σ) k = k σ

abbrev pub under : Bindings → Term → Term → Answer
under σ s t = before σ (unify (apply σ s) (apply σ t))

abbrev pub unders : Bindings → Terms → Terms → Answer
unders σ ps qs = before σ (unifys (applys σ ps) (applys σ qs))
