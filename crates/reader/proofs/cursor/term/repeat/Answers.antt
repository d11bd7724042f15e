use Rattle.std.proofs.Common.{◌≡◌, ℕ, ◌+◌, List, [], ◌∷◌, ◌++◌, replicate, ap, ◌∙◌, append_assoc, arith}
use lib.ListN.{replicate-append-replicate}
use Rattle.reader.specs.declared.op.Op.{Op}
use Rattle.reader.proofs.cursor.term.repeat.Goals as goal

again_one : (xs ys zs : List Op) (n : ℕ) (o : Op) → ys ≡ xs ++ replicate n o → zs ≡ ys ++ o ∷ []
    → zs ≡ xs ++ replicate (n + 1) o
again_one xs ys zs n o h e =
    e ∙ ap (λ l. l ++ o ∷ []) h ∙ append_assoc xs (replicate n o) (o ∷ [])
    ∙ ap (λ l. xs ++ l) (replicate-append-replicate n 1 o)

pub loop-preserved : goal.loop-preserved
loop-preserved c = (
  again_one _ _ _ c.loop.counter c.args.op c.loop.invariant.0 c.push_reserved.ensures.items,
  omega arith,
  c.push_reserved.ensures.capacity ∙ c.loop.invariant.2,
)
