-- Unification under bindings.
use Rattle.unification.proofs.ChainProperties.{apply_apply}
use Rattle.unification.proofs.UnderProperties.{unders_cons}
use Rattle.unification.proofs.KeptProperties.{under_kept, under_none}
use Rattle.unification.proofs.OlderProperties.{under_older}
use Rattle.unification.proofs.bindings_carry_on.Goals as goal

pub returns : goal.returns
returns c =
    record {
      next = unders_cons;
      kept = λ vs σ s t. under_kept σ s t vs;
      none_fits = under_none;
      older = under_older;
      idempotent = apply_apply;
    }
