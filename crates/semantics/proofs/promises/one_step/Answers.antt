-- One step at most.
use Rattle.semantics.proofs.promises.one_step.Goals as goal
use Rattle.semantics.proofs.CompleteProperties.{one_step_at_most}
use Rattle.semantics.specs.Prolog.{prolog}

pub returns : goal.returns
returns c = one_step_at_most prolog
