-- Steps are counted exactly.
use Rattle.semantics.proofs.promises.steps_are_counted.Goals as goal
use Rattle.semantics.proofs.MoreProperties.{counted}
use Rattle.semantics.specs.Prolog.{prolog}

pub returns : goal.returns
returns c = counted prolog
