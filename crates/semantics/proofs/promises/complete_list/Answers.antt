-- The complete list.
use Rattle.semantics.proofs.promises.complete_list.Goals as goal
use Rattle.semantics.proofs.CompleteProperties.{complete}

pub returns : goal.returns
returns c = complete
