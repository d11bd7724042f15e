use Rattle.grammar.proofs.ReadingProperties.{exact}
use Rattle.grammar.proofs.reads_exactly.Goals as goal

pub returns : goal.returns
returns c = exact
