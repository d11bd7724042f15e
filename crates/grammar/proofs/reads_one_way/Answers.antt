use Rattle.grammar.proofs.ReadingProperties.{all_read, one_sentence}
use Rattle.grammar.proofs.reads_one_way.Goals as goal

pub returns : goal.returns
returns c = record { one = one_sentence; read = all_read }
