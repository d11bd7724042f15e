-- The three theorems.
use Rattle.writer.proofs.ReadsBackProperties.{query_shown, fact_shown, rule_shown}
use Rattle.writer.proofs.reads_back.Goals as goal

pub returns : goal.returns
returns c = record { query = query_shown; fact = fact_shown; rule = rule_shown }
