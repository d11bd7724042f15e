use Rattle.writing.proofs.ReadBackProperties.{query_reads_back, fact_reads_back, rule_reads_back}
use Rattle.writing.proofs.reads_back.Goals as goal

pub returns : goal.returns
returns c = record { query = query_reads_back; fact = fact_reads_back; rule = rule_reads_back }
