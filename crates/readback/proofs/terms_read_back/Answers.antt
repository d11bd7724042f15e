use Rattle.readback.proofs.DigitProperties.{integer_reads_back}
use Rattle.readback.proofs.ReadBackProperties.{query_is_the_same, fact_is_the_same, rule_is_the_same}
use Rattle.readback.proofs.terms_read_back.Goals as goal

pub returns : goal.returns
returns c = record {
  integer = integer_reads_back;
  query = query_is_the_same;
  fact = fact_is_the_same;
  rule = rule_is_the_same;
}
