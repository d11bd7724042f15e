use Rattle.writing.proofs.QuotingProperties.{bare_names_read, others_need_quotes}
use Rattle.writing.proofs.quotes_where_needed.Goals as goal

pub returns : goal.returns
returns c = record { bare = bare_names_read; others = others_need_quotes }
