-- The names go back where the query passes a limit.
use Rattle.std.proofs.Common.{Err, sym, ap, ◌∙◌}
use Rattle.std.proofs.lemmas.Result.{MatchResult-weaker, err_from_is_err_and}
use Rattle.names.specs.View.{list}
use Rattle.terms.specs.RowViews.{row_nodes}
use Rattle.text.specs.Readers.{reader_spans}
use Rattle.text.proofs.ReadersProperties.{names_back, query_refused}
use Rattle.text.proofs.text_reader.TextReader.query.Goals as goal

pub returns-then-is_err-clause-read : goal.returns-then-is_err-clause-read
returns-then-is_err-clause-read c limit =
    let q = c.in_ok-read_query.ensures.read in
    let first = list c.args.names.now in
    let mid = list c.asked_query.new.names in
    let back = names_back first mid (list c.back_to.new.self) c.mark-mark.result.count c.asked_query.ensures.kept
    c.mark-mark.ensures.value c.mark-mark.ensures.bound c.back_to.ensures in
    query_refused first c.args.text.now q.goals mid (list c.back_to.new.self) (row_nodes c.asked_query.new.row)
    (reader_spans c.asked_query.new.self) c.asked_query.result c.map_err-query.result q.text back
    (sym c.is_err.ensures.value ∙ c.if-is_err.true)
    (MatchResult-weaker c.asked_query.result c.map_err-query.ensures.cases (λ x e. e)
    (λ f h. let p = err_from_is_err_and c.map_err-query.result h in p.1 ∙ ap Err p.2))
    (c.asked_query.ensures.asked q.goals q.builds c.begin.ensures.no_nodes (c.begin.ensures.limit ∙ limit))
