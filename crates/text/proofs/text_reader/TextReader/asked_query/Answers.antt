-- The steps build the query, and it is copied.
use Rattle.std.proofs.Common.{[], ◌∷◌, Ok, vec_items, sym, refl, ap, ◌∙◌}
use Rattle.names.specs.View.{list}
use Rattle.names.proofs.ViewProperties.{lawful_list}
use Rattle.terms.specs.RowViews.{row_nodes}
use Rattle.reader.specs.Ops.{run}
use Rattle.text.specs.Limits.{stack_fits}
use Rattle.text.proofs.BuiltProperties.{ends_as}
use Rattle.text.proofs.FinishingProperties.{lawful_tabled}
use Rattle.text.proofs.ReadersProperties.{query_asked, query_unasked}
use Rattle.text.proofs.RulesProperties.{query_unfit}
use Rattle.text.proofs.text_reader.TextReader.asked_query.Goals as goal

pub returns-in_err-build-clause-asked : goal.returns-in_err-build-clause-asked
returns-in_err-build-clause-asked c goal e empty limit =
    let text = c.args.text.now in
    let first = list c.args.names.now in
    query_unasked text first goal (list c.build.new.names) (row_nodes c.args.row.now)
    (vec_items c.build.new.self.variables) c.from_residual.result c.from_residual.ensures.0
    (query_unfit first goal
    (ap (stack_fits first) (sym (ap (run text) c.as_slice.ensures.value ∙ e)) ∙ c.in_err-build.ensures.built))

pub returns-clause-asked : goal.returns-clause-asked
returns-clause-asked c goal e empty limit =
    let text = c.args.text.now in
    let first = list c.args.names.now in
    let ns = list c.build.new.names in
    let h = c.build.new.self in
    let b = ends_as text first (run text c.as_slice.result.now) (goal ∷ []) ns ns (row_nodes h.row) (vec_items h.stack)
    (vec_items h.variables) (Ok tt) (ap (run text) c.as_slice.ensures.value ∙ e) refl c.in_ok-build.ensures.built in
    query_asked text first goal ns (row_nodes h.row) (row_nodes c.finish_query.new.row) (vec_items h.stack)
    (vec_items h.variables) c.finish_query.result b
    (c.finish_query.ensures.finished text first goal ns b (lawful_tabled ns (lawful_list c.build.new.names)) empty limit)
