-- The only term fits into the row as a goal, or the query does not.
use Rattle.std.proofs.Common.{◌≡◌, ◌≤◌, [], ◌∷◌, length, get_or, Some, None, vec_items, sym, ap, ◌∙◌, arith}
use Rattle.terms.specs.Copies.{Standard}
use Rattle.terms.specs.Goals.{goal_form}
use Rattle.terms.specs.RowViews.{row_nodes, row_limit}
use Rattle.terms.proofs.RowViewsProperties.{row_nodes_few}
use Rattle.text.proofs.BuiltProperties.{built_length}
use Rattle.text.proofs.FinishingProperties.{one_place, built_one, built_variables, copy_moved, query_copied}
use Rattle.text.proofs.FinishingProperties.{query_refused, query_uncopied}
use Rattle.text.proofs.finish.finish_query.Goals as goal

pub returns-in_default-2-clause-finished : goal.returns-in_default-2-clause-finished
returns-in_default-2-clause-finished c text first goal ns b tabled empty limit =
    let h = c.args.builder.now in
    let n = built_length text first (goal ∷ []) ns (row_nodes h.row) (vec_items h.stack) (vec_items h.variables) b in
    let m = ap length c.stack.ensures in
    let l = c.in_default.len_at_least in
    absurd (omega arith)

pub returns-in_err-goal-clause-finished : goal.returns-in_err-goal-clause-finished
returns-in_err-goal-clause-finished c text first goal ns b tabled empty limit =
    let h = c.args.builder.now in
    let nodes = row_nodes h.row in
    let after = c.copy_goal.new.target in
    let p = get_or c.stack.result.now 0 0 in
    let one : length c.stack.result.now ≡ 1 = (let l = c.in-len1.len_at_least in let m = c.in-len1.len_below in omega arith) in
    let at = built_one text first goal ns nodes (vec_items h.stack) p (vec_items h.variables)
    (sym c.stack.ensures ∙ one_place c.stack.result.now one) b in
    let copy = copy_moved Standard goal_form (row_nodes c.row.result.now) nodes p (row_limit c.args.row.now) 256
    (row_nodes c.args.row.now) [] (row_nodes after) c.copy_goal.result None (ap row_nodes c.row.ensures) limit empty
    c.in_err-goal.ensures.ok_part c.copy_goal.ensures.copy in
    query_uncopied first goal ns (row_nodes after) c.from_residual.result c.from_residual.ensures.0
    (query_refused first goal ns nodes (row_nodes after) p tabled at.0 at.1 copy)

pub returns-clause-finished : goal.returns-clause-finished
returns-clause-finished c text first goal ns b tabled empty limit =
    let h = c.args.builder.now in
    let nodes = row_nodes h.row in
    let after = c.copy_goal.new.target in
    let p = get_or c.stack.result.now 0 0 in
    let one : length c.stack.result.now ≡ 1 = (let l = c.in-len1.len_at_least in let m = c.in-len1.len_below in omega arith) in
    let at = built_one text first goal ns nodes (vec_items h.stack) p (vec_items h.variables)
    (sym c.stack.ensures ∙ one_place c.stack.result.now one) b in
    let copy = copy_moved Standard goal_form (row_nodes c.row.result.now) nodes p (row_limit c.args.row.now) 256
    (row_nodes c.args.row.now) [] (row_nodes after) c.copy_goal.result (Some c.in_ok-goal.goal) (ap row_nodes c.row.ensures)
    limit empty c.in_ok-goal.ensures.ok_part c.copy_goal.ensures.copy in
    let few : length (row_nodes after) ≤ 256
    = (let l = row_nodes_few after in let m = c.copy_goal.ensures.limit ∙ limit in omega arith) in
    query_copied first goal ns nodes (row_nodes after) p c.in_ok-goal.goal (length c.variables.result.now) b.fits tabled
    at.1
    (ap length c.variables.ensures ∙ built_variables text first (goal ∷ []) ns nodes (vec_items h.stack)
    (vec_items h.variables) b) copy few
