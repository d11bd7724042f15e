-- Head and body fit into the row together, or the rule does not.
use Rattle.std.proofs.Common.{◌≤◌, [], ◌∷◌, length, Some, None, vec_items, refl, ap, ◌∙◌, arith}
use Rattle.terms.specs.Copies.{Standard, Any}
use Rattle.terms.specs.Goals.{goal_form}
use Rattle.terms.specs.RowViews.{row_nodes, row_limit}
use Rattle.terms.proofs.RowViewsProperties.{row_nodes_few}
use Rattle.text.proofs.FinishingProperties.{built_two, built_variables, copy_moved, rule_copied, head_refused}
use Rattle.text.proofs.FinishingProperties.{body_refused, rule_uncopied}
use Rattle.text.proofs.finish.copy_rule.Goals as goal

pub returns-in_err-head-clause-copied : goal.returns-in_err-head-clause-copied
returns-in_err-head-clause-copied c text first head body ns b places tabled empty limit =
    let h = c.args.builder.now in
    let nodes = row_nodes h.row in
    let mid = c.copy_term.new.target in
    let two = built_two text first head body ns nodes (vec_items h.stack) c.args.head c.args.body
    (vec_items h.variables) places b in
    let one = copy_moved Any (λ t. t) (row_nodes c.row.result.now) nodes c.args.head (row_limit c.args.row.now) 256
    (row_nodes c.args.row.now) [] (row_nodes mid) c.copy_term.result None (ap row_nodes c.row.ensures) limit empty
    c.in_err-head.ensures.ok_part c.copy_term.ensures.copy in
    rule_uncopied first head body ns (row_nodes mid) c.from_residual.result c.from_residual.ensures.0
    (head_refused first head body ns nodes (row_nodes mid) c.args.head c.args.body two one)

pub returns-in_err-body-clause-copied : goal.returns-in_err-body-clause-copied
returns-in_err-body-clause-copied c text first head body ns b places tabled empty limit =
    let h = c.args.builder.now in
    let nodes = row_nodes h.row in
    let mid = c.copy_term.new.target in
    let after = c.copy_goal.new.target in
    let two = built_two text first head body ns nodes (vec_items h.stack) c.args.head c.args.body
    (vec_items h.variables) places b in
    let one = copy_moved Any (λ t. t) (row_nodes c.row.result.now) nodes c.args.head (row_limit c.args.row.now) 256
    (row_nodes c.args.row.now) [] (row_nodes mid) c.copy_term.result (Some c.in_ok-head.head) (ap row_nodes c.row.ensures)
    limit empty c.in_ok-head.ensures.ok_part c.copy_term.ensures.copy in
    let other = copy_moved Standard goal_form (row_nodes c.row-2.result.now) nodes c.args.body (row_limit mid) 256
    (row_nodes mid) (row_nodes mid) (row_nodes after) c.copy_goal.result None (ap row_nodes c.row-2.ensures)
    (c.copy_term.ensures.limit ∙ limit) refl c.in_err-body.ensures.ok_part c.copy_goal.ensures.copy in
    rule_uncopied first head body ns (row_nodes after) c.from_residual-in_err-body.result
    c.from_residual-in_err-body.ensures.0
    (body_refused first head body ns nodes (row_nodes mid) (row_nodes after) c.args.head c.args.body c.in_ok-head.head
    tabled two one other)

pub returns-clause-copied : goal.returns-clause-copied
returns-clause-copied c text first head body ns b places tabled empty limit =
    let h = c.args.builder.now in
    let nodes = row_nodes h.row in
    let mid = c.copy_term.new.target in
    let after = c.copy_goal.new.target in
    let two = built_two text first head body ns nodes (vec_items h.stack) c.args.head c.args.body
    (vec_items h.variables) places b in
    let one = copy_moved Any (λ t. t) (row_nodes c.row.result.now) nodes c.args.head (row_limit c.args.row.now) 256
    (row_nodes c.args.row.now) [] (row_nodes mid) c.copy_term.result (Some c.in_ok-head.head) (ap row_nodes c.row.ensures)
    limit empty c.in_ok-head.ensures.ok_part c.copy_term.ensures.copy in
    let other = copy_moved Standard goal_form (row_nodes c.row-2.result.now) nodes c.args.body (row_limit mid) 256
    (row_nodes mid) (row_nodes mid) (row_nodes after) c.copy_goal.result (Some c.in_ok-body.body)
    (ap row_nodes c.row-2.ensures) (c.copy_term.ensures.limit ∙ limit) refl c.in_ok-body.ensures.ok_part
    c.copy_goal.ensures.copy in
    let few : length (row_nodes after) ≤ 256
    = (let l = row_nodes_few after in let m = c.copy_goal.ensures.limit ∙ c.copy_term.ensures.limit ∙ limit in omega arith) in
    rule_copied first head body ns nodes (row_nodes mid) (row_nodes after) c.args.head c.args.body c.in_ok-head.head
    c.in_ok-body.body (length c.variables.result.now) b.fits tabled two
    (ap length c.variables.ensures ∙ built_variables text first (body ∷ head ∷ []) ns nodes (vec_items h.stack)
    (vec_items h.variables) b) one other few
