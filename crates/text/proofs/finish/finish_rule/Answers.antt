-- The rule fits and can be stored, or why not.
use Rattle.std.proofs.Common.{◌≡◌, List, [], ◌∷◌, length, get_or, Err, vec_items, Result, sym, ap, ◌∙◌, subst, arith}
use Rattle.terms.specs.RowViews.{row_nodes}
use Rattle.terms.proofs.RowViewsProperties.{row_nodes_fitting}
use Rattle.std.proofs.lemmas.Result.{err_from_is_err_and}
use Rattle.text.specs.declared.answer.RuleText.{RuleText}
use Rattle.text.specs.declared.fault.TextFault.{TextFault}
use Rattle.text.specs.Faults.{Eight, nodes_fault}
use Rattle.text.specs.Finishing.{RuleFinished}
use Rattle.terms.specs.declared.node.Node.{Node}
use Rattle.terms.specs.Places.{node_at}
use Rattle.text.proofs.BuiltProperties.{built_length}
use Rattle.text.proofs.FinishingProperties.{two_places, built_two, rule_fault}
use Rattle.text.proofs.finish.finish_rule.Goals as goal

pub returns-in_default-clause-finished : goal.returns-in_default-clause-finished
returns-in_default-clause-finished c text first head body ns b tabled empty limit =
    let h = c.args.builder.now in
    let n = built_length text first (body ∷ head ∷ []) ns (row_nodes h.row) (vec_items h.stack) (vec_items h.variables) b in
    let m = ap length c.stack.ensures in
    let l = c.in_default.len_below in
    absurd (omega arith)

pub returns-in_default-2-clause-finished : goal.returns-in_default-2-clause-finished
returns-in_default-2-clause-finished c text first head body ns b tabled empty limit =
    let h = c.args.builder.now in
    let n = built_length text first (body ∷ head ∷ []) ns (row_nodes h.row) (vec_items h.stack) (vec_items h.variables) b in
    let m = ap length c.stack.ensures in
    let l = c.in_default.len_at_least in
    absurd (omega arith)

pub returns-in_err-rule-clause-finished : goal.returns-in_err-rule-clause-finished
returns-in_err-rule-clause-finished c text first head body ns b tabled empty limit =
    let two : length c.stack.result.now ≡ 2 = (let l = c.in-len2.len_at_least in let m = c.in-len2.len_below in omega arith) in
    let both = sym c.stack.ensures ∙ two_places c.stack.result.now two in
    let p = err_from_is_err_and c.from_residual.result c.from_residual.ensures.1 in
    let P : Result RuleText TextFault → Type 0 = λ r. RuleFinished first head body ns (row_nodes c.copy_rule.new.row) r in
    subst P (sym (p.1 ∙ ap Err p.2)) (c.in_err-rule.ensures.copied text first head body ns b both tabled empty limit)

pub returns-in-Some-clause-finished : goal.returns-in-Some-clause-finished
returns-in-Some-clause-finished c text first head body ns b tabled empty limit =
    let h = c.args.builder.now in
    let nodes = row_nodes h.row in
    let p = get_or c.stack.result.now 0 0 in
    let q = get_or c.stack.result.now 1 0 in
    let length : length c.stack.result.now ≡ 2 = (let l = c.in-len2.len_at_least in let m = c.in-len2.len_below in omega arith) in
    let both = sym c.stack.ensures ∙ two_places c.stack.result.now length in
    let two = built_two text first head body ns nodes (vec_items h.stack) p q (vec_items h.variables) both b in
    let copied = c.in_ok-rule.ensures.copied text first head body ns b both tabled empty limit in
    let is = ap row_nodes c.row.ensures in
    let P : List Node → Type 0 = λ xs. Eight (node_at xs p) in
    let fault = c.in-Some.ensures.fault ∙ ap (λ xs. nodes_fault xs p q) is
    ∙ rule_fault head body ns nodes p q two tabled (row_nodes_fitting h.row) (subst P is c.places_fault.ensures.eight) in
    (copied.fits, sym fault)

pub returns-in-None-clause-finished : goal.returns-in-None-clause-finished
returns-in-None-clause-finished c text first head body ns b tabled empty limit =
    let h = c.args.builder.now in
    let nodes = row_nodes h.row in
    let p = get_or c.stack.result.now 0 0 in
    let q = get_or c.stack.result.now 1 0 in
    let length : length c.stack.result.now ≡ 2 = (let l = c.in-len2.len_at_least in let m = c.in-len2.len_below in omega arith) in
    let both = sym c.stack.ensures ∙ two_places c.stack.result.now length in
    let two = built_two text first head body ns nodes (vec_items h.stack) p q (vec_items h.variables) both b in
    let copied = c.in_ok-rule.ensures.copied text first head body ns b both tabled empty limit in
    let is = ap row_nodes c.row.ensures in
    let P : List Node → Type 0 = λ xs. Eight (node_at xs p) in
    let fault = c.in-None.ensures.fault ∙ ap (λ xs. nodes_fault xs p q) is
    ∙ rule_fault head body ns nodes p q two tabled (row_nodes_fitting h.row) (subst P is c.places_fault.ensures.eight) in
    (copied, sym fault)
