-- The steps build the rule, and it is copied.
use Rattle.std.proofs.Common.{Err, vec_items, Result, sym, ap, ◌∙◌, subst}
use Rattle.std.proofs.lemmas.Result.{err_from_is_err_and}
use Rattle.names.specs.View.{list}
use Rattle.names.proofs.ViewProperties.{lawful_list}
use Rattle.terms.specs.RowViews.{row_nodes}
use Rattle.reader.specs.Ops.{Stack, run}
use Rattle.text.specs.declared.answer.RuleText.{RuleText}
use Rattle.text.specs.declared.fault.TextFault.{TextFault}
use Rattle.text.specs.Finishing.{Leaves, RuleStored}
use Rattle.text.proofs.FinishingProperties.{lawful_tabled}
use Rattle.text.proofs.ReadersProperties.{rule_stored}
use Rattle.text.proofs.RulesProperties.{rule_unfit}
use Rattle.text.proofs.text_reader.TextReader.stored_rule.Goals as goal

pub returns-in_err-build_rule-clause-stored : goal.returns-in_err-build_rule-clause-stored
returns-in_err-build_rule-clause-stored c head body l empty limit =
    let text = c.args.text.now in
    let first = list c.args.names.now in
    let p = err_from_is_err_and c.from_residual.result c.from_residual.ensures.1 in
    let Q : Stack → Type 0 = λ s. Leaves c.args.shape s head body in
    let m = subst Q (sym (ap (run text) c.as_slice.ensures.value)) l in
    let P : Result RuleText TextFault → Type 0 = λ r. RuleStored text first head body (list c.build_rule.new.names)
    (row_nodes c.args.row.now) (vec_items c.build_rule.new.self.variables) r in
    subst P (sym (p.1 ∙ ap Err p.2)) (rule_unfit first head body (c.in_err-build_rule.ensures.built head body m))

pub returns-clause-stored : goal.returns-clause-stored
returns-clause-stored c head body l empty limit =
    let text = c.args.text.now in
    let first = list c.args.names.now in
    let ns = list c.build_rule.new.names in
    let h = c.build_rule.new.self in
    let Q : Stack → Type 0 = λ s. Leaves c.args.shape s head body in
    let m = subst Q (sym (ap (run text) c.as_slice.ensures.value)) l in
    let b = c.in_ok-build_rule.ensures.built head body m in
    rule_stored text first head body ns (row_nodes h.row) (row_nodes c.finish_rule.new.row) (vec_items h.stack)
    (vec_items h.variables) c.finish_rule.result b
    (c.finish_rule.ensures.finished text first head body ns b (lawful_tabled ns (lawful_list c.build_rule.new.names))
    empty limit)
