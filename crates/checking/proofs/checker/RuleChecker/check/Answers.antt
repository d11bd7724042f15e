use Rattle.std.proofs.Common.{◌≡◌, ℕ, List, None, Ok, Err, Result, sym, ap, ◌∙◌, subst}
use Rattle.std.proofs.lemmas.Result.{err_from_is_err_and}
use Rattle.names.specs.View.{list}
use Rattle.terms.specs.RowViews.{row_nodes}
use Rattle.text.specs.declared.answer.RuleText.{RuleText}
use Rattle.text.specs.Readers.{reader_spans}
use Rattle.text.specs.Rules.{RuleRead}
use Rattle.checking.specs.declared.refusal.Refusal.{Refusal}
use Rattle.checking.specs.Checked.{Checked}
use Rattle.checking.specs.Lines.{problem_of}
use Rattle.checking.proofs.LinesProperties.{kept_whole}
use Rattle.checking.proofs.checker.RuleChecker.check.Goals as goal

pub returns-in_err-rule : goal.returns-in_err-rule
returns-in_err-rule c = λ s k.
    let none : problem_of s ≡ None = sym (c.problem.ensures s k) ∙ c.in_default.is in
    let whole : c.bytes.result.now ≡ s = c.bytes.ensures.value ∙ kept_whole c.args.line.now s none k in
    let p = err_from_is_err_and c.from_residual.result c.from_residual.ensures.1 in
    let P : Result RuleText Refusal → Type 0 = λ r. Checked (list c.args.self.now.names) s (list c.rule.new.names) (row_nodes c.rule.new.row) (reader_spans c.rule.new.self) r in
    let Q : List ℕ → Type 0 = λ x. RuleRead (list c.args.self.now.names) x (list c.rule.new.names) (row_nodes c.rule.new.row) (reader_spans c.rule.new.self) (Err c.in_err-rule.field-0.0) in
    subst P (sym (p.1 ∙ ap Err p.2)) (none, subst Q whole (c.in_err-rule.ensures.read c.args.self.now.nodes))

pub returns : goal.returns
returns c = λ s k.
    let none : problem_of s ≡ None = sym (c.problem.ensures s k) ∙ c.in_default.is in
    let whole : c.bytes.result.now ≡ s = c.bytes.ensures.value ∙ kept_whole c.args.line.now s none k in
    let Q : List ℕ → Type 0 = λ x. RuleRead (list c.args.self.now.names) x (list c.rule.new.names) (row_nodes c.rule.new.row) (reader_spans c.rule.new.self) (Ok c.in_ok-rule.field-0) in
    (none, subst Q whole (c.in_ok-rule.ensures.read c.args.self.now.nodes))
