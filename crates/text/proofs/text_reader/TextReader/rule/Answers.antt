-- The sentence that was read is stored, or the names go back.
use Rattle.std.proofs.Common.{vec_items, sym, ◌∙◌}
use Rattle.names.specs.View.{list}
use Rattle.terms.specs.RowViews.{row_nodes}
use Rattle.text.specs.Readers.{reader_spans}
use Rattle.text.specs.Rules.{head_of, body_of}
use Rattle.text.proofs.ReadersProperties.{names_back, parsed, rule_read, rule_refused}
use Rattle.text.proofs.text_reader.TextReader.rule.Goals as goal

pub returns-then-is_err-clause-read : goal.returns-then-is_err-clause-read
returns-then-is_err-clause-read c limit =
    let text = c.args.text.now in
    let first = list c.args.names.now in
    let mid = list c.stored_rule-rule.new.names in
    let p = parsed text (vec_items c.read_rule.new.ops) c.in_ok-shape.shape c.in_ok-shape.ensures.read in
    let back = names_back first mid (list c.back_to.new.self) c.mark-mark.result.count c.stored_rule-rule.ensures.kept
    c.mark-mark.ensures.value c.mark-mark.ensures.bound c.back_to.ensures in
    rule_refused first text p.sentence mid (list c.back_to.new.self) (row_nodes c.stored_rule-rule.new.row)
    (reader_spans c.stored_rule-rule.new.self) c.stored_rule-rule.result p.is back
    (sym c.is_err.ensures.value ∙ c.if-is_err.true)
    (c.stored_rule-rule.ensures.stored (head_of p.sentence) (body_of p.sentence) p.leaves c.begin.ensures.no_nodes
    (c.begin.ensures.limit ∙ limit))

pub returns-else-is_err-clause-read : goal.returns-else-is_err-clause-read
returns-else-is_err-clause-read c limit =
    let text = c.args.text.now in
    let first = list c.args.names.now in
    let p = parsed text (vec_items c.read_rule.new.ops) c.in_ok-shape.shape c.in_ok-shape.ensures.read in
    rule_read first text p.sentence (list c.stored_rule-rule.new.names) (row_nodes c.stored_rule-rule.new.row)
    (reader_spans c.stored_rule-rule.new.self) c.stored_rule-rule.result p.is
    (sym c.is_err.ensures.value ∙ c.if-is_err.false)
    (c.stored_rule-rule.ensures.stored (head_of p.sentence) (body_of p.sentence) p.leaves c.begin.ensures.no_nodes
    (c.begin.ensures.limit ∙ limit))
