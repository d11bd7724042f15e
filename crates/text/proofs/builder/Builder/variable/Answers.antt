-- A variable's node.
use Rattle.std.proofs.Common.{◌≡◌, ◌≤◌, ◌∷◌, length, vec_items, vec_len, sym, arith}
use Rattle.grammar.specs.Written.{var}
use Rattle.terms.specs.RowViews.{row_nodes}
use Rattle.reader.specs.Ops.{part}
use Rattle.text.specs.Building.{cuts}
use Rattle.text.proofs.NumberingProperties.{length_cuts}
use Rattle.text.proofs.BuiltProperties.{built_var, spans_as}
use Rattle.text.proofs.builder.Builder.variable.Goals as goal

pub returns : goal.returns
returns c first st ns b =
    let h = c.args.self.now in
    let h' = c.push.new.self in
    let text = c.args.text.now in
    let a = part text c.args.span.start c.args.span.end in
    let v = c.in_ok-number.ensures in
    let spans = vec_items c.number.new.variables in
    let n : vec_len c.number.new.variables ≡ length spans = c.number.new.variables.ok.0 in
    let all = length_cuts text spans in
    let few : length (cuts text spans) ≤ 32 = (let l = v.still_few in omega arith) in
    spans_as text first (var a ∷ st) ns (row_nodes h'.row) (vec_items h'.stack) spans (vec_items h'.variables)
    c.push.result (sym c.push.ensures.1)
    (built_var text first st ns (row_nodes h.row) (vec_items h.stack) (vec_items h.variables) b (row_nodes h'.row)
    (vec_items h'.stack) spans a c.in_ok-number.number c.push.result v.value.0 v.value.1 few
    c.push.ensures.0)
