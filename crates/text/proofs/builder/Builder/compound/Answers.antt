-- The terms on top become the arguments of one node more.
use Rattle.std.proofs.Common.{◌≡◌, ◌-◌, min, length, take, drop, vec_items, vec_len, sym, refl, ap, ◌∙◌, arith}
use Rattle.std.proofs.lemmas.List.{take_rest, length-drop}
use Rattle.terms.specs.declared.node.Node.TheVariants.{App}
use Rattle.terms.specs.RowViews.{row_nodes}
use Rattle.names.specs.Interned.{list_after}
use Rattle.reader.specs.Ops.{named, take_many}
use Rattle.text.proofs.BuiltProperties.{arity_unfit, built_app, pushed_from, spans_as}
use Rattle.text.proofs.builder.Builder.compound.Goals as goal

pub returns-then-count-gt-MAX_ARGUMENTS : goal.returns-then-count-gt-MAX_ARGUMENTS
returns-then-count-gt-MAX_ARGUMENTS c text first st ns f b ext ok at =
    let h = c.args.self.now in
    let n : vec_len h.stack ≡ length (vec_items h.stack) = h.stack.ok.0 in
    let e : c.min-count.result ≡ min c.args.arity (length (vec_items h.stack)) = omega arith in
    arity_unfit text first st ns (row_nodes h.row) (vec_items h.stack) (vec_items h.variables) b f c.args.arity
    c.min-count.result e c.if-count-gt-MAX_ARGUMENTS.true

pub returns : goal.returns
returns c text first st ns f b ext ok at =
    let h = c.args.self.now in
    let places = vec_items h.stack in
    let n : vec_len h.stack ≡ length places = h.stack.ok.0 in
    let count = c.min-count.result in
    let k = c.len-2.result - c.min-count.result in
    let e : count ≡ min c.args.arity (length places) = omega arith in
    let h' = c.push.new.self in
    let top = drop k places in
    let whole : take (length c.as_slice.result.now - k) (drop k c.as_slice.result.now) ≡ top
    = take_rest c.as_slice.result.now k ∙ ap (drop k) c.as_slice.ensures.value in
    let size : length (take (length c.as_slice.result.now - k) (drop k c.as_slice.result.now)) ≡ count
    = (let l = ap length whole in let d = length-drop k places in omega arith) in
    let args : take count c.arguments-args.result ≡ top
    = ap (λ n. take n c.arguments-args.result) (sym size) ∙ c.arguments-args.ensures ∙ whole in
    let ek : k ≡ length places - count = omega arith in
    let pushed = pushed_from (row_nodes h.row) (vec_items c.truncate.new.self)
    (App c.args.name count c.arguments-args.result) (App c.args.name count c.arguments-args.result)
    (row_nodes h'.row) (vec_items h'.stack) (take k places) c.push.result c.truncate.ensures.items refl
    c.push.ensures.0 in
    spans_as text first (named f (take_many c.args.arity st)) (list_after ns f) (row_nodes h'.row) (vec_items h'.stack)
    (vec_items h.variables) (vec_items h'.variables) c.push.result (sym c.push.ensures.1)
    (built_app text first st ns (row_nodes h.row) places (vec_items h.variables) b (row_nodes h'.row)
    (vec_items h'.stack) c.args.name c.args.arity count k c.arguments-args.result f c.push.result
    ext ok at e ek c.if-count-gt-MAX_ARGUMENTS.false args pushed)
