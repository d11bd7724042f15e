-- An integer's node.
use Rattle.std.proofs.Common.{◌≡◌, ◌∷◌, vec_items, sym, refl, ap, ◌∙◌, w32, SFits, to_z, of_z, rules}
use Rattle.std.proofs.lemmas.Int.{to_z-of_z}
use Rattle.grammar.specs.Written.{int}
use Rattle.terms.specs.declared.node.Node.TheVariants.{Int}
use Rattle.terms.specs.RowViews.{row_nodes}
use Rattle.text.specs.Integers.{integer_of}
use Rattle.text.proofs.BuiltProperties.{built_int, read_integer_some, pushed_from, spans_as}
use Rattle.text.proofs.builder.Builder.integer.Goals as goal

pub returns : goal.returns
returns c text first st ns b =
    let h = c.args.self.now in
    let h' = c.push.new.self in
    let a = c.args.digits.now in
    let value = c.in_ok-value.value in
    let v = read_integer_some a value (sym c.in_ok-value.ensures.ok_part ∙ c.integer_value.ensures) in
    let fits : SFits w32 value = search rules in
    let node : Int (to_z w32 (of_z w32 value)) ≡ Int (integer_of a)
    = ap Int (to_z-of_z w32 value fits ∙ v.1) in
    spans_as text first (int a ∷ st) ns (row_nodes h'.row) (vec_items h'.stack) (vec_items h.variables)
    (vec_items h'.variables) c.push.result (sym c.push.ensures.1)
    (built_int text first st ns (row_nodes h.row) (vec_items h.stack) (vec_items h.variables) b (row_nodes h'.row)
    (vec_items h'.stack) a c.push.result v.0
    (pushed_from (row_nodes h.row) (vec_items h.stack) (Int (to_z w32 (of_z w32 value))) (Int (integer_of a))
    (row_nodes h'.row) (vec_items h'.stack) (vec_items h.stack) c.push.result refl node c.push.ensures.0))
