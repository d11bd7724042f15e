-- A fact's body is one step more.
use Rattle.std.proofs.Common.{[], ◌∷◌, vec_items, sym, ap, ◌∙◌, subst, lit<}
use Rattle.names.specs.Interned.{list_after}
use Rattle.names.specs.Listed.{name_at}
use Rattle.names.specs.View.{list}
use Rattle.names.proofs.ViewProperties.{lawful_list}
use Rattle.terms.specs.Known.{true_name}
use Rattle.terms.specs.RowViews.{row_nodes}
use Rattle.grammar.specs.Written.{app, nil}
use Rattle.reader.specs.declared.sentence.Shape.{Shape}
use Rattle.reader.specs.declared.sentence.Shape.TheVariants as shape
use Rattle.reader.specs.Ops.{run, named, take_many}
use Rattle.text.specs.Finishing.{Leaves}
use Rattle.text.proofs.EnteredProperties.{known_in, extends_same}
use Rattle.text.proofs.BuiltProperties.{ends_as}
use Rattle.text.proofs.builder.Builder.build_rule.Goals as goal

pub returns-in-Fact-clause-built : goal.returns-in-Fact-clause-built
returns-in-Fact-clause-built c head body l =
    let text = c.args.text.now in
    let first = list c.args.names.now in
    let ns = list c.build.new.names in
    let st = run text c.args.ops.now in
    let h = c.compound.new.self in
    let k = known_in ns (lawful_list c.build.new.names) 0 (lit< tt) in
    let P : Shape → Type 0 = λ s. Leaves s st head body in
    let m : Leaves shape.Fact st head body = subst P c.in-Fact.is l in
    ends_as text first (named true_name (take_many 0 st)) (body ∷ head ∷ []) (list_after ns true_name) ns
    (row_nodes h.row) (vec_items h.stack) (vec_items h.variables) c.compound.result
    (ap (λ s. app true_name nil ∷ s) m.0 ∙ ap (λ t. t ∷ head ∷ []) (sym m.1)) (sym k.0)
    (c.compound.ensures text first st ns true_name c.in_ok-build.ensures.built
    (extends_same ns (list_after ns true_name) k.0) k.1 (ap (λ l. name_at l 0) (sym k.0) ∙ k.2))
