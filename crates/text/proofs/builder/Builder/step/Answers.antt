-- Each step builds what it says.
use Rattle.std.proofs.Common.{List, ℕ, subst, vec_items, sym, ap, ◌∙◌, lit<}
use Rattle.names.specs.Interned.{list_after}
use Rattle.names.specs.Listed.{name_at}
use Rattle.names.specs.View.{list}
use Rattle.names.proofs.ViewProperties.{lawful_list}
use Rattle.terms.specs.Known.{empty_name, dot_name, comma_name}
use Rattle.terms.specs.RowViews.{row_nodes}
use Rattle.reader.specs.Ops.{take_many, named, apply}
use Rattle.text.specs.Builders.{Outcome}
use Rattle.text.proofs.EnteredProperties.{known_in, extends_same}
use Rattle.text.proofs.BuiltProperties.{name_unfit, ends_err}
use Rattle.text.proofs.builder.Builder.step.Goals as goal

pub returns-in-Variable-clause-built : goal.returns-in-Variable-clause-built
returns-in-Variable-clause-built c first st b = rw c.in-Variable.is (c.variable.ensures first st (list c.args.names.now) b)

pub returns-in-Integer-clause-built : goal.returns-in-Integer-clause-built
returns-in-Integer-clause-built c first st b =
    rw c.in-Integer.is (rw (sym c.part.ensures) (c.integer.ensures c.args.text.now first st (list c.args.names.now) b))

pub returns-in_err-name-in-Name-clause-built : goal.returns-in_err-name-in-Name-clause-built
returns-in_err-name-in-Name-clause-built c first st b =
    let text = c.args.text.now in
    let h = c.args.self.now in
    ends_err text first (apply text c.args.op st) (list c.intern.new.self) (row_nodes h.row) (vec_items h.stack)
    (vec_items h.variables) c.from_residual.result c.from_residual.ensures.0
    (rw c.in-Name.is (rw (sym c.part-in-Name.ensures)
    (name_unfit text first st (list c.args.names.now) (row_nodes h.row) (vec_items h.stack) (vec_items h.variables) b
    c.part-in-Name.result.now c.in-Name.arity c.in_err-name-in-Name.field-0.0 c.in_err-name-in-Name.ensures.value)))

pub returns-in_err-name-in-Quoted-clause-built : goal.returns-in_err-name-in-Quoted-clause-built
returns-in_err-name-in-Quoted-clause-built c first st b =
    let text = c.args.text.now in
    let h = c.args.self.now in
    ends_err text first (apply text c.args.op st) (list c.intern-in-Quoted.new.self) (row_nodes h.row) (vec_items h.stack)
    (vec_items h.variables) c.from_residual-in_err-name-in-Quoted.result
    c.from_residual-in_err-name-in-Quoted.ensures.0
    (rw c.in-Quoted.is (rw (sym c.part-in-Quoted.ensures)
    (rw (sym (c.as_slice.ensures.value ∙ c.in_ok-unquote-in-Quoted.ensures.items))
    (name_unfit text first st (list c.args.names.now) (row_nodes h.row) (vec_items h.stack) (vec_items h.variables) b
    c.as_slice.result.now c.in-Quoted.arity c.in_err-name-in-Quoted.field-0.0 c.in_err-name-in-Quoted.ensures.value))))

pub returns-in-EmptyList-clause-built : goal.returns-in-EmptyList-clause-built
returns-in-EmptyList-clause-built c first st b =
    let ns = list c.args.names.now in
    let k = known_in ns (lawful_list c.args.names.now) 45 (lit< tt) in
    let P : List (List ℕ) → Type 0 = λ l. Outcome c.args.text.now first (named empty_name (take_many 0 st)) l
    c.compound-in-EmptyList.new.self c.compound-in-EmptyList.result in
    rw c.in-EmptyList.is (subst P (sym k.0) (c.compound-in-EmptyList.ensures c.args.text.now first st ns empty_name b
    (extends_same ns (list_after ns empty_name) k.0) k.1 (ap (λ l. name_at l 45) (sym k.0) ∙ k.2)))

pub returns-in-ListCell-clause-built : goal.returns-in-ListCell-clause-built
returns-in-ListCell-clause-built c first st b =
    let ns = list c.args.names.now in
    let k = known_in ns (lawful_list c.args.names.now) 46 (lit< tt) in
    rw c.in-ListCell.is (c.join.ensures c.args.text.now first st ns dot_name b k.0 k.1 k.2)

pub returns-in-Conjunction-clause-built : goal.returns-in-Conjunction-clause-built
returns-in-Conjunction-clause-built c first st b =
    let ns = list c.args.names.now in
    let k = known_in ns (lawful_list c.args.names.now) 3 (lit< tt) in
    rw c.in-Conjunction.is (c.join-in-Conjunction.ensures c.args.text.now first st ns comma_name b k.0 k.1 k.2)
