-- An argument stands before its node, so the recursion goes down.
-- The copies of the arguments and then the node make the copy.
use Rattle.std.proofs.Common.{◌≡◌, ℕ, true, List, length, get_or, take, None, sym, refl, ap, ◌∙◌, subst, arith, rules}
use Rattle.std.proofs.lemmas.List.{length-set, length-take-le, get_or-take}
use Rattle.terms.specs.declared.node.Node.{Node}
use Rattle.terms.specs.declared.node.Node.TheVariants.{App}
use Rattle.terms.specs.Rows.{meaning}
use Rattle.terms.specs.Places.{no_node, is_leaf, place_for, with_node}
use Rattle.terms.specs.RowViews.{row_nodes, row_limit}
use Rattle.terms.specs.Copies.{Reads, formed, Laid}
use Rattle.terms.proofs.RowsProperties.{app_arity, app_argument}
use Rattle.terms.proofs.CopiesProperties.{laid_at}
use Rattle.terms.proofs.Parts.{part_more, laid_short, laid_app}
use Rattle.terms.proofs.copy.+lay.Goals as goal

-- what a slice of the row reads
read_as : (xs ys : List Node) (i : ℕ) (x : Node) → ys ≡ xs → get_or ys i no_node ≡ x → get_or xs i no_node ≡ x
read_as xs ys i x e d = ap (λ l. get_or l i no_node) (sym e) ∙ d

pub slice_bounds-args-end : goal.slice_bounds-args-end
slice_bounds-args-end t c =
    let s = c.args.source.now in
    let e = read_as (row_nodes s) c.nodes.result.now c.args.at _ c.nodes.ensures c.in-App.is in
    let few = app_arity (row_nodes s) s.before c.args.at c.requires _ _ _ e in
    let eight : length c.in-App.args ≡ 8 = omega arith in
    omega arith

pub slice_bounds-argument-items-end : goal.slice_bounds-argument-items-end
slice_bounds-argument-items-end t c =
    let s = c.args.source.now in
    let e = read_as (row_nodes s) c.nodes.result.now c.args.at _ c.nodes.ensures c.in-App.is in
    let few = app_arity (row_nodes s) s.before c.args.at c.requires _ _ _ e in
    sym (length-take-le c.in-App.arity c.in-App.args (omega arith))

pub lay-requires : goal.lay-requires
lay-requires t c =
    let s = c.args.source.now in
    let e = read_as (row_nodes s) c.nodes.result.now c.args.at _ c.nodes.ensures c.in-App.is in
    let few = app_arity (row_nodes s) s.before c.args.at c.requires _ _ _ e in
    let all = length-take-le c.in-App.arity c.in-App.args (omega arith) in
    let less = app_argument (row_nodes s) s.before c.args.at c.requires _ _ _ e (omega arith) c.loop-k.k
    (omega arith) in
    let same = get_or-take c.in-App.arity c.in-App.args c.loop-k.k 0 (omega arith) in
    let inside = c.requires in
    (omega arith, omega arith)

pub returns-in_err-places-in-App : goal.returns-in_err-places-in-App
returns-in_err-places-in-App t c =
    let s = c.args.source.now in
    let h = c.args.target.now in
    let e = read_as (row_nodes s) c.nodes.result.now c.args.at _ c.nodes.ensures c.in-App.is in
    let few = app_arity (row_nodes s) s.before c.args.at c.requires _ _ _ e in
    let all = length-take-le c.in-App.arity c.in-App.args (omega arith) in
    let i = c.loop-k.invariant in
    let argument = get_or (take c.in-App.arity c.in-App.args) c.loop-k.k 0 in
    let inner = c.passes_on-inner.result in
    let none = subst (λ n. Laid (Reads inner) (λ ns. formed inner (meaning ns (row_nodes s) argument)) n
    (row_nodes c.loop-k.target) (row_nodes c.lay.new.target) None) i.limit c.in_err-places-in-App.ensures.laid in
    record {
      limit = c.lay.ensures.limit ∙ i.limit;
      laid = subst (λ o. Laid (Reads c.args.form)
          (λ ns. formed c.args.form (meaning ns (row_nodes s) c.args.at)) (row_limit h) (row_nodes h)
          (row_nodes c.lay.new.target) o) (sym c.from_residual.ensures)
          (laid_short c.args.form inner (row_limit h) (row_nodes s) (row_nodes h)
          (row_nodes c.loop-k.target) (row_nodes c.lay.new.target) c.args.at c.in-App.name
          c.in-App.arity c.in-App.args c.loop-k.places c.loop-k.k argument s.before
          c.requires e (omega arith) c.passes_on-inner.ensures (omega arith) refl i.part none);
    }

pub loop-k-preserved : goal.loop-k-preserved
loop-k-preserved t c =
    let s = c.args.source.now in
    let i = c.loop-k.invariant in
    let e = read_as (row_nodes s) c.nodes.result.now c.args.at _ c.nodes.ensures c.in-App.is in
    let few = app_arity (row_nodes s) s.before c.args.at c.requires _ _ _ e in
    let all = length-take-le c.in-App.arity c.in-App.args (omega arith) in
    let eight = i.eight in
    record {
      limit = c.lay.ensures.limit ∙ i.limit;
      eight = length-set c.loop-k.places c.loop-k.k c.in_ok-places-in-App.field-0 ∙ eight;
      part = part_more c.passes_on-inner.result (row_nodes s) (row_nodes c.args.target.now)
          (row_nodes c.loop-k.target) (row_nodes c.lay.new.target) (take c.in-App.arity c.in-App.args)
          c.loop-k.places c.loop-k.k (get_or (take c.in-App.arity c.in-App.args) c.loop-k.k 0)
          c.in_ok-places-in-App.field-0 c.loop-k-test.true (omega arith) refl i.part
          c.in_ok-places-in-App.ensures.laid;
    }

pub returns-after-loop-k : goal.returns-after-loop-k
returns-after-loop-k t c =
    let s = c.args.source.now in
    let h = c.args.target.now in
    let e = read_as (row_nodes s) c.nodes.result.now c.args.at _ c.nodes.ensures c.in-App.is in
    let few = app_arity (row_nodes s) s.before c.args.at c.requires _ _ _ e in
    let all = length-take-le c.in-App.arity c.in-App.args (omega arith) in
    let i = c.loop-k.invariant in
    let x = App c.in-App.name c.in-App.arity c.loop-k.places in
    let row = c.push.ensures.row in
    record {
      limit = row.limit ∙ i.limit;
      laid = laid_app c.args.form c.passes_on-inner.result (row_limit h) (row_nodes s) (row_nodes h)
          (row_nodes c.loop-k.target) (row_nodes c.push.new.self) c.args.at c.in-App.name
          c.in-App.arity c.in-App.args c.loop-k.places c.loop-k.k c.push.result s.before
          c.requires e (omega arith) few c.passes_on-inner.ensures (omega arith) i.part
          (c.push.ensures.place ∙ ap (λ n. place_for n (row_nodes c.loop-k.target) x) i.limit)
          (row.items ∙ ap (λ n. with_node n (row_nodes c.loop-k.target) x) i.limit);
    }

pub returns-in-Var : goal.returns-in-Var
returns-in-Var t c =
    let s = c.args.source.now in
    let h = c.args.target.now in
    let x = get_or c.nodes.result.now c.args.at no_node in
    let leaf : is_leaf x ≡ true = search rules in
    record {
      limit = c.lay_leaf.ensures.limit;
      laid = laid_at c.args.form (row_limit h) (row_nodes s) (row_nodes h) (row_nodes c.lay_leaf.new.target)
          c.args.at x c.lay_leaf.result s.before c.requires
          (read_as (row_nodes s) c.nodes.result.now c.args.at x c.nodes.ensures refl) leaf
          c.lay_leaf.ensures.laid;
    }
