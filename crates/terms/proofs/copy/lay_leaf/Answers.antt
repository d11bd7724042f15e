-- A leaf stands alone, or with the call of it.
use Rattle.std.proofs.Common.{[], ◌∷◌, Some, ap, ◌∙◌}
use Rattle.terms.specs.declared.node.Node.TheVariants.{App}
use Rattle.terms.specs.Places.{place_for, with_node}
use Rattle.terms.specs.RowViews.{row_nodes, row_limit}
use Rattle.terms.proofs.CopiesProperties.{laid_leaf, laid_call}
use Rattle.terms.proofs.copy.lay_leaf.Goals as goal

pub returns-in-Plain : goal.returns-in-Plain
returns-in-Plain c =
    let h = c.args.target.now in
    let row = c.push.ensures.row in
    record {
      limit = row.limit;
      laid = laid_leaf c.args.form (row_limit h) (row_nodes h) (row_nodes c.push.new.self) c.args.leaf
          (Some c.in_ok-place.place) c.in-Plain.is c.requires c.in_ok-place.ensures.place row.items;
    }

pub returns-in-Goal : goal.returns-in-Goal
returns-in-Goal c =
    let h = c.args.target.now in
    let t = c.push.new.self in
    let x = App 6 1 (c.in_ok-place.place ∷ 0 ∷ 0 ∷ 0 ∷ 0 ∷ 0 ∷ 0 ∷ 0 ∷ []) in
    let one = c.push.ensures.row in
    let two = c.push-in-Goal.ensures.row in
    record {
      limit = two.limit ∙ one.limit;
      laid = laid_call c.args.form (row_limit h) (row_nodes h) (row_nodes t) (row_nodes c.push-in-Goal.new.self)
          c.args.leaf c.in_ok-place.place (0 ∷ 0 ∷ 0 ∷ 0 ∷ 0 ∷ 0 ∷ 0 ∷ []) c.push.result c.push-in-Goal.result
          c.in-Goal.is c.requires c.in_ok-place.was c.push.ensures.place one.items
          (c.push-in-Goal.ensures.place ∙ ap (λ n. place_for n (row_nodes t) x) one.limit)
          (two.items ∙ ap (λ n. with_node n (row_nodes t) x) one.limit);
    }
