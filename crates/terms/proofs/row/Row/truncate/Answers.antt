-- A front of the row keeps to its rules.
use Rattle.std.proofs.Common.{vec_items, ap, ◌∙◌}
use Rattle.terms.specs.Rows.{fitting_from}
use Rattle.terms.proofs.FittingProperties.{fitting_from_take}
use Rattle.terms.proofs.row.Row.truncate.Goals as goal

pub invariant_of-self-clause-before : goal.invariant_of-self-clause-before
invariant_of-self-clause-before c =
    let h = c.args.self.now in
    ap (fitting_from 0) c.truncate.ensures.items ∙ fitting_from_take 0 c.args.n (vec_items h.nodes) h.before
