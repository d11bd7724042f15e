-- The row with the new node keeps to its rules.
use Rattle.std.proofs.Common.{◌≡◌, true, length, vec_items, sym, ap, ◌∙◌, arith}
use Rattle.terms.specs.Rows.{fitting, fitting_from}
use Rattle.terms.proofs.FittingProperties.{fitting_from_push}
use Rattle.terms.proofs.row.Row.push.Goals as goal

pub invariant_of-self-clause-before : goal.invariant_of-self-clause-before
invariant_of-self-clause-before c =
    let h = c.args.self.now in
    let xs = vec_items h.nodes in
    let at : length xs ≡ c.len-at.result = omega arith in
    let fit : fitting (length xs) c.args.node ≡ true = ap (λ n. fitting n c.args.node) at ∙ sym c.if-fits.ensures in
    ap (fitting_from 0) c.push_reserved.ensures.items ∙ fitting_from_push xs c.args.node h.before fit
