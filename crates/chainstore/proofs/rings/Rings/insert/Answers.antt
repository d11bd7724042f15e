-- The new cell stands between the two, and no other link changes.
use Rattle.std.proofs.Common.{length, ap, subst, arith}
use Rattle.chainstore.specs.declared.rings.Link.{Link}
use Rattle.chainstore.specs.Rings.{Cells, Bridged}
use Rattle.chainstore.proofs.LinksProperties.{inserted_by}
use Rattle.chainstore.proofs.rings.Rings.insert.Goals as goal

pub returns : goal.returns
returns c =
    let r = c.self.inside in
    let old : Cells = record { links = r.links.items; labels = r.labels } in
    let cell : Link = record { before = c.args.before; after = c.args.after } in
    let same = ap (λ x. length x.links) c.self.view_is in
    let p = c.requires.before_in_bounds in
    let q = c.requires.after_in_bounds in
    let one = subst (λ xs. Bridged (record old { links = xs }) c.args.before c.len-cell.result c.bridge.new.self)
    c.push_reserved.ensures.items c.bridge.ensures in
    rw (← c.self.view_is) (inserted_by old c.bridge.new.self c.bridge-2.new.self cell c.args.before c.args.after
    c.len-cell.result (omega arith) (omega arith) (omega arith) one c.bridge-2.ensures)
