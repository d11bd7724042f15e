-- The bounds of a name lie in order within the bytes, and the part between them is the name.
use Rattle.std.proofs.Common.{length, ap, ◌∙◌, arith}
use Rattle.std.specs.List.{between}
use Rattle.names.proofs.ViewProperties.{length_list, bounds_read}
use Rattle.names.proofs.names.Names.at.Goals as goal

pub index-requires : goal.index-requires
index-requires c = omega (arith, length_list c.args.self.now)

pub overflow_add-i : goal.overflow_add-i
overflow_add-i c = omega (arith, length_list c.args.self.now, c.args.self.now.few)

pub index-requires-2 : goal.index-requires-2
index-requires-2 c = omega (arith, length_list c.args.self.now)

pub slice_bounds-result-count : goal.slice_bounds-result-count
slice_bounds-result-count c =
    (bounds_read c.args.self.now c.args.i c.index.result.now c.index-2.result.now c.requires
    c.index.ensures c.index-2.ensures).0

pub slice_bounds-result-start : goal.slice_bounds-result-start
slice_bounds-result-start c =
    (bounds_read c.args.self.now c.args.i c.index.result.now c.index-2.result.now c.requires
    c.index.ensures c.index-2.ensures).0

pub slice_bounds-result-end : goal.slice_bounds-result-end
slice_bounds-result-end c =
    let e = ap length c.deref.ensures.value in
    let b =
    (bounds_read c.args.self.now c.args.i c.index.result.now c.index-2.result.now c.requires
    c.index.ensures c.index-2.ensures).1 in
    omega arith

pub returns : goal.returns
returns c =
    ap (between c.index.result.now c.index-2.result.now) c.deref.ensures.value
    ∙ (bounds_read c.args.self.now c.args.i c.index.result.now c.index-2.result.now c.requires
    c.index.ensures c.index-2.ensures).2
