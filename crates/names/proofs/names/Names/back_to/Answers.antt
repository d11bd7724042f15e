-- The first names alone are a sound table, and a mark past the end takes them all.
use Rattle.std.proofs.Common.{◌≡◌, ◌≤◌, take, vec_items, vec_len, ap, ◌∙◌, arith}
use Rattle.names.specs.View.{list}
use Rattle.names.proofs.ViewProperties.{length_list, list_cut, ascends_cut, bound_le, sound_cut}
use Rattle.names.proofs.names.Names.back_to.Goals as goal

pub index-requires : goal.index-requires
index-requires c = omega (arith, length_list c.args.self.now, c.len.ensures.value)

pub invariant_of-self : goal.invariant_of-self
invariant_of-self c =
    let t = c.args.self.now in
    let keep = c.max-keep.result in
    let end = c.index.result.now in
    let n = length_list t in
    let v = c.len.ensures.value in
    let x = c.truncate.ensures.items in
    let y = c.truncate-then-keep-len.ensures.items in
    let l : end ≤ vec_len t.bytes = bound_le t keep end (omega arith) c.index.ensures in
    let m : vec_len c.truncate.new.self ≡ end = omega (arith, c.truncate.ensures.len) in
    let z =
    list_cut t keep end (vec_items c.truncate.new.self) (vec_items c.truncate-then-keep-len.new.self)
    (omega arith) c.index.ensures x y in
    let s = sound_cut t keep _ (omega (arith, c.max-keep.ensures)) z in
    let a =
    ascends_cut t keep end (vec_len c.truncate.new.self) (vec_items c.truncate-then-keep-len.new.self)
    (omega arith) c.index.ensures m y in
    record {
      few = omega (arith, c.truncate-then-keep-len.ensures.len, t.few);
      small = omega (arith, t.small);
      room = omega (arith, c.truncate-then-keep-len.ensures.capacity, t.room);
      space = omega (arith, c.truncate.ensures.capacity, t.space);
      cut = a;
      brief = s.0;
      apart = s.1;
      first = s.2;
    }

pub returns-then-keep-len : goal.returns-then-keep-len
returns-then-keep-len c =
    let t = c.args.self.now in
    let n = length_list t in
    let v = c.len.ensures.value in
    list_cut t c.max-keep.result c.index.result.now (vec_items c.truncate.new.self)
    (vec_items c.truncate-then-keep-len.new.self) (omega arith) c.index.ensures
    c.truncate.ensures.items c.truncate-then-keep-len.ensures.items
    ∙ ap (λ k. take k (list t)) c.max-keep.ensures
