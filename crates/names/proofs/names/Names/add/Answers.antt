-- One name more: there is room for it, and the table stays sound.
use Rattle.std.proofs.Common.{◌≡◌, ◌+◌, ◌++◌, length, vec_items, vec_len, ap, arith, rules}
use Rattle.names.proofs.ViewProperties.{length_list, total_list, list_pushed, ascends_pushed, sound_pushed}
use Rattle.names.proofs.names.Names.add.Goals as goal

pub unwrap-requires : goal.unwrap-requires
unwrap-requires c =
    c.extend_from_slice.ensures.succeeds
    (omega (arith, total_list c.args.self.now, c.requires.room, c.args.self.now.space))

pub push_reserved-requires : goal.push_reserved-requires
push_reserved-requires c = omega (arith, length_list c.args.self.now, c.requires.few, c.args.self.now.room)

pub invariant_of-self : goal.invariant_of-self
invariant_of-self c =
    let t = c.args.self.now in
    let name = c.args.name.now in
    let n = total_list t in
    let l = length_list t in
    let bytes = c.extend_from_slice.new.self in
    let bounds = c.push_reserved.new.self in
    let end = c.len.result + length name in
    let x : vec_items bytes ≡ vec_items t.bytes ++ name = search rules in
    let y = c.push_reserved.ensures.items in
    let e : end ≡ vec_len t.bytes + length name = ap (λ k. k + length name) c.len.ensures in
    let m : vec_len bytes ≡ vec_len t.bytes + length name = search rules in
    let z = list_pushed t name (vec_items bytes) (vec_items bounds) end e x y in
    let s = sound_pushed t name _ c.requires.brief c.requires.new z in
    record {
      few = omega (arith, c.push_reserved.ensures.len, c.requires.few);
      small = omega (arith, c.requires.room);
      room = omega (arith, c.push_reserved.ensures.capacity, t.room);
      space = omega (arith, c.extend_from_slice.ensures.capacity, t.space);
      cut = ascends_pushed t name (vec_items bounds) end (vec_len bytes) e (omega arith) y;
      brief = s.0;
      apart = s.1;
      first = s.2;
    }

pub returns : goal.returns
returns c =
    let t = c.args.self.now in
    let name = c.args.name.now in
    let e : c.len.result + length name ≡ vec_len t.bytes + length name = ap (λ k. k + length name) c.len.ensures in
    let x : vec_items c.extend_from_slice.new.self ≡ vec_items t.bytes ++ name = search rules in
    list_pushed t name (vec_items c.extend_from_slice.new.self) (vec_items c.push_reserved.new.self)
    (c.len.result + length name) e x c.push_reserved.ensures.items
