-- After the last turn the table holds all known names.
use Rattle.std.proofs.Common.{◌≡◌, ◌+◌, true, [], ◌∷◌, ◌++◌, length, get_or, vec_items, vec_len, refl, ap, ◌∙◌}
use Rattle.std.proofs.Common.{subst, length-append, arith}
use Rattle.terms.specs.Known.{known}
use Rattle.names.specs.Table.{ascends, names_of}
use Rattle.names.proofs.TableProperties.{length_names_of}
use Rattle.names.proofs.KnownProperties.{stored_le, known_brief, stored_more, stored_ascends, stored_all, sound_known}
use Rattle.names.proofs.KnownProperties.{now_get_d}
use Rattle.names.proofs.names.Names.new.Goals as goal

pub overflow_cast-len : goal.overflow_cast-len
overflow_cast-len c =
    let i = c.loop-name.name-index in
    let bytes = vec_items c.loop-name.bytes in
    let bounds = vec_items c.loop-name.bounds in
    let name = get_or known i [] in
    let n = c.loop-name.bytes.ok.0 in
    let a : ascends (length bytes) bounds ≡ true = subst (λ k. ascends k bounds ≡ true) n c.loop-name.invariant.cut in
    let few = stored_le i bytes bounds c.loop-name.invariant.stored a in
    let brief = known_brief i in
    let l = c.loop-name-test.true in
    let added = c.in_ok-extend_from_slice.ensures.items in
    let x : vec_items c.extend_from_slice.new.self ≡ bytes ++ name = rw now_get_d at added in
    let m = ap length x ∙ length-append bytes name in
    omega (arith, c.extend_from_slice.new.self.ok.0)

pub loop-name-preserved : goal.loop-name-preserved
loop-name-preserved c =
    let i = c.loop-name.name-index in
    let bytes = vec_items c.loop-name.bytes in
    let bounds = vec_items c.loop-name.bounds in
    let name = get_or known i [] in
    let inv = c.loop-name.invariant in
    let u = c.in_ok-extend_from_slice.ensures in
    let v = c.in_ok-push-2.ensures in
    let n = c.loop-name.bytes.ok.0 in
    let a : ascends (length bytes) bounds ≡ true = subst (λ k. ascends k bounds ≡ true) n inv.cut in
    let l = c.loop-name-test.true in
    let added = u.items in
    let x : vec_items c.extend_from_slice.new.self ≡ bytes ++ name = rw now_get_d at added in
    let m : vec_len c.extend_from_slice.new.self ≡ length bytes + length name =
    c.extend_from_slice.new.self.ok.0 ∙ ap length x ∙ length-append bytes name in
    let y : vec_items c.push-in-loop-name.new.self ≡ bounds ++ c.len.result ∷ [] = v.items in
    let z : c.len.result ≡ length bytes + length name = c.len.ensures ∙ m in
    let s = stored_more i bytes bounds name l refl inv.stored a in
    let t = stored_ascends bytes bounds name a in
    record {
      stored = cc;
      cut = cc;
      space = omega (arith, u.capacity, inv.space);
      room = omega (arith, v.capacity, inv.room);
    }

pub invariant_of-result : goal.invariant_of-result
invariant_of-result c =
    let bytes = vec_items c.loop-name.bytes in
    let bounds = vec_items c.loop-name.bounds in
    let inv = c.loop-name.invariant in
    let i = c.loop-name.name-index in
    let n = c.loop-name.bytes.ok.0 in
    let a : ascends (length bytes) bounds ≡ true = subst (λ k. ascends k bounds ≡ true) n inv.cut in
    let e = stored_all i bytes bounds c.loop-name-test.false inv.stored in
    let l = stored_le i bytes bounds inv.stored a in
    let k : length (names_of bytes bounds) + 1 ≡ length bounds = length_names_of (length bytes) bytes bounds a in
    let m : length (names_of bytes bounds) ≡ 48 = ap length e in
    let s = sound_known (names_of bytes bounds) e in
    record {
      few = omega (arith, c.loop-name.bounds.ok.0);
      small = omega (arith, n);
      room = inv.room;
      space = inv.space;
      cut = inv.cut;
      brief = s.0;
      apart = s.1;
      first = s.2;
    }
