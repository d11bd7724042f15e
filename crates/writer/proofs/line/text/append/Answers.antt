-- One byte more is the front of the text that is one longer, and at the end that front is the text.
use Rattle.std.proofs.Common.{◌≡◌, ◌+◌, ◌<◌, [], ◌∷◌, ◌++◌, length, get_or, take, vec_items, ap, ◌∙◌, append_assoc}
use Rattle.std.proofs.Common.{arith}
use Rattle.std.proofs.lemmas.List.{take_more, take_all}
use Rattle.writer.proofs.line.text.append.Goals as goal

pub loop-byte-preserved : goal.loop-byte-preserved
loop-byte-preserved c =
    let text = c.args.text.now in
    let i = c.loop-byte.byte-index in
    let old = vec_items c.args.bytes.now in
    let p = c.push_reserved.ensures in
    let inv = c.loop-byte.invariant in
    let l : i < length text = omega arith in
    let t : take (i + 1) text ≡ take i text ++ get_or text i 0 ∷ [] = take_more text i 0 l in
    let a = append_assoc old (take i text) (get_or text i 0 ∷ []) in
    let x = p.items in
    let y = inv.0 in
    (cc, omega (arith, p.len, inv.1), p.capacity ∙ inv.2)

pub returns : goal.returns
returns c =
    let text = c.args.text.now in
    let inv = c.loop-byte.invariant in
    let all : take c.loop-byte.byte-index text ≡ text = take_all c.loop-byte.byte-index text (omega arith) in
    record {
      items = inv.0 ∙ ap (λ xs. vec_items c.args.bytes.now ++ xs) all;
      len = omega (arith, inv.1);
      capacity = inv.2;
    }
