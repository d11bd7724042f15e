-- A part of a text is what lies between its bounds, as far as the text reaches.
use Rattle.std.proofs.Common.{◌≡◌, ℕ, ◌-◌, ◌<◌, ◌≤◌, min, List, [], length, take, drop, sym, ap, ◌∙◌, inl, inr, arith}
use Rattle.std.proofs.lemmas.List.{length-drop, take_all, drop_all}
use Rattle.std.proofs.lemmas.Bool.{cases_lt}
use Rattle.reader.specs.Ops.{part}

pub part_within : (l : List ℕ) (a b first last : ℕ) → last ≡ min b (length l) → first ≡ min a last
    → take (last - first) (drop first l) ≡ part l a b
part_within l a b first last el ef = elim (cases_lt last a) [ inl m ↦ past m | inr m ↦ within m ]
  where
    none : (n : ℕ) (xs : List ℕ) → xs ≡ [] → take n xs ≡ []
    none n xs e = ap (take n) e ∙ take_all n [] (omega arith)

    past : last < a → take (last - first) (drop first l) ≡ part l a b
    past m =
        let z : last - first ≡ 0 = omega arith in
        ap (λ n. take n (drop first l)) z ∙ sym (elim (cases_lt b a) [
          | inl k ↦ (let y : b - a ≡ 0 = omega arith in ap (λ n. take n (drop a l)) y)
          | inr k ↦ none (b - a) (drop a l) (drop_all a l (omega arith))
        ])

    within : a ≤ last → take (last - first) (drop first l) ≡ part l a b
    within m =
        let e : first ≡ a = omega arith in
        let n = length-drop a l in
        ap (λ n. take (last - n) (drop n l)) e ∙ elim (cases_lt (length l) b) [
          | inl k ↦ take_all (last - a) (drop a l) (omega arith) ∙ sym (take_all (b - a) (drop a l) (omega arith))
          | inr k ↦ (let y : last ≡ b = omega arith in ap (λ n. take (n - a) (drop a l)) y)
        ]
