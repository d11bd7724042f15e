-- The value of digits grows with each digit, and once it is too large it stays so.
use Rattle.std.proofs.Common.{◌≡◌, ℕ, ◌+◌, ◌-◌, ◌*◌, ◌≤◌, min, List, [], ◌∷◌, ap, ◌∙◌, inl, inr, arith}
use Rattle.std.proofs.lemmas.Bool.{cases_lt}
use Rattle.std.specs.List.{fold}
use Rattle.text.specs.Integers.{magnitude_from}

pub magnitude_grows : (n : ℕ) (s : List ℕ) → n ≤ magnitude_from n s
magnitude_grows n [] = omega arith
magnitude_grows n (c ∷ s) = let h = magnitude_grows (n * 10 + (c - 48)) s in omega arith

-- a digit more, as far as 32 bits reach
abbrev pub with_digit : ℕ → ℕ → ℕ
with_digit n c = min (min (n * 10) 4294967295 + (c - 48)) 4294967295

pub digits_fold : (n : ℕ) (s : List ℕ) → n ≤ 4294967295
    → fold with_digit n s ≡ min (magnitude_from n s) 4294967295
digits_fold n [] l = omega arith
digits_fold n (c ∷ s) l =
    let h = digits_fold (with_digit n c) s (omega arith) in
    let a = magnitude_grows (n * 10 + (c - 48)) s in
    let b = magnitude_grows (with_digit n c) s in
    elim (cases_lt 4294967295 (n * 10 + (c - 48))) [
      | inl m ↦ omega arith
      | inr m ↦ (
          let e : with_digit n c ≡ n * 10 + (c - 48) = omega arith in
          h ∙ ap (λ n. min (magnitude_from n s) 4294967295) e)
    ]
