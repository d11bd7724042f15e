-- The remainder with the sign of the divisor is the one that is never negative, or that and the divisor.
use Rattle.std.proofs.Common.{◌≡◌, ℕ, zero, suc, ◌+◌, ◌-◌, ◌*◌, ◌/◌, ◌%◌, ◌<◌, true, false, ◌⊎◌, ℤ, pos, negsuc, ◌+ℤ◌}
use Rattle.std.proofs.Common.{neg_ℤ, nat_abs, Ok, sym, refl, ap, ◌∙◌, inl, inr, ⊎_elim, mod-lt, zero-lt-suc, arith, w32}
use Rattle.std.proofs.Common.{SFits, of_z}
use native.Mathlib.Nat.{div-add-mod, zero-mod}
use lib.Signed.{lt_z}
use Rattle.std.specs.Int.{int_rem_euclid}
use Rattle.std.proofs.lemmas.Nat.{mod-mul-add}
use Rattle.std.proofs.lemmas.Int.{ints}
use Rattle.std.proofs.lemmas.Bool.{cases_lt, ltb-true, ne_eqb, true≢false}
use Rattle.arithmetic.specs.Integers.{remainder, modulo}

-- one more: the rest is one more, or starts again at zero
suc_mod_below : (m n : ℕ) → m % suc n < n → suc m % suc n ≡ suc (m % suc n)
suc_mod_below m n h =
    let k : ℕ = m / suc n in
    let e : suc m ≡ k * suc n + suc (m % suc n) = omega (arith, div-add-mod m (suc n)) in
    ap (λ x. x % suc n) e ∙ mod-mul-add k (suc n) (suc (m % suc n)) (omega arith)

suc_mod_top : (m n : ℕ) → m % suc n ≡ n → suc m % suc n ≡ 0
suc_mod_top m n h =
    let k : ℕ = m / suc n in
    let e : suc m ≡ suc k * suc n + 0 = omega (arith, div-add-mod m (suc n)) in
    ap (λ x. x % suc n) e ∙ mod-mul-add (suc k) (suc n) 0 (zero-lt-suc n)

suc_mod :
    (m n : ℕ)
    → ((suc m % suc n ≡ 0) × (m % suc n ≡ n)) ⊎ ((suc m % suc n ≡ suc (m % suc n)) × (m % suc n < n))
suc_mod m n =
    ⊎_elim
    (λ h. inr (suc_mod_below m n h, h))
    (λ h. let top : m % suc n ≡ n = omega (arith, mod-lt m (zero-lt-suc n)) in inl (suc_mod_top m n top, top))
    (cases_lt (m % suc n) n)

pub remainder_of_pos : (a : ℤ) (n : ℕ) → int_rem_euclid a (pos n) ≡ remainder a (pos n)
remainder_of_pos (pos m) n = refl
remainder_of_pos (negsuc m) n = refl

from_pos : (k j : ℕ) → pos k ≡ pos j → k ≡ j
from_pos k j h = cc

zero_is_opposite : (k : ℕ) → k ≡ 0 → pos 0 ≡ neg_ℤ (pos k)
zero_is_opposite k h = rw h

remainder_of_negsuc_zero :
    (a : ℤ) (n : ℕ) → int_rem_euclid a (negsuc n) ≡ pos 0 → pos 0 ≡ remainder a (negsuc n)
remainder_of_negsuc_zero (pos zero) n h = refl
remainder_of_negsuc_zero (pos (suc m)) n h =
    ⊎_elim
    (λ k. zero_is_opposite (n - m % suc n) (omega (arith, k.1)))
    (λ k. absurd (omega (arith, from_pos _ _ h, k.0))) (suc_mod m n)
remainder_of_negsuc_zero (negsuc m) n h =
    ⊎_elim
    (λ k. zero_is_opposite (suc m % suc n) k.0)
    (λ k. absurd (omega (arith, from_pos _ _ h, k.1))) (suc_mod m n)

remainder_of_negsuc_more :
    (a : ℤ) (n : ℕ) → (int_rem_euclid a (negsuc n) ≡ pos 0 → ⊥)
    → int_rem_euclid a (negsuc n) +ℤ negsuc n ≡ remainder a (negsuc n)
remainder_of_negsuc_more (pos zero) n h = absurd (h (ap pos (zero-mod (suc n))))
remainder_of_negsuc_more (pos (suc m)) n h =
    ⊎_elim (λ k. absurd (h (ap pos k.0))) (λ k. omega (arith, ints, k.0, k.1)) (suc_mod m n)
remainder_of_negsuc_more (negsuc m) n h =
    ⊎_elim (λ k. absurd (h (ap pos (omega (arith, k.1))))) (λ k. omega (arith, ints, k.0, k.1)) (suc_mod m n)

zero_by_bits : (r : ℤ) → SFits w32 r → of_z w32 r ≡ 0 → r ≡ pos 0
zero_by_bits (pos n) f h = ap pos h
zero_by_bits (negsuc n) f h = absurd (omega (arith, h, f.sfits))

nonzero_by_bits : (r : ℤ) → (of_z w32 r ≡ 0 → ⊥) → r ≡ pos 0 → ⊥
nonzero_by_bits r h e = h (ap (of_z w32) e)

-- what the code gives where the divisor is negative and the rest is not zero
pub modulo_is_rest_and_divisor :
    (a b r : ℤ) → r ≡ int_rem_euclid a b → lt_z b (pos 0) ≡ true → (of_z w32 r ≡ 0 → ⊥) → Ok (r +ℤ b) ≡ modulo a b
modulo_is_rest_and_divisor a (pos n) r e below some = absurd (omega (arith, ltb-true n 0 below))
modulo_is_rest_and_divisor a (negsuc n) r e below some =
    ap Ok (rw e (remainder_of_negsuc_more a n (λ h. nonzero_by_bits r some (e ∙ h))))

-- and where the divisor is positive or the rest is zero
pub modulo_is_rest :
    (a b r : ℤ) → r ≡ int_rem_euclid a b → SFits w32 r → nat_abs r < nat_abs b
    → ((lt_z b (pos 0) ≡ true) × (of_z w32 r ≡ 0)) ⊎ (lt_z b (pos 0) ≡ false) → Ok r ≡ modulo a b
modulo_is_rest a (pos n) r e f small way =
    rw (ne_eqb n 0 (λ h. omega arith)) (ap Ok (e ∙ remainder_of_pos a n))
modulo_is_rest a (negsuc n) r e f small (inr h) = absurd (true≢false h)
modulo_is_rest a (negsuc n) r e f small (inl h) =
    let z : r ≡ pos 0 = zero_by_bits r f h.1 in
    ap Ok (z ∙ remainder_of_negsuc_zero a n (sym e ∙ z))
