-- The laws of the two divisions, by the signs of the dividend and the divisor.
use Rattle.std.proofs.Common.{◌≡◌, ℕ, zero, suc, ◌+◌, ◌-◌, ◌*◌, ◌/◌, ◌%◌, ◌<◌, false, ◌⊎◌, ℤ, pos, negsuc, ◌+ℤ◌, ◌*ℤ◌}
use Rattle.std.proofs.Common.{neg_ℤ, nat_abs, sym, refl, ap, ◌∙◌, inl, inr, mod-lt, zero-lt-suc, mul-zero, arith}
use native.Mathlib.Nat.{div-add-mod, zero-mod}
use lib.IntN.{neg_ℤ-+ℤ, pos-ne-negsuc}
use lib.Signed.{quot_z, rem_z}
use Rattle.std.proofs.lemmas.Nat.{mod-mul-add}
use Rattle.std.proofs.lemmas.Int.{ints}
use Rattle.std.proofs.lemmas.Bool.{eqb-false, le-ltb, true≢false}
use Rattle.arithmetic.specs.Integers.{is_zero, remainder}
use Rattle.arithmetic.specs.Laws.{QuotientLaw, RemainderLaw, RemainderAlone, is_negative}

-- opposites of natural numbers

negsuc_times_opposite : (n k : ℕ) → negsuc n *ℤ neg_ℤ (pos k) ≡ pos (suc n * k)
negsuc_times_opposite n zero = rw mul-zero
negsuc_times_opposite n (suc k) = refl

pos_times_opposite : (n k : ℕ) → pos n *ℤ neg_ℤ (pos k) ≡ neg_ℤ (pos (n * k))
pos_times_opposite n zero = rw mul-zero
pos_times_opposite n (suc k) = refl

nat_abs_opposite : (n : ℕ) → nat_abs (neg_ℤ (pos n)) ≡ n
nat_abs_opposite zero = refl
nat_abs_opposite (suc n) = refl

pos_is_negative : (n : ℕ) → is_negative (pos n) ≡ false
pos_is_negative n = le-ltb n 0 (omega arith)

sign_of_pos : (n m : ℕ) → (pos n ≡ pos 0) ⊎ (is_negative (pos n) ≡ is_negative (pos m))
sign_of_pos n m = inr (pos_is_negative n ∙ sym (pos_is_negative m))

sign_of_opposite :
    (n m : ℕ) → (neg_ℤ (pos n) ≡ pos 0) ⊎ (is_negative (neg_ℤ (pos n)) ≡ is_negative (negsuc m))
sign_of_opposite zero m = inl refl
sign_of_opposite (suc n) m = inr refl

above_zero : (n : ℕ) → is_zero (pos n) ≡ false → 0 < n
above_zero n h = omega (arith, eqb-false n 0 h)

-- rounded toward zero

quotient_whole : (a b : ℤ) → a ≡ b *ℤ quot_z a b +ℤ rem_z a b
quotient_whole (pos m) (pos n) = ap pos (sym (div-add-mod m n))
quotient_whole (pos m) (negsuc n) = rw negsuc_times_opposite (ap pos (sym (div-add-mod m (suc n))))
quotient_whole (negsuc m) (pos n) = rw pos_times_opposite (omega (arith, ints, div-add-mod (suc m) n))
quotient_whole (negsuc m) (negsuc n) = omega (arith, ints, div-add-mod (suc m) (suc n))

quotient_small : (a b : ℤ) → is_zero b ≡ false → nat_abs (rem_z a b) < nat_abs b
quotient_small (pos m) (pos n) h = mod-lt m (above_zero n h)
quotient_small (pos m) (negsuc n) h = mod-lt m (zero-lt-suc n)
quotient_small (negsuc m) (pos n) h = rw nat_abs_opposite (mod-lt (suc m) (above_zero n h))
quotient_small (negsuc m) (negsuc n) h = rw nat_abs_opposite (mod-lt (suc m) (zero-lt-suc n))

quotient_sign : (a b : ℤ) → (rem_z a b ≡ pos 0) ⊎ (is_negative (rem_z a b) ≡ is_negative a)
quotient_sign (pos m) b = sign_of_pos (m % nat_abs b) m
quotient_sign (negsuc m) b = sign_of_opposite (suc m % nat_abs b) m

pub quotient_law : QuotientLaw
quotient_law a b h = record { whole = quotient_whole a b; small = quotient_small a b h; sign = quotient_sign a b }

-- with the sign of the divisor

floor_z : ℤ → ℤ → ℤ
floor_z (pos m) (pos n) = pos (m / n)
floor_z (negsuc m) (pos n) = negsuc (m / n)
floor_z (pos zero) (negsuc n) = pos 0
floor_z (pos (suc m)) (negsuc n) = negsuc (m / suc n)
floor_z (negsuc m) (negsuc n) = pos (suc m / suc n)

remainder_whole : (a b : ℤ) → is_zero b ≡ false → a ≡ b *ℤ floor_z a b +ℤ remainder a b
unfolding floor_z
remainder_whole (pos m) (pos n) h = quotient_whole (pos m) (pos n)
remainder_whole (negsuc m) (pos n) h =
    omega (arith, ints, div-add-mod m n, mod-lt m (above_zero n h))
remainder_whole (pos zero) (negsuc n) h = rw mul-zero
remainder_whole (pos (suc m)) (negsuc n) h =
    omega (arith, ints, div-add-mod m (suc n), mod-lt m (zero-lt-suc n))
remainder_whole (negsuc m) (negsuc n) h = quotient_whole (negsuc m) (negsuc n)

remainder_small : (a b : ℤ) → is_zero b ≡ false → nat_abs (remainder a b) < nat_abs b
remainder_small (pos m) (pos n) h = mod-lt m (above_zero n h)
remainder_small (negsuc m) (pos n) h = omega (arith, above_zero n h)
remainder_small (pos zero) (negsuc n) h = zero-lt-suc n
remainder_small (pos (suc m)) (negsuc n) h = rw nat_abs_opposite (omega arith)
remainder_small (negsuc m) (negsuc n) h = rw nat_abs_opposite (mod-lt (suc m) (zero-lt-suc n))

remainder_sign : (a b : ℤ) → (remainder a b ≡ pos 0) ⊎ (is_negative (remainder a b) ≡ is_negative b)
remainder_sign (pos m) (pos n) = sign_of_pos (m % n) n
remainder_sign (negsuc m) (pos n) = sign_of_pos (n - 1 - m % n) n
remainder_sign (pos zero) (negsuc n) = inl refl
remainder_sign (pos (suc m)) (negsuc n) = sign_of_opposite (n - m % suc n) n
remainder_sign (negsuc m) (negsuc n) = sign_of_opposite (suc m % suc n) n

pub remainder_law : RemainderLaw
remainder_law a b h = (
  floor_z a b,
  record { whole = remainder_whole a b h; small = remainder_small a b h; sign = remainder_sign a b },
)

-- and nothing else has this size and this sign

rest_mod : (n k s : ℕ) → s < n → (n * k + s) % n ≡ s
rest_mod n k s h = ap (λ x. x % n) (omega arith) ∙ mod-mul-add k n s h

-- the dividend n times q and s more, for n above s
pos_remainder : (n : ℕ) (q : ℤ) (s : ℕ) → s < n → pos s ≡ remainder (pos n *ℤ q +ℤ pos s) (pos n)
pos_remainder n (pos k) s h = ap pos (sym (rest_mod n k s h))
pos_remainder n (negsuc k) s h =
    let e : pos n *ℤ negsuc k +ℤ pos s ≡ negsuc (n * k + (n - 1 - s)) = omega (arith, ints) in
    rw e (rw (rest_mod n k (n - 1 - s) (omega arith)) (ap pos (omega arith)))

-- the same below zero
remainder_opposite : (m n : ℕ) → remainder (neg_ℤ (pos m)) (negsuc n) ≡ neg_ℤ (pos (m % suc n))
remainder_opposite zero n = rw zero-mod
remainder_opposite (suc m) n = refl

negsuc_remainder :
    (n : ℕ) (q : ℤ) (t : ℕ) → t < suc n
    → neg_ℤ (pos t) ≡ remainder (negsuc n *ℤ q +ℤ neg_ℤ (pos t)) (negsuc n)
negsuc_remainder n (pos k) t h =
    rw (sym (neg_ℤ-+ℤ (pos (suc n * k)) (pos t)), remainder_opposite, rest_mod (suc n) k t h)
negsuc_remainder n (negsuc k) t h =
    let e : negsuc n *ℤ negsuc k +ℤ neg_ℤ (pos t) ≡ pos (suc (suc n * k + (n - t))) = omega (arith, ints) in
    rw e (rw (rest_mod (suc n) k (n - t) (omega arith)) (ap (λ x. neg_ℤ (pos x)) (omega arith)))

-- a remainder has not the other sign
pos_sign : (n s : ℕ) → (negsuc s ≡ pos 0) ⊎ (is_negative (negsuc s) ≡ is_negative (pos n)) → ⊥
pos_sign n s (inl h) = pos-ne-negsuc 0 s (sym h)
pos_sign n s (inr h) = true≢false (h ∙ pos_is_negative n)

negsuc_sign : (n s : ℕ) → (pos (suc s) ≡ pos 0) ⊎ (is_negative (pos (suc s)) ≡ is_negative (negsuc n)) → ⊥
negsuc_sign n s (inl h) = let e : suc s ≡ 0 = cc in omega arith
negsuc_sign n s (inr h) = true≢false (sym h ∙ pos_is_negative (suc s))

pub remainder_alone : RemainderAlone
remainder_alone a (pos n) q (pos s) d = rw d.whole (pos_remainder n q s d.small)
remainder_alone a (pos n) q (negsuc s) d = absurd (pos_sign n s d.sign)
remainder_alone a (negsuc n) q (pos zero) d = rw d.whole (negsuc_remainder n q 0 d.small)
remainder_alone a (negsuc n) q (pos (suc s)) d = absurd (negsuc_sign n s d.sign)
remainder_alone a (negsuc n) q (negsuc s) d = rw d.whole (negsuc_remainder n q (suc s) d.small)
