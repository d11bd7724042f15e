-- What fits 32 bits is in range, so that a checked operation gives its value or an overflow as `ranged` says.
use Rattle.std.proofs.Common.{◌≡◌, ℕ, zero, suc, ◌<◌, true, false, leb, ℤ, pos, negsuc, neg_ℤ, nat_abs, Some, None, Ok}
use Rattle.std.proofs.Common.{Option, refl, ap, ⊎_elim, arith, w32, SFits, of_z}
use lib.Signed.{quot_z}
use Rattle.std.specs.Option.{SomeIff, ok_or}
use Rattle.std.proofs.lemmas.Bool.{le-leb, lt-leb, ne_eqb, cases_lt}
use Rattle.arithmetic.specs.declared.function.ArithmeticFault.TheVariants.{Overflow}
use Rattle.arithmetic.specs.Integers.{in_range, ranged, is_zero, quotient}

above_is_not_leb : (n : ℕ) → (n < 2147483648 → ⊥) → leb n 2147483647 ≡ false
above_is_not_leb n h = ⊎_elim (λ k. absurd (h k)) (λ k. lt-leb n 2147483647 k) (cases_lt n 2147483648)

pub fitting_is_in_range : (z : ℤ) → SFits w32 z → in_range z ≡ true
fitting_is_in_range (pos n) h = le-leb n 2147483647 (omega (arith, h.sfits))
fitting_is_in_range (negsuc n) h = le-leb n 2147483647 (omega (arith, h.sfits))

pub unfitting_is_not_in_range : (z : ℤ) → (SFits w32 z → ⊥) → in_range z ≡ false
unfitting_is_not_in_range (pos n) h = above_is_not_leb n (λ k. h (record { sfits = k }))
unfitting_is_not_in_range (negsuc n) h = above_is_not_leb n (λ k. h (record { sfits = k }))

-- the value of a checked operation, or an overflow
pub ok_or_checked_is_ranged : (o : Option ℤ) (v : ℤ) → SomeIff o (SFits w32 v) v → ok_or o Overflow ≡ ranged v
ok_or_checked_is_ranged None v h = rw (unfitting_is_not_in_range v h)
ok_or_checked_is_ranged (Some x) v h = rw (fitting_is_in_range v h.0) (ap Ok h.1)

checked_like : {P Q : Type 0} (o : Option ℤ) (v : ℤ) → (P → Q) → (Q → P) → SomeIff o P v → SomeIff o Q v
checked_like None v there back h = λ q. h (back q)
checked_like (Some x) v there back h = (there h.0, h.1)

-- the opposite and the magnitude fit alike
absolute_fits : (a : ℤ) → SFits w32 a → SFits w32 (neg_ℤ a) → SFits w32 (pos (nat_abs a))
absolute_fits (pos n) f h = f
absolute_fits (negsuc n) f h = h

opposite_fits : (a : ℤ) → SFits w32 a → SFits w32 (pos (nat_abs a)) → SFits w32 (neg_ℤ a)
opposite_fits (pos zero) f h = h
opposite_fits (pos (suc n)) f h = record { sfits = omega (arith, h.sfits) }
opposite_fits (negsuc n) f h = h

pub ok_or_checked_absolute_is_ranged :
    (o : Option ℤ) (a : ℤ) → SFits w32 a → SomeIff o (SFits w32 (neg_ℤ a)) (pos (nat_abs a))
    → ok_or o Overflow ≡ ranged (pos (nat_abs a))
ok_or_checked_absolute_is_ranged o a f h =
    ok_or_checked_is_ranged o (pos (nat_abs a))
    (checked_like o (pos (nat_abs a)) (absolute_fits a f) (opposite_fits a f) h)

-- a divisor whose bits are not zero
pub is_zero_by_bits : (b : ℤ) → (of_z w32 b ≡ 0 → ⊥) → is_zero b ≡ false
is_zero_by_bits (pos n) h = ne_eqb n 0 h
is_zero_by_bits (negsuc n) h = refl

pub ok_or_checked_quotient_is_quotient :
    (o : Option ℤ) (a b : ℤ) → (of_z w32 b ≡ 0 → ⊥)
    → SomeIff o ((0 < of_z w32 b) × SFits w32 (quot_z a b)) (quot_z a b) → ok_or o Overflow ≡ quotient a b
ok_or_checked_quotient_is_quotient o a b nonzero h =
    rw (is_zero_by_bits b nonzero)
    (ok_or_checked_is_ranged o (quot_z a b)
    (checked_like o (quot_z a b) (λ k. k.1) (λ k. (omega (arith, nonzero), k)) h))
