-- Integers are compared exactly.
use Rattle.std.proofs.Common.{◌≡◌, ℕ, true, false, ℤ, pos, negsuc, sym, refl, ap, ◌∙◌, arith}
use Rattle.std.proofs.lemmas.Bool.{eqb-true, eq-eqb, both_ways}
use Rattle.unification.specs.Unifying.{same_int}

pub same_int_true : (i j : ℤ) → same_int i j ≡ true → i ≡ j
same_int_true (pos m) (pos n) e = ap pos (eqb-true m n e)
same_int_true (pos m) (negsuc n) e = let z : ◌≡◌ {A = ℕ} 0 1 = cc in absurd (omega arith)
same_int_true (negsuc m) (pos n) e = let z : ◌≡◌ {A = ℕ} 0 1 = cc in absurd (omega arith)
same_int_true (negsuc m) (negsuc n) e = ap negsuc (eqb-true m n e)

same_int_refl : (i : ℤ) → same_int i i ≡ true
same_int_refl (pos m) = eq-eqb m m refl
same_int_refl (negsuc m) = eq-eqb m m refl

pub same_int_false : (i j : ℤ) → same_int i j ≡ false → i ≡ j → ⊥
same_int_false i j e p = both_ways (same_int i j) e (ap (same_int i) (sym p) ∙ same_int_refl i)
