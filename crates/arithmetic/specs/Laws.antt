-- The laws of the two divisions, and the worked values.
use Rattle.std.specs.Prelude.{◌≡◌, ◌<◌, Bool, false, ◌⊎◌, ℤ, pos, ◌+ℤ◌, ◌*ℤ◌, int_div, int_lt, int_rem, unsigned_abs}
use Rattle.arithmetic.specs.Integers.{is_zero, remainder}
use Rattle.arithmetic.specs.Worked.{WorkedSums, WorkedDivisions, WorkedComparisons}

abbrev pub is_negative : ℤ → Bool
is_negative z = int_lt z (pos 0)

-- a is b times q and r more, where r is below b in magnitude, and is zero or has the sign of s
pub record Divided (a b q r s : ℤ) : Type 0 where
  pub whole : a ≡ b *ℤ q +ℤ r
  pub small : unsigned_abs r < unsigned_abs b
  pub sign : (r ≡ pos 0) ⊎ (is_negative r ≡ is_negative s)

-- the quotient rounded toward zero leaves what has the sign of the dividend
abbrev pub QuotientLaw : Type 0
QuotientLaw = (a b : ℤ) → is_zero b ≡ false → Divided a b (int_div a b) (int_rem a b) a

-- by some quotient the remainder is left, and it has the sign of the divisor
abbrev pub RemainderLaw : Type 0
RemainderLaw = (a b : ℤ) → is_zero b ≡ false → (q : ℤ) × Divided a b q (remainder a b) b

-- and nothing but the remainder is left so
abbrev pub RemainderAlone : Type 0
RemainderAlone = (a b q r : ℤ) → Divided a b q r b → r ≡ remainder a b

pub record ArithmeticLaws : Type 0 where
  pub quotients : QuotientLaw
  pub remainders : RemainderLaw
  pub remainders_alone : RemainderAlone
  pub sums : WorkedSums
  pub divisions : WorkedDivisions
  pub comparisons : WorkedComparisons
