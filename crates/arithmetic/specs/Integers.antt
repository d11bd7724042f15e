-- Integers of 32 bits: what each function gives, or why it gives nothing, and what the comparisons say.
use Rattle.std.specs.Prelude.{zero, suc, ◌-◌, ◌%◌, Bool, false, cond, not, ℤ, pos, negsuc, ◌+ℤ◌, ◌-ℤ◌, ◌*ℤ◌, neg_ℤ, Ok}
use Rattle.std.specs.Prelude.{Err, Result, ◌==◌, int_div, int_le, int_lt, nat_le, unsigned_abs}
use Rattle.arithmetic.specs.declared.function.ArithmeticFault.{ArithmeticFault}
use Rattle.arithmetic.specs.declared.function.ArithmeticFault.TheVariants.{ZeroDivisor, Overflow}
use Rattle.arithmetic.specs.declared.function.Unary.{Unary}
use Rattle.arithmetic.specs.declared.function.Unary.TheVariants.{Negate, Absolute}
use Rattle.arithmetic.specs.declared.function.Binary.{Binary}
use Rattle.arithmetic.specs.declared.function.Binary.TheVariants.{Add, Subtract, Multiply, Quotient, Modulo}
use Rattle.arithmetic.specs.declared.comparison.Comparison.{Comparison}
use Rattle.arithmetic.specs.declared.comparison.Comparison.TheVariants.{Equal, Different, Less, AtMost}
use Rattle.arithmetic.specs.declared.comparison.Comparison.TheVariants.{Greater, AtLeast}

abbrev pub Computed : Type 0
Computed = Result ℤ ArithmeticFault

-- from -2147483648 to 2147483647
abbrev pub in_range : ℤ → Bool
in_range (pos n) = nat_le n 2147483647
in_range (negsuc n) = nat_le n 2147483647

abbrev pub ranged : ℤ → Computed
ranged z = cond (in_range z) (Ok z) (Err Overflow)

abbrev pub is_zero : ℤ → Bool
is_zero (pos n) = n == 0
is_zero (negsuc n) = false

abbrev pub same_int : ℤ → ℤ → Bool
same_int (pos m) (pos n) = m == n
same_int (pos m) (negsuc n) = false
same_int (negsuc m) (pos n) = false
same_int (negsuc m) (negsuc n) = m == n

abbrev pub sum : ℤ → ℤ → Computed
sum a b = ranged (a +ℤ b)

abbrev pub difference : ℤ → ℤ → Computed
difference a b = ranged (a -ℤ b)

abbrev pub product : ℤ → ℤ → Computed
product a b = ranged (a *ℤ b)

-- rounded toward zero
abbrev pub quotient : ℤ → ℤ → Computed
quotient a b = cond (is_zero b) (Err ZeroDivisor) (ranged (int_div a b))

-- what is left of a after the greatest multiple of b, with the sign of b: from 0 up to b, or from 0 down to b
abbrev pub remainder : ℤ → ℤ → ℤ
remainder (pos m) (pos n) = pos (m % n)
remainder (negsuc m) (pos n) = pos (n - 1 - m % n)
remainder (pos zero) (negsuc n) = pos 0
remainder (pos (suc m)) (negsuc n) = neg_ℤ (pos (n - m % suc n))
remainder (negsuc m) (negsuc n) = neg_ℤ (pos (suc m % suc n))

abbrev pub modulo : ℤ → ℤ → Computed
modulo a b = cond (is_zero b) (Err ZeroDivisor) (Ok (remainder a b))

abbrev pub applied : Unary → ℤ → Computed
applied Negate a = ranged (neg_ℤ a)
applied Absolute a = ranged (pos (unsigned_abs a))

abbrev pub paired : Binary → ℤ → ℤ → Computed
paired Add a b = sum a b
paired Subtract a b = difference a b
paired Multiply a b = product a b
paired Quotient a b = quotient a b
paired Modulo a b = modulo a b

abbrev pub compared : Comparison → ℤ → ℤ → Bool
compared Equal a b = same_int a b
compared Different a b = not (same_int a b)
compared Less a b = int_lt a b
compared AtMost a b = int_le a b
compared Greater a b = int_lt b a
compared AtLeast a b = int_le b a
