-- Worked values of the functions and the comparisons, with the two bounds of the integers among them.
use Rattle.std.specs.Prelude.{◌≡◌, ℕ, true, false, ℤ, pos, neg_ℤ, Ok, Err}
use Rattle.arithmetic.specs.declared.function.ArithmeticFault.TheVariants.{ZeroDivisor, Overflow}
use Rattle.arithmetic.specs.declared.function.Unary.TheVariants.{Negate, Absolute}
use Rattle.arithmetic.specs.declared.function.Binary.TheVariants.{Add, Subtract, Multiply, Quotient, Modulo}
use Rattle.arithmetic.specs.declared.comparison.Comparison.TheVariants.{Equal, Different, Less, AtMost}
use Rattle.arithmetic.specs.declared.comparison.Comparison.TheVariants.{Greater, AtLeast}
use Rattle.arithmetic.specs.Integers.{applied, paired, compared}

abbrev pub minus : ℕ → ℤ
minus n = neg_ℤ (pos n)

abbrev pub least : ℤ
least = minus 2147483648

abbrev pub greatest : ℤ
greatest = pos 2147483647

pub record WorkedSums : Type 0 where
  pub greatest_and_one : paired Add greatest (pos 1) ≡ Err Overflow
  pub greatest_and_least : paired Add greatest least ≡ Ok (minus 1)
  pub least_less_one : paired Subtract least (pos 1) ≡ Err Overflow
  pub none_less_least : paired Subtract (pos 0) least ≡ Err Overflow
  pub product_above : paired Multiply (pos 65536) (pos 32768) ≡ Err Overflow
  pub product_least : paired Multiply (pos 65536) (minus 32768) ≡ Ok least
  pub opposite_of_least : applied Negate least ≡ Err Overflow
  pub opposite_of_greatest : applied Negate greatest ≡ Ok (minus 2147483647)
  pub magnitude_of_least : applied Absolute least ≡ Err Overflow
  pub magnitude_of_minus_seven : applied Absolute (minus 7) ≡ Ok (pos 7)

pub record WorkedDivisions : Type 0 where
  pub quotient_of_minus_seven : paired Quotient (minus 7) (pos 2) ≡ Ok (minus 3)
  pub quotient_by_minus_two : paired Quotient (pos 7) (minus 2) ≡ Ok (minus 3)
  pub quotient_of_least : paired Quotient least (minus 1) ≡ Err Overflow
  pub quotient_by_zero : paired Quotient least (pos 0) ≡ Err ZeroDivisor
  pub modulo_of_minus_seven : paired Modulo (minus 7) (pos 2) ≡ Ok (pos 1)
  pub modulo_by_minus_two : paired Modulo (pos 7) (minus 2) ≡ Ok (minus 1)
  pub modulo_of_both : paired Modulo (minus 7) (minus 2) ≡ Ok (minus 1)
  pub modulo_of_least : paired Modulo least (minus 1) ≡ Ok (pos 0)
  pub modulo_by_zero : paired Modulo (pos 7) (pos 0) ≡ Err ZeroDivisor

pub record WorkedComparisons : Type 0 where
  pub not_equal : compared Equal (pos 1) (minus 1) ≡ false
  pub different : compared Different (pos 1) (minus 1) ≡ true
  pub least_is_less : compared Less least greatest ≡ true
  pub none_is_less : compared Less (minus 2) (minus 2) ≡ false
  pub same_is_at_most : compared AtMost (minus 2) (minus 2) ≡ true
  pub greater : compared Greater (minus 2) (minus 3) ≡ true
  pub not_at_least : compared AtLeast (minus 3) (minus 2) ≡ false
