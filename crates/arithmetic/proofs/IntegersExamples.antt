-- The worked values, each by computation.
use Rattle.std.proofs.Common.{refl}
use Rattle.arithmetic.specs.Worked.{WorkedSums, WorkedDivisions, WorkedComparisons}

pub worked_sums : WorkedSums
worked_sums =
    record {
      greatest_and_one = refl;
      greatest_and_least = refl;
      least_less_one = refl;
      none_less_least = refl;
      product_above = refl;
      product_least = refl;
      opposite_of_least = refl;
      opposite_of_greatest = refl;
      magnitude_of_least = refl;
      magnitude_of_minus_seven = refl;
    }

pub worked_divisions : WorkedDivisions
worked_divisions =
    record {
      quotient_of_minus_seven = refl;
      quotient_by_minus_two = refl;
      quotient_of_least = refl;
      quotient_by_zero = refl;
      modulo_of_minus_seven = refl;
      modulo_by_minus_two = refl;
      modulo_of_both = refl;
      modulo_of_least = refl;
      modulo_by_zero = refl;
    }

pub worked_comparisons : WorkedComparisons
worked_comparisons =
    record {
      not_equal = refl;
      different = refl;
      least_is_less = refl;
      none_is_less = refl;
      same_is_at_most = refl;
      greater = refl;
      not_at_least = refl;
    }
