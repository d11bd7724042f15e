-- The laws, one by one.
use Rattle.arithmetic.proofs.LawsProperties.{quotient_law, remainder_law, remainder_alone}
use Rattle.arithmetic.proofs.IntegersExamples.{worked_sums, worked_divisions, worked_comparisons}
use Rattle.arithmetic.proofs.laws.remainder_is_lawful.Goals as goal

pub returns : goal.returns
returns c =
    record {
      quotients = quotient_law;
      remainders = remainder_law;
      remainders_alone = remainder_alone;
      sums = worked_sums;
      divisions = worked_divisions;
      comparisons = worked_comparisons;
    }
