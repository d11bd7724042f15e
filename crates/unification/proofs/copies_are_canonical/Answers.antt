-- Copies are canonical.
use Rattle.unification.proofs.CopiesProperties.{copy_from_renamed, copy_recovered, copy_copy, copy_shift}
use Rattle.unification.proofs.CopiesProperties.{copy_from_shift}
use Rattle.unification.proofs.CopiesProperties.{copy_from_size, copy_from_width, copy_from_vars}
use Rattle.unification.proofs.copies_are_canonical.Goals as goal

pub returns : goal.returns
returns c =
    record {
      renamed = copy_from_renamed;
      recovered = copy_recovered;
      copy_copy = copy_copy;
      copy_shift = copy_shift;
      shift_copy = copy_from_shift;
      copy_size = copy_from_size;
      copy_width = copy_from_width;
      copy_vars = copy_from_vars;
    }
