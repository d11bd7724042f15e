-- The places fall with each call, and the loop keeps the copies of the arguments so far.
use Rattle.std.proofs.Common.{◌≡◌, length}
use Rattle.terms.specs.RowViews.{row_nodes, SameLimit}
use Rattle.terms.proofs.Parts.{Part}
use Rattle.terms.proofs.copy.+lay.Given as goal

abbrev pub decreases-lay : goal.decreases-lay
decreases-lay l = l.at

abbrev pub invariant-loop-k : goal.invariant-loop-k
invariant-loop-k l =
    record {
      limit : SameLimit l.initial.target l.target;
      eight : length l.places ≡ 8;
      part : Part l.inner (row_nodes l.source) (row_nodes l.initial.target) (row_nodes l.target)
          l.argument-items l.places l.k;
    }
