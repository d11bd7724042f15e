-- Reading leaves the buffer as long as it was made.
use Rattle.std.proofs.Common.{◌≡◌, length}
use Rattle.rulecheck.proofs.check_input.Given as goal

abbrev pub invariant-loop : goal.invariant-loop
invariant-loop g l = length l.buffer ≡ 4096
