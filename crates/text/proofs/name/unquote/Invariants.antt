-- The bytes so far, and then what the rest gives.
use Rattle.std.proofs.Common.{◌≡◌, ◌≤◌, false, ◌++◌, length, vec_items, vec_len, vec_capacity}
use Rattle.tokens.specs.Scanning.{undouble}
use Rattle.text.proofs.name.unquote.Given as goal

abbrev pub invariant-loop-rest : goal.invariant-loop-rest
invariant-loop-rest l = record {
  short : vec_len l.buffer ≤ 64;
  room : vec_capacity l.buffer ≡ vec_capacity l.fn.buffer;
  items : vec_items l.buffer ++ undouble false l.rest ≡ undouble false l.inside;
}

abbrev pub decreases-loop-rest : goal.decreases-loop-rest
decreases-loop-rest l = length l.rest
