-- So far the first heads were added.
use Rattle.std.proofs.Common.{◌≡◌, vec_items, vec_len, vec_capacity}
use Rattle.chainstore.specs.Rings.{Alone}
use Rattle.chainstore.proofs.rings.Rings.new.Given as goal

abbrev pub invariant-loop-head : goal.invariant-loop-head
invariant-loop-head l = record {
  alone : Alone l.head (vec_items l.links);
  count : vec_len l.links ≡ l.head;
  room : vec_capacity l.links ≡ vec_capacity l.initial.links;
}
