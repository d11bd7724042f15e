-- After i turns the table holds the first i known names, in the memory that was reserved.
use Rattle.std.proofs.Common.{◌≡◌, ◌≤◌, true, take, vec_items, vec_len, vec_capacity}
use Rattle.terms.specs.Known.{known}
use Rattle.names.specs.Table.{ascends, names_of}
use Rattle.names.proofs.names.Names.new.Given as goal

abbrev pub invariant-loop-name : goal.invariant-loop-name
invariant-loop-name l =
    record {
      stored : names_of (vec_items l.bytes) (vec_items l.bounds) ≡ take l.name-index known;
      cut : ascends (vec_len l.bytes) (vec_items l.bounds) ≡ true;
      space : 8192 ≤ vec_capacity l.bytes;
      room : 513 ≤ vec_capacity l.bounds;
    }
