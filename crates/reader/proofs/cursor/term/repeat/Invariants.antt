use Rattle.std.proofs.Common.{◌≡◌, ◌+◌, ◌++◌, replicate, vec_items, vec_len, vec_capacity}
use Rattle.reader.proofs.cursor.term.repeat.Given as goal

abbrev pub invariant-loop : goal.invariant-loop
invariant-loop l =
    (vec_items l.ops ≡ vec_items l.initial.ops ++ replicate l.counter l.op)
    × (vec_len l.ops ≡ vec_len l.initial.ops + l.counter) × (vec_capacity l.ops ≡ vec_capacity l.initial.ops)
