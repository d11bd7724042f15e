-- How cursors move.
use Rattle.std.proofs.Common.{◌≡◌, ◌+◌, ◌≤◌, vec_len, vec_capacity, refl, arith}
use Rattle.reader.specs.declared.cursor.Cursor.{Cursor}
use Rattle.reader.specs.Cursors.{Moves}

pub stands : {c : Cursor} → Moves c c
stands {c} = record { stays = record { line = refl; room = refl }; paid = omega arith }

pub moved : {c c' : Cursor} → c'.line.now ≡ c.line.now → vec_capacity c'.ops ≡ vec_capacity c.ops
    → vec_len c'.ops + c.pos ≤ vec_len c.ops + c'.pos → Moves c c'
moved l r p = record { stays = record { line = l; room = r }; paid = p }
