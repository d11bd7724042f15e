-- The rings follow the rows.
use Rattle.std.specs.Prelude.{◌≡◌, ℕ, true, List, reverse, Option}
use Rattle.rules.specs.declared.indicator.Indicator.{Indicator}
use Rattle.rules.specs.Meaning.{next_in}
use Rattle.rules.specs.Tables.{Kept}
use Rattle.chainstore.specs.declared.side.Side.{Side}
use Rattle.chainstore.specs.declared.rings.Link.{Link}
use Rattle.chainstore.specs.Rings.{head_of, cell_of, is_in, after_at, before_at}
use Rattle.chainstore.specs.Rows.{row_of}

-- from each cell of the row to the next one, and from the last back to the head
abbrev pub Goes : (ℕ → ℕ) → ℕ → List ℕ → Type 0
Goes go h xs = (o : Option ℕ) → is_in o xs ≡ true → go (cell_of h o) ≡ cell_of h (next_in xs o)

-- the ring with this head follows the row, in both directions
pub record Ring (ls : List Link) (h : ℕ) (xs : List ℕ) : Type 0 where
  pub after : Goes (after_at ls) h xs
  pub before : Goes (before_at ls) h (reverse xs)

-- each indicator's ring follows its row
abbrev pub Linked : List (Kept (Option Side)) → List Link → Type 0
Linked ks ls = (i : Indicator) → Ring ls (head_of i.name i.arity) (row_of ks i.name i.arity)
