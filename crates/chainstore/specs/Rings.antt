-- Rings of cells: 4,608 heads, one for each indicator, and behind them a cell for each label.
use Rattle.std.specs.Prelude.{◌≡◌, ℕ, ◌+◌, ◌-◌, ◌*◌, ◌<◌, Bool, true, cond, List, reverse, length, Some, None, Option}
use Rattle.std.specs.Prelude.{◌≢◌, ◌≤◌, nat_lt, slice_index_or}
use Rattle.rules.specs.Meaning.{End, front, back, holds, next_in}
use Rattle.chainstore.specs.declared.side.Side.{Side}
use Rattle.chainstore.specs.declared.side.Side.TheVariants.{Front, Back}
use Rattle.chainstore.specs.declared.rings.Link.{Link}

-- the links of all cells, by cell, and for how many labels there is room
pub record Cells : Type 0 where
  pub links : List Link
  pub labels : ℕ

abbrev pub end_of : Side → End
end_of Front = front
end_of Back = back

abbrev pub head_of : ℕ → ℕ → ℕ
head_of f a = f * 9 + a

-- the cell of a label, or the head h itself
abbrev pub cell_of : ℕ → Option ℕ → ℕ
cell_of h None = h
cell_of h (Some l) = 4608 + l

abbrev pub label_of : ℕ → Option ℕ
label_of c = cond (nat_lt c 4608) None (Some (c - 4608))

-- a label of the row, or the head
abbrev pub is_in : Option ℕ → List ℕ → Bool
is_in None xs = true
is_in (Some l) xs = holds l xs

-- what stands before a label of the row, or last in it
abbrev pub backward : List ℕ → Option ℕ → Option ℕ
backward xs o = next_in (reverse xs) o

abbrev pub no_link : Link
no_link = record { before = 0; after = 0 }

abbrev pub after_at : List Link → ℕ → ℕ
after_at ls c = (slice_index_or ls c no_link).after

abbrev pub before_at : List Link → ℕ → ℕ
before_at ls c = (slice_index_or ls c no_link).before

-- one more cell, between p and q; nothing else changes
pub record Inserted (cs : Cells) (p q : ℕ) (ds : Cells) : Type 0 where
  pub len : length ds.links ≡ length cs.links + 1
  pub after_new : after_at ds.links (length cs.links) ≡ q
  pub after_before : after_at ds.links p ≡ length cs.links
  pub after_others : (k : ℕ) → k ≢ p → k ≢ length cs.links → after_at ds.links k ≡ after_at cs.links k
  pub before_new : before_at ds.links (length cs.links) ≡ p
  pub before_after : before_at ds.links q ≡ length cs.links
  pub before_others : (k : ℕ) → k ≢ q → k ≢ length cs.links → before_at ds.links k ≡ before_at cs.links k
  pub labels : ds.labels ≡ cs.labels

-- one more cell at an end of the ring with the head h: behind it, or before it
abbrev pub InsertedAt : End → Cells → ℕ → Cells → Type 0
InsertedAt front cs h ds = Inserted cs h (after_at cs.links h) ds
InsertedAt back cs h ds = Inserted cs (before_at cs.links h) h ds

-- p and q are neighbours; nothing else changes
pub record Bridged (cs : Cells) (p q : ℕ) (ds : Cells) : Type 0 where
  pub len : length ds.links ≡ length cs.links
  pub after_before : after_at ds.links p ≡ q
  pub after_others : (k : ℕ) → k ≢ p → after_at ds.links k ≡ after_at cs.links k
  pub before_after : before_at ds.links q ≡ p
  pub before_others : (k : ℕ) → k ≢ q → before_at ds.links k ≡ before_at cs.links k
  pub labels : ds.labels ≡ cs.labels

-- each link leads to a cell
pub record IsClosed (ls : List Link) : Type 0 where
  pub after : (k : ℕ) → k < length ls → after_at ls k < length ls
  pub before : (k : ℕ) → k < length ls → before_at ls k < length ls

-- each of the first n cells is alone in its ring
pub record Alone (n : ℕ) (ls : List Link) : Type 0 where
  pub after : (k : ℕ) → k < n → after_at ls k ≡ k
  pub before : (k : ℕ) → k < n → before_at ls k ≡ k

-- what holds of all rings: the heads are there, each link leads to a cell, and there is memory for the cells of all
-- labels
pub record IsSound (ls : List Link) (memory labels : ℕ) : Type 0 where
  pub heads : 4608 ≤ length ls
  pub few : length ls ≤ 4608 + labels
  pub reserved : 4608 + labels ≤ memory
  pub small : labels ≤ 1024
  pub closed : IsClosed ls
