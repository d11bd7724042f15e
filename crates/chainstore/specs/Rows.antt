-- The rows of the rules that are kept. A note is the end at which its rule was added, and none once the rule was taken
-- out. A row is built label by label: each rule in turn goes to the end that is noted, if there is one.
use Rattle.std.specs.Prelude.{ℕ, zero, suc, Bool, false, cond, ◌&&◌, List, [], ◌∷◌, Some, None, Option, is_some}
use Rattle.rules.specs.Meaning.{is_of, placed}
use Rattle.rules.specs.Tables.{Kept}
use Rattle.chainstore.specs.declared.side.Side.{Side}
use Rattle.chainstore.specs.Rings.{end_of}

abbrev pub is_live_of : Kept (Option Side) → ℕ → ℕ → Bool
is_live_of e f a = is_some e.note && is_of e.rule f a

-- the row xs with label l at the end that is noted, if there is one
abbrev pub placed_at : Option Side → ℕ → List ℕ → List ℕ
placed_at None l xs = xs
placed_at (Some side) l xs = placed (end_of side) l xs

-- the row xs with the rule of label l, if it is of this indicator and there
abbrev pub step_of : ℕ → ℕ → ℕ → Kept (Option Side) → List ℕ → List ℕ
step_of f a l e xs = cond (is_of e.rule f a) (placed_at e.note l xs) xs

-- the row xs with the rules of labels l and on
abbrev pub row_from : ℕ → ℕ → ℕ → List ℕ → List (Kept (Option Side)) → List ℕ
row_from f a l xs [] = xs
row_from f a l xs (e ∷ es) = row_from f a (suc l) (step_of f a l e xs) es

abbrev pub row_of : List (Kept (Option Side)) → ℕ → ℕ → List ℕ
row_of es f a = row_from f a 0 [] es

-- whether the entry at a label is a live one of this indicator
abbrev pub live_at : List (Kept (Option Side)) → ℕ → ℕ → ℕ → Bool
live_at [] l f a = false
live_at (e ∷ es) zero f a = is_live_of e f a
live_at (e ∷ es) (suc l) f a = live_at es l f a
