-- What holds of the list of names of a table (short names, no name twice, the known names first),
-- and where a name stands.
use Rattle.std.specs.Prelude.{◌≡◌, ℕ, ◌+◌, ◌<◌, ◌≤◌, Bool, true, false, cond, not, ◌&&◌, List, [], ◌∷◌, length}
use Rattle.std.specs.Prelude.{take, Some, None, Option, ◌≢◌, nat_le, nat_lt, slice_index_or}
use Rattle.std.specs.List.{list_all, list_any, position_from}
use Rattle.std.specs.Str.{bytes_eq}
use Rattle.terms.specs.Known.{known}

-- how many bytes the names have in all
abbrev pub total : List (List ℕ) → ℕ
total [] = 0
total (x ∷ xs) = length x + total xs

-- no name has more than 64 bytes
abbrev pub short : List (List ℕ) → Bool
short names = list_all (λ x. nat_le (length x) 64) names

-- the name stands among the names
abbrev pub held : List ℕ → List (List ℕ) → Bool
held name names = list_any (λ x. bytes_eq x name) names

-- no name stands twice
abbrev pub distinct : List (List ℕ) → Bool
distinct [] = true
distinct (x ∷ xs) = not (held x xs) && distinct xs

-- the second list begins with the first, as a test
abbrev pub begins : List (List ℕ) → List (List ℕ) → Bool
begins [] ys = true
begins (x ∷ xs) [] = false
begins (x ∷ xs) (y ∷ ys) = bytes_eq x y && begins xs ys

-- the first place where the name stands, where the first name has the place i
abbrev pub place_from : ℕ → List (List ℕ) → List ℕ → Option ℕ
place_from i names name = position_from (λ x. bytes_eq x name) i names

abbrev pub place_of : List (List ℕ) → List ℕ → Option ℕ
place_of names name = place_from 0 names name

-- the name with a number, if there is one
abbrev pub name_at : List (List ℕ) → ℕ → Option (List ℕ)
name_at names i = cond (nat_lt i (length names)) (Some (slice_index_or names i [])) None

-- the second list begins with the first, so that each name of the first keeps its place
abbrev pub Extends : List (List ℕ) → List (List ℕ) → Type 0
Extends before after = take (length before) after ≡ before

-- what a search for a name tells: a place where it stands, or that it stands nowhere
abbrev pub Tells : List (List ℕ) → List ℕ → Option ℕ → Type 0
Tells names name None = (i : ℕ) → name_at names i ≢ Some name
Tells names name (Some i) = name_at names i ≡ Some name

-- what holds of the names of every table
pub record Lawful (names : List (List ℕ)) : Type 0 where
  pub few : length names ≤ 512
  pub small : total names ≤ 8192
  pub first : take 48 names ≡ known
  pub brief : (i : ℕ) → length (slice_index_or names i []) ≤ 64
  pub apart : (i : ℕ) → i < length names → place_of names (slice_index_or names i []) ≡ Some i
