-- The names of a table, read off the bytes and the bounds that it stores.
use Rattle.std.specs.Prelude.{ℕ, Bool, false, ◌&&◌, List, [], ◌∷◌, ◌==◌, nat_le}
use Rattle.std.specs.List.{between}

-- the names that begin at b and at each later bound but the last
abbrev pub cut_from : List ℕ → ℕ → List ℕ → List (List ℕ)
cut_from bytes b [] = []
cut_from bytes b (e ∷ es) = between b e bytes ∷ cut_from bytes e es

-- each name stands between one bound and the next
abbrev pub names_of : List ℕ → List ℕ → List (List ℕ)
names_of bytes [] = []
names_of bytes (b ∷ bs) = cut_from bytes b bs

-- the bounds ascend from b, and the last is n
abbrev pub ascends_from : ℕ → ℕ → List ℕ → Bool
ascends_from n b [] = b == n
ascends_from n b (e ∷ es) = nat_le b e && ascends_from n e es

-- the bounds ascend from 0 to n
abbrev pub ascends : ℕ → List ℕ → Bool
ascends n [] = false
ascends n (b ∷ bs) = b == 0 && ascends_from n b bs
