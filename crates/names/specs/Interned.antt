-- What adding a name to a list of names answers, and the list afterwards.
use Rattle.std.specs.Prelude.{ℕ, ◌+◌, Bool, cond, ◌||◌, List, [], ◌∷◌, ◌++◌, length, Some, None, Ok, Err, Option}
use Rattle.std.specs.Prelude.{Result, nat_le, nat_lt}
use Rattle.names.specs.declared.fault.NameFault.{NameFault}
use Rattle.names.specs.declared.fault.NameFault.TheVariants.{TooLong, Full}
use Rattle.names.specs.Listed.{total, place_of}

-- 512 names, or 8,192 bytes, would be passed
abbrev pub full : List (List ℕ) → List ℕ → Bool
full names name = nat_le 512 (length names) || nat_lt 8192 (total names + length name)

-- the answer for a name of at most 64 bytes that stands at the given place, or nowhere
abbrev pub interned_at : List (List ℕ) → List ℕ → Option ℕ → Result ℕ NameFault
interned_at names name (Some place) = Ok place
interned_at names name None = cond (full names name) (Err Full) (Ok (length names))

abbrev pub interned : List (List ℕ) → List ℕ → Result ℕ NameFault
interned names name = cond (nat_lt 64 (length name)) (Err TooLong) (interned_at names name (place_of names name))

abbrev pub list_after_at : List (List ℕ) → List ℕ → Option ℕ → List (List ℕ)
list_after_at names name (Some place) = names
list_after_at names name None = cond (full names name) names (names ++ name ∷ [])

abbrev pub list_after : List (List ℕ) → List ℕ → List (List ℕ)
list_after names name = cond (nat_lt 64 (length name)) names (list_after_at names name (place_of names name))
