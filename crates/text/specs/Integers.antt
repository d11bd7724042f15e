-- The value of an integer as it is written: digits, with a sign before them or not.
use Rattle.std.specs.Prelude.{ℕ, zero, suc, ◌+◌, ◌-◌, ◌*◌, Bool, true, cond, List, [], ◌∷◌, ℤ, pos, negsuc, Some, None}
use Rattle.std.specs.Prelude.{Option, ◌==◌, nat_le, nat_lt}

abbrev pub magnitude_from : ℕ → List ℕ → ℕ
magnitude_from n [] = n
magnitude_from n (c ∷ s) = magnitude_from (n * 10 + (c - 48)) s

abbrev pub negative : ℕ → ℤ
negative zero = pos 0
negative (suc n) = negsuc n

-- the integer that these bytes write
abbrev pub integer_of : List ℕ → ℤ
integer_of [] = pos 0
integer_of (c ∷ s) = cond (c == 45) (negative (magnitude_from 0 s)) (pos (magnitude_from 0 (c ∷ s)))

-- whether it has at most 32 bits
abbrev pub fits_integer : List ℕ → Bool
fits_integer [] = true
fits_integer (c ∷ s) =
    cond (c == 45) (nat_le (magnitude_from 0 s) 2147483648) (nat_lt (magnitude_from 0 (c ∷ s)) 2147483648)

abbrev pub read_integer : List ℕ → Option ℤ
read_integer s = cond (fits_integer s) (Some (integer_of s)) None
