-- Lines of input: which are skipped, which are refused whatever they say, and what is kept of a line.
use Rattle.std.specs.Prelude.{◌≡◌, ℕ, ◌+◌, Bool, true, false, cond, ◌||◌, List, [], ◌∷◌, length, take, Some, None}
use Rattle.std.specs.Prelude.{Option, ◌==◌, nat_lt}
use Rattle.checking.specs.Kept.{Kept, longest}
use Rattle.checking.specs.declared.line.LineProblem.{LineProblem}
use Rattle.checking.specs.declared.line.LineProblem.TheVariants.{BadByte, TooLong}

-- the first byte that is no space, where this one was found before
abbrev pub first_after : Option ℕ → ℕ → Option ℕ
first_after (Some b) c = Some b
first_after None c = cond (c == 32) None (Some c)

abbrev pub first_from : Option ℕ → List ℕ → Option ℕ
first_from f [] = f
first_from f (c ∷ s) = first_from (first_after f c) s

abbrev pub is_comment : Option ℕ → Bool
is_comment None = true
is_comment (Some c) = c == 37

-- a line of spaces, or a comment: its first byte that is no space is `%`
abbrev pub is_skipped : List ℕ → Bool
is_skipped s = is_comment (first_from None s)

abbrev pub is_blank : List ℕ → Bool
is_blank [] = true
is_blank (c ∷ s) = false

-- a byte that is no printable ASCII character
abbrev pub is_bad : ℕ → Bool
is_bad c = nat_lt c 32 || nat_lt 126 c

-- the first bad byte, the first of these bytes having the place i
abbrev pub bad_from : ℕ → List ℕ → Option LineProblem
bad_from i [] = None
bad_from i (c ∷ s) = cond (is_bad c) (Some (BadByte i)) (bad_from (i + 1) s)

abbrev pub problem_of : List ℕ → Option LineProblem
problem_of s = cond (nat_lt longest (length s)) (Some TooLong) (bad_from 0 s)

-- what is kept of the line s
pub record Keeps (kept : Kept) (s : List ℕ) : Type 0 where
  pub front : kept.bytes ≡ take longest s
  pub more : kept.long ≡ nat_lt longest (length s)
  pub begins : kept.first ≡ first_from None s
