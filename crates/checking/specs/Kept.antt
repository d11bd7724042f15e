-- What a buffer for a line keeps of it.
use Rattle.std.specs.Prelude.{ℕ, Bool, List, length, take, Option, nat_lt}

-- a line has at most so many bytes
abbrev pub longest : ℕ
longest = 1019

-- the first bytes of a line, as many as it may have, whether it has more, and its first byte that is no space
pub record Kept : Type 0 where
  pub bytes : List ℕ
  pub long : Bool
  pub first : Option ℕ

-- one byte beyond the longest line tells that the line is longer
abbrev pub kept_of : List ℕ → Option ℕ → Kept
kept_of bytes first = record { bytes = take longest bytes; long = nat_lt longest (length bytes); first = first }
