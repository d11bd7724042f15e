-- Indicators: a name by its number, and a number of arguments.
use Rattle.std.specs.Prelude.{ℕ, Bool, ◌&&◌, ◌==◌, nat_le, nat_lt}

abbrev pub fits : ℕ → ℕ → Bool
fits name arity = nat_lt name 512 && nat_le arity 8

-- the two are one indicator
abbrev pub is_one : ℕ → ℕ → ℕ → ℕ → Bool
is_one f a g b = f == g && a == b
