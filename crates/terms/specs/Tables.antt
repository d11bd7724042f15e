-- Tables of names: each begins with the known names and has no name twice.
use Rattle.std.specs.Prelude.{◌≡◌, ℕ, ◌<◌, List, [], length, take, slice_index_or}
use Rattle.terms.specs.Known.{known}

pub record Tabled (ns : List (List ℕ)) : Type 0 where
  pub begins : take 48 ns ≡ known
  pub once : (i j : ℕ) → i < length ns → j < length ns → slice_index_or ns i [] ≡ slice_index_or ns j [] → i ≡ j
