-- Terms whose variables are numbered by first appearance, and what is proved of them.
use Rattle.std.specs.Prelude.{◌≡◌, ℕ, zero, suc, ◌+◌, List, [], ◌∷◌, length, slice_index}
use Rattle.terms.specs.Term.{Term, Terms, var, int, app, nil, cons}
use Rattle.writer.specs.Shown.{place_in, firsts, shown}

-- the term, each variable by its place in the list
abbrev mutual
  pub renamed : List ℕ → Term → Term
  renamed seen (var v) = var (place_in seen v)
  renamed seen (int i) = int i
  renamed seen (app f ts) = app f (all_renamed seen ts)

  pub all_renamed : List ℕ → Terms → Terms
  all_renamed seen nil = nil
  all_renamed seen (cons t ts) = cons (renamed seen t) (all_renamed seen ts)

-- the other way: each number by the variable at that place
abbrev mutual
  pub restored : List ℕ → Term → Term
  restored seen (var k) = var (slice_index seen k)
  restored seen (int i) = int i
  restored seen (app f ts) = app f (all_restored seen ts)

  pub all_restored : List ℕ → Terms → Terms
  all_restored seen nil = nil
  all_restored seen (cons t ts) = cons (restored seen t) (all_restored seen ts)

-- the numbers from i on, n of them
abbrev pub count_from : ℕ → ℕ → List ℕ
count_from i zero = []
count_from i (suc n) = i ∷ count_from (i + 1) n

-- the term, its variables numbered by first appearance
abbrev pub in_order : Term → Term
in_order t = renamed (firsts [] t) t

-- its variables are 0, 1, 2 and so on, in order of first appearance
abbrev pub NumberedInOrder : Type 0
NumberedInOrder = (t : Term) → firsts [] (in_order t) ≡ count_from 0 (length (firsts [] t))

-- a term that is so numbered stays
abbrev pub NumberedOnce : Type 0
NumberedOnce = (t : Term) → in_order (in_order t) ≡ in_order t

-- nothing is lost: the variables in order of first appearance give the term back
abbrev pub NothingLost : Type 0
NothingLost = (t : Term) → restored (firsts [] t) (in_order t) ≡ t

-- its text is the same
abbrev pub SameText : Type 0
SameText = (t : Term) → shown [] (in_order t) ≡ shown [] t

-- a head has the same numbers by its own variables and by those of the whole rule
abbrev pub HeadAndBodyAlike : Type 0
HeadAndBodyAlike = (h b : Term) → renamed (firsts (firsts [] h) b) h ≡ in_order h
