-- How a term is shown: its variables are numbered in order of first appearance, and written as _0, _1, and so on.
use Rattle.std.specs.Prelude.{ℕ, suc, cond, List, [], ◌∷◌, ◌++◌, length, ℤ, codes, ◌==◌, nat_lt}
use Rattle.std.specs.Fmt as std
use Rattle.terms.specs.Term.{Term, Terms, var, int, app, nil, cons}
use Rattle.grammar.specs.Written as written
use Rattle.writing.specs.Writing.{text}

-- the decimal digits of a number
abbrev pub decimal : ℕ → List ℕ
decimal n = std.decimal n

-- an integer by its digits, with `-` before those of a negative one
abbrev pub integer_text : ℤ → List ℕ
integer_text i = std.signed_decimal i

-- the first place of a variable among those seen, or their number where it is new
abbrev pub place_in : List ℕ → ℕ → ℕ
place_in [] v = 0
place_in (x ∷ xs) v = cond (x == v) 0 (suc (place_in xs v))

abbrev pub variable_text : List ℕ → ℕ → List ℕ
variable_text seen v = codes "_" ++ decimal (place_in seen v)

-- a variable that is new comes behind those seen
abbrev pub with_variable : List ℕ → ℕ → List ℕ
with_variable seen v = cond (nat_lt (place_in seen v) (length seen)) seen (seen ++ v ∷ [])

-- the variables seen, and then those of the term that are new, in order of first appearance
abbrev mutual
  pub firsts : List ℕ → Term → List ℕ
  firsts seen (var v) = with_variable seen v
  firsts seen (int i) = seen
  firsts seen (app f ts) = firsts_all seen ts

  pub firsts_all : List ℕ → Terms → List ℕ
  firsts_all seen nil = seen
  firsts_all seen (cons t ts) = firsts_all (firsts seen t) ts

-- the term with its variables by their places
abbrev mutual
  pub as_written : List ℕ → Term → written.Written
  as_written seen (var v) = written.var (variable_text seen v)
  as_written seen (int i) = written.int (integer_text i)
  as_written seen (app f ts) = written.app f (all_as_written seen ts)

  pub all_as_written : List ℕ → Terms → written.Writtens
  all_as_written seen nil = written.nil
  all_as_written seen (cons t ts) = written.cons (as_written seen t) (all_as_written seen ts)

-- the text of a term behind others whose variables were seen
abbrev pub shown : List ℕ → Term → List ℕ
shown seen t = text (as_written (firsts seen t) t)
