-- From terms as they are written to terms: variables are numbered as they are met, integers have their value.
use Rattle.std.specs.Prelude.{ℕ, ◌+◌, Bool, true, false, cond, List, [], ◌∷◌, ◌++◌, length, Some, None, codes, Option}
use Rattle.tokens.specs.Bytes.{same}
use Rattle.terms.specs.Term.{Term, Terms, var, int, app, nil, cons}
use Rattle.grammar.specs.Written as written
use Rattle.grammar.specs.Written.{Written, Writtens}
use Rattle.text.specs.Integers.{integer_of}

-- the names of the variables met so far, in order; a lone `_` stands there once for each place
abbrev pub Met : Type 0
Met = List (List ℕ)

-- the place of a name from place i on, or the place behind the last
abbrev pub place_from : ℕ → Met → List ℕ → ℕ
place_from i [] a = i
place_from i (b ∷ bs) a = cond (same b a) i (place_from (i + 1) bs a)

abbrev pub is_met : Met → List ℕ → Bool
is_met [] a = false
is_met (b ∷ bs) a = cond (same b a) true (is_met bs a)

-- the place of a name, if it was met
abbrev pub found_from : ℕ → Met → List ℕ → Option ℕ
found_from i [] a = None
found_from i (b ∷ bs) a = cond (same b a) (Some i) (found_from (i + 1) bs a)

-- a lone `_` is a new variable at each place
abbrev pub is_lone : List ℕ → Bool
is_lone a = same a (codes "_")

abbrev pub found_in : Met → List ℕ → Option ℕ
found_in e a = cond (is_lone a) None (found_from 0 e a)

abbrev pub number_of : Met → List ℕ → ℕ
number_of e a = cond (is_lone a) (length e) (place_from 0 e a)

abbrev pub meets : Met → List ℕ → Met
meets e a = cond (is_lone a) (e ++ a ∷ []) (cond (is_met e a) e (e ++ a ∷ []))

-- the variables met behind a term
abbrev mutual
  pub met : Met → Written → Met
  met e (written.var a) = meets e a
  met e (written.int a) = e
  met e (written.app f ts) = met_all e ts

  pub met_all : Met → Writtens → Met
  met_all e written.nil = e
  met_all e (written.cons t ts) = met_all (met e t) ts

-- the term, where these variables were met before
abbrev mutual
  pub numbered : Met → Written → Term
  numbered e (written.var a) = var (number_of e a)
  numbered e (written.int a) = int (integer_of a)
  numbered e (written.app f ts) = app f (numbered_all e ts)

  pub numbered_all : Met → Writtens → Terms
  numbered_all e written.nil = nil
  numbered_all e (written.cons t ts) = cons (numbered e t) (numbered_all (met e t) ts)

-- the same of a stack of terms, of which the last stands on top: they are met from the bottom to the top
abbrev pub met_stack : List Written → Met
met_stack [] = []
met_stack (t ∷ st) = met (met_stack st) t

-- its terms from the bottom to the top
abbrev pub numbered_stack : List Written → List Term
numbered_stack [] = []
numbered_stack (t ∷ st) = numbered_stack st ++ numbered (met_stack st) t ∷ []
