-- How a term is written: no spaces, quotes only where a name needs them, lists in square brackets and conjunctions
-- in round ones.
use Rattle.std.specs.Prelude.{ℕ, Bool, true, false, cond, not, ◌&&◌, ◌||◌, List, [], ◌∷◌, ◌++◌, codes}
use Rattle.terms.specs.Known.{comma_name, dot_name, empty_name}
use Rattle.tokens.specs.Bytes.{small, word, symbol, quote, same}
use Rattle.tokens.specs.Token.{neck_bytes}
use Rattle.grammar.specs.Written.{Written, Writtens, var, int, app, nil, cons}

abbrev pub all : (ℕ → Bool) → List ℕ → Bool
all f [] = true
all f (c ∷ s) = f c && all f s

-- a name that needs no quotes: a small letter and then letters, digits and `_`; symbols, but for `:-`; `;`; `!`
abbrev pub bare : List ℕ → Bool
bare [] = false
bare (c ∷ s) =
    (small c && all word s) || (all symbol (c ∷ s) && not (same (c ∷ s) neck_bytes))
    || same (c ∷ s) (codes ";") || same (c ∷ s) (codes "!")

abbrev pub doubled : List ℕ → List ℕ
doubled [] = []
doubled (c ∷ s) = cond (quote c) (c ∷ c ∷ doubled s) (c ∷ doubled s)

-- a name; in quotes, those inside it doubled, if it is not bare
abbrev pub name_text : List ℕ → List ℕ
name_text a = cond (bare a) a (codes "'" ++ doubled a ++ codes "'")

-- what a name with these arguments is written as
pub data Form : Type 0 where
  constant : Form
  empty : Form
  list : Form
  conjunction : Form
  plain : Form

abbrev pub form : List ℕ → Writtens → Form
form f nil = cond (same f empty_name) empty constant
form f (cons t nil) = plain
form f (cons t (cons u nil)) = cond (same f dot_name) list (cond (same f comma_name) conjunction plain)
form f (cons t (cons u (cons v vs))) = plain

-- Where a term is written: by itself (first in its brackets, too), as an argument behind another,
-- as the tail of an open list, as the right side of an open conjunction.
pub data Spot : Type 0 where
  alone : Spot
  argument : Spot
  in_list : Spot
  in_conjunction : Spot

-- a tail that is a list goes on with the list, and a right side that is a conjunction with the conjunction
abbrev pub goes_on : Spot → Form → Bool
goes_on alone k = false
goes_on argument k = false
goes_on in_list constant = false
goes_on in_list empty = true
goes_on in_list list = true
goes_on in_list conjunction = false
goes_on in_list plain = false
goes_on in_conjunction constant = false
goes_on in_conjunction empty = false
goes_on in_conjunction list = false
goes_on in_conjunction conjunction = true
goes_on in_conjunction plain = false

-- the text of a term of each form, its arguments written as s; the tail or right side in s closes the bracket
abbrev pub whole : Form → List ℕ → List ℕ → List ℕ
whole constant f s = name_text f
whole empty f s = codes "[]"
whole list f s = codes "[" ++ s
whole conjunction f s = codes "(" ++ s
whole plain f s = name_text f ++ codes "(" ++ s ++ codes ")"

-- the same where it goes on with what is open
abbrev pub further : Form → List ℕ → List ℕ
further constant s = s
further empty s = codes "]"
further list s = codes "," ++ s
further conjunction s = codes "," ++ s
further plain s = s

-- a term of the text s, where it does not
abbrev pub placed : Spot → List ℕ → List ℕ
placed alone s = s
placed argument s = codes "," ++ s
placed in_list s = codes "|" ++ s ++ codes "]"
placed in_conjunction s = codes "," ++ s ++ codes ")"

abbrev pub form_text : Spot → Form → List ℕ → List ℕ → List ℕ
form_text p k f s = cond (goes_on p k) (further k s) (placed p (whole k f s))

-- where the arguments behind the first are written
abbrev pub others : Form → Spot
others constant = argument
others empty = argument
others list = in_list
others conjunction = in_conjunction
others plain = argument

abbrev mutual
  pub text_at : Spot → Written → List ℕ
  text_at p (var a) = placed p a
  text_at p (int a) = placed p a
  text_at p (app f ts) = form_text p (form f ts) f (arguments_text (others (form f ts)) ts)

  pub arguments_text : Spot → Writtens → List ℕ
  arguments_text q nil = []
  arguments_text q (cons t ts) = text_at alone t ++ others_text q ts

  pub others_text : Spot → Writtens → List ℕ
  others_text q nil = []
  others_text q (cons t ts) = text_at q t ++ others_text q ts

-- the text of a term
abbrev pub text : Written → List ℕ
text w = text_at alone w
