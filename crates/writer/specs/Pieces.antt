-- The bytes around a term and its arguments, and names that need no quotes.
use Rattle.std.specs.Prelude.{ℕ, Bool, false, cond, not, ◌&&◌, ◌||◌, List, [], ◌∷◌, ◌++◌, codes, ◌==◌}
use Rattle.terms.specs.Known.{comma_name, dot_name, empty_name}
use Rattle.tokens.specs.Bytes.{small, word, symbol, same}
use Rattle.tokens.specs.Token.{neck_bytes}
use Rattle.writing.specs.Writing as writing
use Rattle.writing.specs.Writing.{all, name_text}
use Rattle.writer.specs.declared.piece.Spot.{Spot}
use Rattle.writer.specs.declared.piece.Spot.TheVariants.{Alone, Argument, InList, InConjunction}
use Rattle.writer.specs.declared.piece.Form.{Form}
use Rattle.writer.specs.declared.piece.Form.TheVariants.{Constant, Empty, List as AList, Conjunction, Plain}

abbrev pub spot_of : Spot → writing.Spot
spot_of Alone = writing.alone
spot_of Argument = writing.argument
spot_of InList = writing.in_list
spot_of InConjunction = writing.in_conjunction

abbrev pub shape_of : Form → writing.Form
shape_of Constant = writing.constant
shape_of Empty = writing.empty
shape_of AList = writing.list
shape_of Conjunction = writing.conjunction
shape_of Plain = writing.plain

-- what a name with n arguments is written as
abbrev pub form_of : List ℕ → ℕ → Form
form_of f n =
    cond (n == 0) (cond (same f empty_name) Empty Constant)
    (cond (n == 2) (cond (same f dot_name) AList (cond (same f comma_name) Conjunction Plain)) Plain)

abbrev pub others_spot : Form → Spot
others_spot Constant = Argument
others_spot Empty = Argument
others_spot AList = InList
others_spot Conjunction = InConjunction
others_spot Plain = Argument

-- where the argument with the number k is written
abbrev pub argument_spot : Form → ℕ → Spot
argument_spot k n = cond (n == 0) Alone (others_spot k)

abbrev pub stays_open : Spot → Form → Bool
stays_open p k = writing.goes_on (spot_of p) (shape_of k)

abbrev pub spot_before : Spot → List ℕ
spot_before Alone = []
spot_before Argument = codes ","
spot_before InList = codes "|"
spot_before InConjunction = codes ","

abbrev pub spot_after : Spot → List ℕ
spot_after Alone = []
spot_after Argument = []
spot_after InList = codes "]"
spot_after InConjunction = codes ")"

-- how an open list or conjunction goes on
abbrev pub further_text : Form → List ℕ
further_text Constant = codes ","
further_text Empty = codes "]"
further_text AList = codes ","
further_text Conjunction = codes ","
further_text Plain = codes ","

abbrev pub head_text : Form → List ℕ → List ℕ
head_text Constant f = name_text f
head_text Empty f = codes "[]"
head_text AList f = codes "["
head_text Conjunction f = codes "("
head_text Plain f = name_text f ++ codes "("

abbrev pub end_text : Form → List ℕ
end_text Constant = []
end_text Empty = []
end_text AList = []
end_text Conjunction = []
end_text Plain = codes ")"

-- before the arguments
abbrev pub opening_text : Spot → Form → List ℕ → List ℕ
opening_text p k f = cond (stays_open p k) (further_text k) (spot_before p ++ head_text k f)

-- behind the arguments
abbrev pub closing_text : Spot → Form → List ℕ
closing_text p k = cond (stays_open p k) [] (end_text k ++ spot_after p)

-- the three kinds of names that need no quotes
abbrev pub small_word : List ℕ → Bool
small_word [] = false
small_word (c ∷ s) = small c && all word s

abbrev pub symbol_name : List ℕ → Bool
symbol_name [] = false
symbol_name (c ∷ s) = all symbol (c ∷ s) && not (same (c ∷ s) neck_bytes)

abbrev pub solo_name : List ℕ → Bool
solo_name s = same s (codes ";") || same s (codes "!")
