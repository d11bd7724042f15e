-- What is written reads back as itself, within the brackets that a text may open.
use Rattle.std.specs.Prelude.{◌≡◌, ℕ, zero, suc, Bool, true, false, not, ◌&&◌, ◌||◌, List, [], ◌∷◌, ◌++◌, codes, ◌==◌}
use Rattle.tokens.specs.Bytes.{capital, word, digit}
use Rattle.grammar.specs.Written.{Written, Writtens, var, int, app, nil, cons, fact, rule, query}
use Rattle.grammar.specs.Grammar.{brackets, a_rule, a_query}
use Rattle.grammar.specs.Machine.{good}
use Rattle.grammar.specs.Theorem.{judged}
use Rattle.writing.specs.Writing.{all, Form, constant, empty, list, conjunction, plain, form, Spot, alone, goes_on}
use Rattle.writing.specs.Writing.{others, text}

abbrev pub is_variable : List ℕ → Bool
is_variable [] = false
is_variable (c ∷ s) = capital c && all word s

abbrev pub is_digits : List ℕ → Bool
is_digits [] = false
is_digits (c ∷ s) = digit c && all digit s

-- digits, or `-` and digits
abbrev pub is_integer : List ℕ → Bool
is_integer [] = false
is_integer (c ∷ s) = is_digits (c ∷ s) || (c == 45 && is_digits s)

-- whether a name with arguments opens a bracket
abbrev pub opens : Spot → Form → Bool
opens p constant = false
opens p empty = not (goes_on p empty)
opens p list = not (goes_on p list)
opens p conjunction = not (goes_on p conjunction)
opens p plain = true

-- where n more brackets may be opened and one is or is not: whether there is room, and how many may be opened inside
abbrev pub room : Bool → ℕ → Bool
room false n = true
room true zero = false
room true (suc n) = true

abbrev pub inside : Bool → ℕ → ℕ
inside false n = n
inside true zero = zero
inside true (suc n) = n

-- a term whose variables and integers have such names and whose text opens at most n brackets at one place
abbrev mutual
  pub readable_at : Spot → ℕ → Written → Bool
  readable_at p n (var a) = is_variable a
  readable_at p n (int a) = is_integer a
  readable_at p n (app f ts) =
      room (opens p (form f ts)) n && arguments_readable (others (form f ts)) (inside (opens p (form f ts)) n) ts

  pub arguments_readable : Spot → ℕ → Writtens → Bool
  arguments_readable q n nil = true
  arguments_readable q n (cons t ts) = readable_at alone n t && others_readable q n ts

  pub others_readable : Spot → ℕ → Writtens → Bool
  others_readable q n nil = true
  others_readable q n (cons t ts) = readable_at q n t && others_readable q n ts

abbrev pub readable : ℕ → Written → Bool
readable n w = readable_at alone n w

-- As they are written: a query reads as that query, a fact as that fact, a head and a body as that rule.
abbrev pub QueryReadsBack : Type 0
QueryReadsBack = (w : Written) → readable brackets w ≡ true → judged a_query (text w ++ codes ".") ≡ good (query w)

abbrev pub FactReadsBack : Type 0
FactReadsBack = (h : Written) → readable brackets h ≡ true → judged a_rule (text h ++ codes ".") ≡ good (fact h)

abbrev pub RuleReadsBack : Type 0
RuleReadsBack =
    (h b : Written) → readable brackets h ≡ true → readable brackets b ≡ true
    → judged a_rule (text h ++ codes " :- " ++ text b ++ codes ".") ≡ good (rule h b)
