-- The grammar: which tokens are which term, and which bytes are which rule or query.
use Rattle.std.specs.Prelude.{ℕ, suc, Bool, true, List, [], ◌∷◌, ◌++◌}
use Rattle.tokens.specs.Token.{Token, name, variable, integer, neck, opening, closing, left, right, bar, comma, stop}
use Rattle.tokens.specs.Token.{Row, first}
use Rattle.grammar.specs.Written.{Written, Writtens, var, int, app, nil, cons, conj, list_of, empty_list, Sentence}
use Rattle.grammar.specs.Written.{fact, rule, query}

-- TermAt n s t r: with n more brackets allowed, s is the term t and then the tokens r.
-- TermsAt n s ts r: s is the terms ts, one or more with commas between, and then r.
mutual
  pub data TermAt : ℕ → List Token → Written → List Token → Type 0 where
    a_variable : {n : ℕ} {a : List ℕ} {r : List Token} → TermAt n (variable a ∷ r) (var a) r
    an_integer : {n : ℕ} {a : List ℕ} {r : List Token} → TermAt n (integer a ∷ r) (int a) r
    a_name : {n : ℕ} {a : List ℕ} {r : List Token} → TermAt n (name a ∷ r) (app a nil) r
    with_arguments : {n : ℕ} {a : List ℕ} {s : List Token} {ts : Writtens} {r : List Token}
        → TermsAt n s ts (closing ∷ r) → TermAt (suc n) (name a ∷ opening true ∷ s) (app a ts) r
    in_brackets : {n : ℕ} {b : Bool} {s : List Token} {ts : Writtens} {r : List Token}
        → TermsAt n s ts (closing ∷ r) → TermAt (suc n) (opening b ∷ s) (conj ts) r
    empty_brackets : {n : ℕ} {r : List Token} → TermAt (suc n) (left ∷ right ∷ r) empty_list r
    list : {n : ℕ} {s : List Token} {ts : Writtens} {r : List Token}
        → TermsAt n s ts (right ∷ r) → TermAt (suc n) (left ∷ s) (list_of ts empty_list) r
    list_before : {n : ℕ} {s : List Token} {ts : Writtens} {q : List Token} {t : Written} {r : List Token}
        → TermsAt n s ts (bar ∷ q) → TermAt n q t (right ∷ r) → TermAt (suc n) (left ∷ s) (list_of ts t) r

  pub data TermsAt : ℕ → List Token → Writtens → List Token → Type 0 where
    one : {n : ℕ} {s : List Token} {t : Written} {r : List Token} → TermAt n s t r → TermsAt n s (cons t nil) r
    more : {n : ℕ} {s : List Token} {t : Written} {q : List Token} {ts : Writtens} {r : List Token}
        → TermAt n s t (comma ∷ q) → TermsAt n q ts r → TermsAt n s (cons t ts) r

-- at most so many brackets stand open at one place
abbrev pub brackets : ℕ
brackets = 64

pub data Goal : Type 0 where
  a_rule : Goal
  a_query : Goal

pub data SentenceOf : Goal → List Token → Sentence → Type 0 where
  is_fact : {s : List Token} {t : Written} → TermAt brackets s t (stop ∷ []) → SentenceOf a_rule s (fact t)
  is_rule : {s : List Token} {h : Written} {r : List Token} {ts : Writtens}
      → TermAt brackets s h (neck ∷ r) → TermsAt brackets r ts (stop ∷ []) → SentenceOf a_rule s (rule h (conj ts))
  is_query : {s : List Token} {ts : Writtens}
      → TermsAt brackets s ts (stop ∷ []) → SentenceOf a_query s (query (conj ts))

-- the text is this rule or query
pub record Text (g : Goal) (s : List ℕ) (x : Sentence) : Type 0 where
  pub tokens : List Token
  pub row : Row first s tokens
  pub sentence : SentenceOf g tokens x

-- the bytes begin a text
pub record Begins (g : Goal) (u : List ℕ) : Type 0 where
  pub further : List ℕ
  pub of : Sentence
  pub text : Text g (u ++ further) of
