-- Terms as they are written: a variable by its name, an integer by its digits, a name with its arguments.
use Rattle.std.specs.Prelude.{ℕ, suc, List}
use Rattle.terms.specs.Known.{comma_name, dot_name, empty_name}

mutual
  pub data Written : Type 0 where
    var : List ℕ → Written
    int : List ℕ → Written
    app : List ℕ → Writtens → Written

  pub data Writtens : Type 0 where
    nil : Writtens
    cons : Written → Writtens → Writtens

abbrev pub join : Writtens → Writtens → Writtens
join nil us = us
join (cons t ts) us = cons t (join ts us)

-- one more at the end
abbrev pub with_last : Writtens → Written → Writtens
with_last ts t = join ts (cons t nil)

abbrev pub pair : List ℕ → Written → Written → Written
pair f a b = app f (cons a (cons b nil))

-- a conjunction is nested to the right; of one term it is that term
abbrev pub conj_from : Written → Writtens → Written
conj_from t nil = t
conj_from t (cons u us) = pair comma_name t (conj_from u us)

abbrev pub empty_list : Written
empty_list = app empty_name nil

abbrev pub conj : Writtens → Written
conj nil = empty_list
conj (cons t ts) = conj_from t ts

-- a list of these terms before a tail
abbrev pub list_of : Writtens → Written → Written
list_of nil z = z
list_of (cons t ts) z = pair dot_name t (list_of ts z)

-- a fact, a rule with head and body, a query
pub data Sentence : Type 0 where
  fact : Written → Sentence
  rule : Written → Written → Sentence
  query : Written → Sentence

-- how many terms
abbrev pub size : Writtens → ℕ
size nil = 0
size (cons t ts) = suc (size ts)
