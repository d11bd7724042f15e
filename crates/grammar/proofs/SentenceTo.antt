-- From the grammar to the reader of tokens: a term leads over its tokens, whatever stands around it.
use Rattle.std.proofs.Common.{◌≡◌, ℕ, List, ◌∷◌, Some, None, Option, refl, ap, ◌∙◌}
use Rattle.tokens.specs.Token.{Token, name, variable, integer, neck, opening, closing, left, right, bar, comma, stop}
use Rattle.grammar.specs.Written.{Written, Writtens, app, nil, cons, join, with_last, Sentence}
use Rattle.grammar.specs.Grammar.{TermAt, a_variable, an_integer, a_name, with_arguments, in_brackets, empty_brackets}
use Rattle.grammar.specs.Grammar.{list, list_before, TermsAt, one, more, Goal, SentenceOf, is_fact, is_rule, is_query}
use Rattle.grammar.specs.Machine.{feed_all}
use Rattle.grammar.specs.Sentences.{Context, head, among, tail, Holder, body, goals, arguments, round, square, Place}
use Rattle.grammar.specs.Sentences.{operand, named, closing_in, right_in, bar_in, stop_in, after_term, feed}
use Rattle.grammar.specs.Sentences.{sentences, begin}
use Rattle.grammar.proofs.FedResult.{fed_result}

pub join_assoc : (as' bs cs : Writtens) → join (join as' bs) cs ≡ join as' (join bs cs)
join_assoc nil bs cs = refl
join_assoc (cons t as') bs cs = ap (cons t) (join_assoc as' bs cs)

-- a token that may follow a term
pub data Follows : Token → Type 0 where
  by_closing : Follows closing
  by_right : Follows right
  by_bar : Follows bar
  by_comma : Follows comma
  by_neck : Follows neck
  by_stop : Follows stop

-- what follows all the terms in a holder
abbrev pub after_terms : Holder → ℕ → Writtens → Token → Option Place
after_terms h n ts (name a) = None
after_terms h n ts (variable a) = None
after_terms h n ts (integer a) = None
after_terms h n ts neck = None
after_terms h n ts (opening b) = None
after_terms h n ts closing = closing_in h n ts
after_terms h n ts left = None
after_terms h n ts right = right_in h n ts
after_terms h n ts bar = bar_in h n ts
after_terms h n ts comma = Some (operand n (among h ts))
after_terms h n ts stop = stop_in h ts

-- behind a name what follows is as behind the term of that name alone
pub named_as_after : {u : Token} (a : List ℕ) (n : ℕ) (x : Context)
    → Follows u → feed (named a n x) u ≡ after_term (app a nil) n x u
named_as_after a n x by_closing = refl
named_as_after a n x by_right = refl
named_as_after a n x by_bar = refl
named_as_after a n x by_comma = refl
named_as_after a n x by_neck = refl
named_as_after a n x by_stop = refl

-- the last term joins those before it
last_joins : {u : Token} (t : Written) (n : ℕ) (h : Holder) (us : Writtens)
    → Follows u → after_term t n (among h us) u ≡ after_terms h n (with_last us t) u
last_joins t n h us by_closing = refl
last_joins t n h us by_right = refl
last_joins t n h us by_bar = refl
last_joins t n h us by_comma = refl
last_joins t n h us by_neck = refl
last_joins t n h us by_stop = refl

-- a term, and terms with commas between, lead over their tokens to what the token behind them makes of them
mutual
  pub term_to : {n : ℕ} {s : List Token} {t : Written} {u : Token} {r : List Token}
      → TermAt n s t (u ∷ r) → Follows u → (x : Context)
      → feed_all sentences (Some (operand n x)) s ≡ feed_all sentences (after_term t n x u) r
  term_to a_variable f x = refl
  term_to an_integer f x = refl
  term_to {r = r} (a_name {n = n} {a = a}) f x = ap (λ m. feed_all sentences m r) (named_as_after a n x f)
  term_to (with_arguments {a = a} y) f x = terms_to y by_closing (arguments a x) nil
  term_to (in_brackets y) f x = terms_to y by_closing (round x) nil
  term_to empty_brackets f x = refl
  term_to (list y) f x = terms_to y by_right (square x) nil
  term_to (list_before {ts = ts} y z) f x = terms_to y by_bar (square x) nil ∙ term_to z by_right (tail ts x)

  pub terms_to : {n : ℕ} {s : List Token} {ts : Writtens} {u : Token} {r : List Token}
      → TermsAt n s ts (u ∷ r) → Follows u → (h : Holder) (us : Writtens)
      → feed_all sentences (Some (operand n (among h us))) s ≡ feed_all sentences (after_terms h n (join us ts) u) r
  terms_to {r = r} (one {n = n} {t = t} y) f h us =
      term_to y f (among h us) ∙ ap (λ m. feed_all sentences m r) (last_joins t n h us f)
  terms_to {u = u} {r = r} (more {n = n} {t = t} {ts = ts} y z) f h us =
      term_to y by_comma (among h us) ∙ terms_to z f h (with_last us t)
      ∙ ap (λ vs. feed_all sentences (after_terms h n vs u) r) (join_assoc us (cons t nil) ts)

-- what the grammar takes is read
pub sentence_to : {g : Goal} {s : List Token} {d : Sentence}
    → SentenceOf g s d → fed_result sentences (feed_all sentences (Some (begin g)) s) ≡ Some d
sentence_to (is_fact y) = ap (fed_result sentences) (term_to y by_stop head)
sentence_to (is_rule {h = h} y z) = ap (fed_result sentences) (term_to y by_neck head ∙ terms_to z by_stop (body h) nil)
sentence_to (is_query y) = ap (fed_result sentences) (terms_to y by_stop goals nil)
