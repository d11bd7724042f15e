-- From the reader of tokens to the grammar: what it reads from any place is what the grammar says stands there.
use Rattle.std.proofs.Common.{◌≡◌, ℕ, zero, suc, true, false, List, [], ◌∷◌, Some, None, Option, refl, subst, arith}
use Rattle.tokens.specs.Token.{Token, name, variable, integer, neck, opening, closing, left, right, bar, comma, stop}
use Rattle.grammar.specs.Written.{Written, Writtens, app, nil, cons, with_last, Sentence, fact}
use Rattle.grammar.specs.Grammar.{a_variable, an_integer, brackets, Goal, a_rule, a_query, SentenceOf, is_fact}
use Rattle.grammar.specs.Grammar.{is_rule, is_query}
use Rattle.grammar.specs.Machine.{feed_all}
use Rattle.grammar.specs.Sentences.{Context, head, among, tail, Holder, body, goals, arguments, round, square, Place}
use Rattle.grammar.specs.Sentences.{operand, named, after, done, closing_in, right_in, at_empty, bar_in, stop_in}
use Rattle.grammar.specs.Sentences.{after_term, sentences, begin}
use Rattle.grammar.proofs.FedResult.{fed_result}
use Rattle.grammar.proofs.SentenceRest.{Rest, rest_fact, rest_rule, rest_last, rest_tail, RestIn, in_body, in_goals}
use Rattle.grammar.proofs.SentenceRest.{in_arguments, in_round, in_square, Left, left_operand, left_empty, left_named}
use Rattle.grammar.proofs.SentenceRest.{left_after, left_done, Terms, up_to, of_after, of_operand, of_more, of_body}
use Rattle.grammar.proofs.SentenceRest.{of_arguments, of_round, of_square, of_tail, of_named}

abbrev Read : Option Place → List Token → Sentence → Type 0
Read m s d = fed_result sentences (feed_all sentences m s) ≡ Some d

Onto : List Token → Sentence → Type 0
Onto s d = (p : Place) → Read (Some p) s d → Left p s d

none_some : {A : Type 0} {d : Sentence} → None ≡ Some d → A
none_some h = let z : ◌≡◌ {A = ℕ} 0 1 = cc in absurd (omega arith)

lost : {A : Type 0} (s : List Token) (d : Sentence) → Read None s d → A
lost [] d h = none_some h
lost (t ∷ s) d h = none_some h

-- what each token finds behind all the terms of a holder
in_closing : (h : Holder) (n : ℕ) (ts : Writtens) (s : List Token) (d : Sentence)
    → Onto s d → Read (closing_in h n ts) s d → RestIn h n ts (closing ∷ s) d
unfolding Onto
in_closing (body h) n ts s d ih e = lost s d e
in_closing goals n ts s d ih e = lost s d e
in_closing (arguments a x) n ts s d ih e = in_arguments (of_after (ih _ e))
in_closing (round x) n ts s d ih e = in_round (of_after (ih _ e))
in_closing (square x) n ts s d ih e = lost s d e

in_right : (h : Holder) (n : ℕ) (ts : Writtens) (s : List Token) (d : Sentence)
    → Onto s d → Read (right_in h n ts) s d → RestIn h n ts (right ∷ s) d
unfolding Onto
in_right (body h) n ts s d ih e = lost s d e
in_right goals n ts s d ih e = lost s d e
in_right (arguments a x) n ts s d ih e = lost s d e
in_right (round x) n ts s d ih e = lost s d e
in_right (square x) n ts s d ih e = in_square (of_after (ih _ e))

in_bar : (h : Holder) (n : ℕ) (ts : Writtens) (s : List Token) (d : Sentence)
    → Onto s d → Read (bar_in h n ts) s d → RestIn h n ts (bar ∷ s) d
unfolding Onto
in_bar (body h) n ts s d ih e = lost s d e
in_bar goals n ts s d ih e = lost s d e
in_bar (arguments a x) n ts s d ih e = lost s d e
in_bar (round x) n ts s d ih e = lost s d e
in_bar (square x) n ts s d ih e = of_tail (ih _ e)

done_in : {h : Holder} {n : ℕ} {ts : Writtens} {s : List Token} {d e : Sentence}
    → ((e ≡ d) → RestIn h n ts (stop ∷ []) d) → Left (done e) s d → RestIn h n ts (stop ∷ s) d
done_in f (left_done e) = f e

in_stop : (h : Holder) (n : ℕ) (ts : Writtens) (s : List Token) (d : Sentence)
    → Onto s d → Read (stop_in h ts) s d → RestIn h n ts (stop ∷ s) d
unfolding Onto
in_stop (body h) n ts s d ih e = done_in in_body (ih _ e)
in_stop goals n ts s d ih e = done_in in_goals (ih _ e)
in_stop (arguments a x) n ts s d ih e = lost s d e
in_stop (round x) n ts s d ih e = lost s d e
in_stop (square x) n ts s d ih e = lost s d e

of_fact : {t : Written} {n : ℕ} {s : List Token} {d : Sentence}
    → Left (done (fact t)) s d → Rest t n head (stop ∷ s) d
of_fact (left_done e) = rest_fact e

-- what each token finds behind a term
behind : (u : Token) (t : Written) (n : ℕ) (x : Context) (s : List Token) (d : Sentence)
    → Onto s d → Read (after_term t n x u) s d → Rest t n x (u ∷ s) d
unfolding Onto
behind (name a) t n x s d ih e = lost s d e
behind (variable a) t n x s d ih e = lost s d e
behind (integer a) t n x s d ih e = lost s d e
behind (opening b) t n x s d ih e = lost s d e
behind left t n x s d ih e = lost s d e
behind neck t n head s d ih e = of_body (ih _ e)
behind neck t n (among h us) s d ih e = lost s d e
behind neck t n (tail us x) s d ih e = lost s d e
behind closing t n head s d ih e = lost s d e
behind closing t n (among h us) s d ih e = rest_last (in_closing h n (with_last us t) s d ih e)
behind closing t n (tail us x) s d ih e = lost s d e
behind right t n head s d ih e = lost s d e
behind right t n (among h us) s d ih e = rest_last (in_right h n (with_last us t) s d ih e)
behind right t n (tail us x) s d ih e = rest_tail (of_after (ih _ e))
behind bar t n head s d ih e = lost s d e
behind bar t n (among h us) s d ih e = rest_last (in_bar h n (with_last us t) s d ih e)
behind bar t n (tail us x) s d ih e = lost s d e
behind comma t n head s d ih e = lost s d e
behind comma t n (among h us) s d ih e = of_more us t (ih _ e)
behind comma t n (tail us x) s d ih e = lost s d e
behind stop t n head s d ih e = of_fact (ih _ e)
behind stop t n (among h us) s d ih e = rest_last (in_stop h n (with_last us t) s d ih e)
behind stop t n (tail us x) s d ih e = lost s d e

-- a square bracket closed before any term
at_an_empty : (n : ℕ) (x : Context) (s : List Token) (d : Sentence)
    → Onto s d → Read (at_empty n x) s d → Left (operand n x) (right ∷ s) d
unfolding Onto
at_an_empty n head s d ih e = lost s d e
at_an_empty n (among (body h) nil) s d ih e = lost s d e
at_an_empty n (among goals nil) s d ih e = lost s d e
at_an_empty n (among (arguments a x) nil) s d ih e = lost s d e
at_an_empty n (among (round x) nil) s d ih e = lost s d e
at_an_empty n (among (square x) nil) s d ih e = left_empty refl (of_after (ih _ e))
at_an_empty n (among h (cons u us)) s d ih e = lost s d e
at_an_empty n (tail us x) s d ih e = lost s d e

at_an_operand : (u : Token) (n : ℕ) (x : Context) (s : List Token) (d : Sentence)
    → Onto s d → Read (Some (operand n x)) (u ∷ s) d → Left (operand n x) (u ∷ s) d
unfolding Onto
at_an_operand (name a) n x s d ih e = of_named (ih _ e)
at_an_operand (variable a) n x s d ih e = left_operand a_variable (of_after (ih _ e))
at_an_operand (integer a) n x s d ih e = left_operand an_integer (of_after (ih _ e))
at_an_operand neck n x s d ih e = lost s d e
at_an_operand (opening b) zero x s d ih e = lost s d e
at_an_operand (opening b) (suc n) x s d ih e = of_round (ih _ e)
at_an_operand closing n x s d ih e = lost s d e
at_an_operand left zero x s d ih e = lost s d e
at_an_operand left (suc n) x s d ih e = of_square (ih _ e)
at_an_operand right n x s d ih e = at_an_empty n x s d ih e
at_an_operand bar n x s d ih e = lost s d e
at_an_operand comma n x s d ih e = lost s d e
at_an_operand stop n x s d ih e = lost s d e

at_named : (u : Token) (a : List ℕ) (n : ℕ) (x : Context) (s : List Token) (d : Sentence)
    → Onto s d → Read (Some (named a n x)) (u ∷ s) d → Left (named a n x) (u ∷ s) d
unfolding Onto
at_named (opening true) a zero x s d ih e = lost s d e
at_named (opening true) a (suc n) x s d ih e = of_arguments (ih _ e)
at_named (opening false) a n x s d ih e = lost s d e
at_named (name b) a n x s d ih e = lost s d e
at_named (variable b) a n x s d ih e = lost s d e
at_named (integer b) a n x s d ih e = lost s d e
at_named left a n x s d ih e = lost s d e
at_named neck a n x s d ih e = left_named (behind neck (app a nil) n x s d ih e)
at_named closing a n x s d ih e = left_named (behind closing (app a nil) n x s d ih e)
at_named right a n x s d ih e = left_named (behind right (app a nil) n x s d ih e)
at_named bar a n x s d ih e = left_named (behind bar (app a nil) n x s d ih e)
at_named comma a n x s d ih e = left_named (behind comma (app a nil) n x s d ih e)
at_named stop a n x s d ih e = left_named (behind stop (app a nil) n x s d ih e)

whatever_is_read : (s : List Token) (d : Sentence) → Onto s d
unfolding Onto
whatever_is_read [] d (operand n x) e = none_some e
whatever_is_read [] d (named a n x) e = none_some e
whatever_is_read [] d (after t n x) e = none_some e
whatever_is_read [] d (done c) e = left_done (cc)
whatever_is_read (u ∷ s) d (operand n x) e = at_an_operand u n x s d (whatever_is_read s d) e
whatever_is_read (u ∷ s) d (named a n x) e = at_named u a n x s d (whatever_is_read s d) e
whatever_is_read (u ∷ s) d (after t n x) e = left_after (behind u t n x s d (whatever_is_read s d) e)
whatever_is_read (u ∷ s) d (done c) e = lost s d e

query_terms : {s : List Token} {d : Sentence} → Terms goals brackets nil s d → SentenceOf a_query s d
query_terms {s} {d} (up_to y (in_goals e)) = subst (λ c. SentenceOf a_query s c) e (is_query y)

of_begin : {s : List Token} {d : Sentence} (g : Goal) → Left (begin g) s d → SentenceOf g s d
of_begin {s} {d} a_rule (left_operand y (rest_fact e)) = subst (λ c. SentenceOf a_rule s c) e (is_fact y)
of_begin {s} {d} a_rule (left_operand y (rest_rule z e)) = subst (λ c. SentenceOf a_rule s c) e (is_rule y z)
of_begin a_query (left_operand y z) = query_terms (of_operand y z)

-- what is read is what the grammar takes
pub sentence_from : (g : Goal) (s : List Token) (d : Sentence)
    → fed_result sentences (feed_all sentences (Some (begin g)) s) ≡ Some d → SentenceOf g s d
unfolding Onto
sentence_from g s d e = of_begin g (whatever_is_read s d (begin g) e)
