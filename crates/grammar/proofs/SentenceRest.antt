-- What the tokens from a place on must be, in terms of the grammar, to make a sentence; and how that grows backwards
-- over a bracket, a comma, a bar or a neck.
use Rattle.std.proofs.Common.{◌≡◌, ℕ, suc, Bool, true, List, [], ◌∷◌, arith}
use Rattle.tokens.specs.Token.{Token, name, neck, opening, closing, left, right, bar, comma, stop}
use Rattle.grammar.specs.Written.{Written, Writtens, app, nil, cons, join, with_last, conj, list_of, empty_list}
use Rattle.grammar.specs.Written.{Sentence, fact, rule, query}
use Rattle.grammar.specs.Grammar.{TermAt, a_name, with_arguments, in_brackets, empty_brackets, list, list_before}
use Rattle.grammar.specs.Grammar.{TermsAt}
use Rattle.grammar.specs.Grammar.{one, more}
use Rattle.grammar.specs.Sentences.{Context, head, among, tail, Holder, body, goals, arguments, round, square, Place}
use Rattle.grammar.specs.Sentences.{operand, named, after, done}
use Rattle.grammar.proofs.SentenceTo.{join_assoc}

-- Rest t n x s d: behind the term t at x, with n more brackets allowed, the tokens s make the sentence d.
-- RestIn h n ts s d: behind all the terms ts that h holds, the tokens s make d.
mutual
  pub data Rest : Written → ℕ → Context → List Token → Sentence → Type 0 where
    rest_fact : {t : Written} {n : ℕ} {d : Sentence} → fact t ≡ d → Rest t n head (stop ∷ []) d
    rest_rule : {t : Written} {n : ℕ} {s : List Token} {ts : Writtens} {d : Sentence}
        → TermsAt n s ts (stop ∷ []) → rule t (conj ts) ≡ d → Rest t n head (neck ∷ s) d
    rest_last : {t : Written} {n : ℕ} {h : Holder} {us : Writtens} {s : List Token} {d : Sentence}
        → RestIn h n (with_last us t) s d → Rest t n (among h us) s d
    rest_more : {t : Written} {n : ℕ} {h : Holder} {us ts : Writtens} {s q : List Token} {d : Sentence}
        → TermsAt n s ts q → RestIn h n (join us (cons t ts)) q d → Rest t n (among h us) (comma ∷ s) d
    rest_tail : {t : Written} {n : ℕ} {us : Writtens} {x : Context} {s : List Token} {d : Sentence}
        → Rest (list_of us t) (suc n) x s d → Rest t n (tail us x) (right ∷ s) d

  pub data RestIn : Holder → ℕ → Writtens → List Token → Sentence → Type 0 where
    in_body : {h : Written} {n : ℕ} {ts : Writtens} {d : Sentence}
        → rule h (conj ts) ≡ d → RestIn (body h) n ts (stop ∷ []) d
    in_goals : {n : ℕ} {ts : Writtens} {d : Sentence} → query (conj ts) ≡ d → RestIn goals n ts (stop ∷ []) d
    in_arguments : {a : List ℕ} {x : Context} {n : ℕ} {ts : Writtens} {s : List Token} {d : Sentence}
        → Rest (app a ts) (suc n) x s d → RestIn (arguments a x) n ts (closing ∷ s) d
    in_round : {x : Context} {n : ℕ} {ts : Writtens} {s : List Token} {d : Sentence}
        → Rest (conj ts) (suc n) x s d → RestIn (round x) n ts (closing ∷ s) d
    in_square : {x : Context} {n : ℕ} {ts : Writtens} {s : List Token} {d : Sentence}
        → Rest (list_of ts empty_list) (suc n) x s d → RestIn (square x) n ts (right ∷ s) d
    in_tail : {x : Context} {n : ℕ} {ts : Writtens} {s : List Token} {t : Written} {q : List Token} {d : Sentence}
        → TermAt n s t (right ∷ q) → Rest (list_of ts t) (suc n) x q d → RestIn (square x) n ts (bar ∷ s) d

-- Left p s d: from the place p the tokens s make d.
pub data Left : Place → List Token → Sentence → Type 0 where
  left_operand : {n : ℕ} {x : Context} {s : List Token} {t : Written} {q : List Token} {d : Sentence}
      → TermAt n s t q → Rest t n x q d → Left (operand n x) s d
  left_empty : {n : ℕ} {x : Context} {us : Writtens} {s : List Token} {d : Sentence}
      → us ≡ nil → Rest empty_list (suc n) x s d → Left (operand n (among (square x) us)) (right ∷ s) d
  left_named : {a : List ℕ} {n : ℕ} {x : Context} {s : List Token} {d : Sentence}
      → Rest (app a nil) n x s d → Left (named a n x) s d
  left_arguments : {a : List ℕ} {n : ℕ} {x : Context} {s : List Token} {ts : Writtens} {q : List Token} {d : Sentence}
      → TermsAt n s ts (closing ∷ q) → Rest (app a ts) (suc n) x q d → Left (named a (suc n) x) (opening true ∷ s) d
  left_after : {t : Written} {n : ℕ} {x : Context} {s : List Token} {d : Sentence}
      → Rest t n x s d → Left (after t n x) s d
  left_done : {e d : Sentence} → e ≡ d → Left (done e) [] d

-- the terms up to the end of their holder
pub data Terms (h : Holder) (n : ℕ) (us : Writtens) (s : List Token) (d : Sentence) : Type 0 where
  up_to : {ts : Writtens} {q : List Token} → TermsAt n s ts q → RestIn h n (join us ts) q d → Terms h n us s d

pub of_after : {t : Written} {n : ℕ} {x : Context} {s : List Token} {d : Sentence}
    → Left (after t n x) s d → Rest t n x s d
of_after (left_after y) = y

pub of_operand : {n : ℕ} {h : Holder} {us : Writtens} {s : List Token} {t : Written} {q : List Token} {d : Sentence}
    → TermAt n s t q → Rest t n (among h us) q d → Terms h n us s d
of_operand y (rest_last z) = up_to (one y) z
of_operand y (rest_more v z) = up_to (more y v) z

never_empty : {A : Type 0} (us : Writtens) (t : Written) → with_last us t ≡ nil → A
never_empty nil t h = let z : ◌≡◌ {A = ℕ} 0 1 = cc in absurd (omega arith)
never_empty (cons u us) t h = let z : ◌≡◌ {A = ℕ} 0 1 = cc in absurd (omega arith)

more_terms : {n : ℕ} {h : Holder} {s : List Token} {d : Sentence} (us : Writtens) (t : Written)
    → Terms h n (with_last us t) s d → Rest t n (among h us) (comma ∷ s) d
more_terms us t (up_to y z) = rest_more y (rw join_assoc at z)

pub of_more : {n : ℕ} {h : Holder} {s : List Token} {d : Sentence} (us : Writtens) (t : Written)
    → Left (operand n (among h (with_last us t))) s d → Rest t n (among h us) (comma ∷ s) d
of_more us t (left_operand y z) = more_terms us t (of_operand y z)
of_more us t (left_empty e z) = never_empty us t e

body_terms : {t : Written} {n : ℕ} {s : List Token} {d : Sentence}
    → Terms (body t) n nil s d → Rest t n head (neck ∷ s) d
body_terms (up_to y (in_body e)) = rest_rule y e

pub of_body : {t : Written} {n : ℕ} {s : List Token} {d : Sentence}
    → Left (operand n (among (body t) nil)) s d → Rest t n head (neck ∷ s) d
of_body (left_operand y z) = body_terms (of_operand y z)

arguments_terms : {a : List ℕ} {n : ℕ} {x : Context} {s : List Token} {d : Sentence}
    → Terms (arguments a x) n nil s d → Left (named a (suc n) x) (opening true ∷ s) d
arguments_terms (up_to y (in_arguments z)) = left_arguments y z

pub of_arguments : {a : List ℕ} {n : ℕ} {x : Context} {s : List Token} {d : Sentence}
    → Left (operand n (among (arguments a x) nil)) s d → Left (named a (suc n) x) (opening true ∷ s) d
of_arguments (left_operand y z) = arguments_terms (of_operand y z)

round_terms : {b : Bool} {n : ℕ} {x : Context} {s : List Token} {d : Sentence}
    → Terms (round x) n nil s d → Left (operand (suc n) x) (opening b ∷ s) d
round_terms (up_to y (in_round z)) = left_operand (in_brackets y) z

pub of_round : {b : Bool} {n : ℕ} {x : Context} {s : List Token} {d : Sentence}
    → Left (operand n (among (round x) nil)) s d → Left (operand (suc n) x) (opening b ∷ s) d
of_round (left_operand y z) = round_terms (of_operand y z)

square_terms : {n : ℕ} {x : Context} {s : List Token} {d : Sentence}
    → Terms (square x) n nil s d → Left (operand (suc n) x) (left ∷ s) d
square_terms (up_to y (in_square z)) = left_operand (list y) z
square_terms (up_to y (in_tail v z)) = left_operand (list_before y v) z

pub of_square : {n : ℕ} {x : Context} {s : List Token} {d : Sentence}
    → Left (operand n (among (square x) nil)) s d → Left (operand (suc n) x) (left ∷ s) d
of_square (left_operand y z) = square_terms (of_operand y z)
of_square (left_empty e z) = left_operand empty_brackets z

pub of_tail : {n : ℕ} {ts : Writtens} {x : Context} {s : List Token} {d : Sentence}
    → Left (operand n (tail ts x)) s d → RestIn (square x) n ts (bar ∷ s) d
of_tail (left_operand y (rest_tail z)) = in_tail y z

pub of_named : {a : List ℕ} {n : ℕ} {x : Context} {s : List Token} {d : Sentence}
    → Left (named a n x) s d → Left (operand n x) (name a ∷ s) d
of_named (left_named z) = left_operand a_name z
of_named (left_arguments y z) = left_operand (with_arguments y) z
