-- A bare name without quotes is read as that name; any other, but for `[]`, is not.
use Rattle.std.proofs.Common.{◌≡◌, ℕ, zero, suc, ◌+◌, ◌≤◌, Bool, true, false, ◌&&◌, List, [], ◌∷◌, ◌++◌, length, Some}
use Rattle.std.proofs.Common.{None, Option, sym, refl, ap, ◌∙◌, subst, arith, length-append}
use Rattle.terms.specs.Known.{empty_name}
use Rattle.tokens.specs.Token.{Token, name, variable, integer, neck, opening, closing, left, right, bar, comma, stop}
use Rattle.tokens.specs.Token.{first}
use Rattle.grammar.specs.Written.{Written, Writtens, app, nil, cons, with_last, conj, list_of, empty_list, query}
use Rattle.grammar.specs.Grammar.{brackets}
use Rattle.grammar.specs.Sentences.{Place, operand, named, after, done, Context, head, among, tail, Holder, body, goals}
use Rattle.grammar.specs.Sentences.{arguments, round, square, feed, result, after_term, at_neck, at_comma, at_closing}
use Rattle.grammar.specs.Sentences.{at_right, at_empty, at_bar, at_stop}
use Rattle.writing.specs.Writing.{bare}
use Rattle.writing.specs.Quoting.{BareNamesRead, OthersNeedQuotes}
use Rattle.writing.proofs.WholeTokens.{false_true}
use Rattle.writing.proofs.WrittenTokens.{bare_on}
use Rattle.writing.proofs.Spelling.{Spelt, bare_name, quoted_name, no_name, Run, run_done, run_token, read_as_tokens}

pub bare_names_read : BareNamesRead
bare_names_read a h = bare_on 46 [] brackets (among goals nil) refl first a h

abbrev is_nil : Writtens → Bool
is_nil nil = true
is_nil (cons t ts) = false

-- around the place stand only round brackets, and no other term
abbrev mutual
  simple : Context → Bool
  simple head = false
  simple (among h us) = simple_in h us
  simple (tail us x) = is_nil us && simple x

  simple_in : Holder → Writtens → Bool
  simple_in (body t) us = false
  simple_in goals us = is_nil us
  simple_in (arguments f x) us = false
  simple_in (round x) us = is_nil us && simple x
  simple_in (square x) us = false

and_left : (a b : Bool) → a && b ≡ true → a ≡ true
and_left true b h = refl
and_left false b h = h

both : (a b : Bool) → a ≡ true → b ≡ true → a && b ≡ true
both a b h k = ap (λ c. c && b) h ∙ k

more_than_one : {A : Type 0} (us : Writtens) (t : Written) → is_nil (with_last us t) ≡ true → A
more_than_one nil t h = false_true h
more_than_one (cons u us) t h = false_true h

-- a row of terms with a last one makes a constant only as a conjunction, and only if it is that one alone
last_arguments : {A : Type 0} (f a : List ℕ) (us : Writtens) (t : Written) → app f (with_last us t) ≡ app a nil → A
last_arguments f a nil t h = let z : ◌≡◌ {A = ℕ} 0 1 = cc in absurd (omega arith)
last_arguments f a (cons u us) t h = let z : ◌≡◌ {A = ℕ} 0 1 = cc in absurd (omega arith)

last_list : {A : Type 0} (a : List ℕ) (us : Writtens) (t z : Written) → list_of (with_last us t) z ≡ app a nil → A
last_list a nil t z h = let z : ◌≡◌ {A = ℕ} 0 1 = cc in absurd (omega arith)
last_list a (cons u us) t z h = let z : ◌≡◌ {A = ℕ} 0 1 = cc in absurd (omega arith)

last_conjunction : (a : List ℕ) (us : Writtens) (t : Written) → conj (with_last us t) ≡ app a nil → (is_nil us ≡ true)
    × (t ≡ app a nil)
last_conjunction a nil t h = (refl, h)
last_conjunction a (cons u nil) t h = let z : ◌≡◌ {A = ℕ} 0 1 = cc in absurd (omega arith)
last_conjunction a (cons u (cons v vs)) t h = let z : ◌≡◌ {A = ℕ} 0 1 = cc in absurd (omega arith)

module _ (a : List ℕ) (not_bare : bare a ≡ false) (not_empty : a ≡ empty_name → ⊥) where
  -- what must be so at a place from which m more bytes lead to the constant
  abbrev Leads : Place → ℕ → Type 0
  Leads (operand n x) m = (simple x ≡ true) × (length a + 2 ≤ m)
  Leads (named b n x) m = (simple x ≡ true) × (b ≡ a)
  Leads (after t n x) m = (simple x ≡ true) × (t ≡ app a nil)
  Leads (done y) m = y ≡ query (app a nil)

  abbrev LeadsIfAny : Option Place → ℕ → Type 0
  LeadsIfAny None m = ⊥
  LeadsIfAny (Some p) m = Leads p m

  abbrev Constant : Written → Context → Type 0
  Constant t x = (simple x ≡ true) × (t ≡ app a nil)

  at_a_closing : (t : Written) (n : ℕ) (x : Context) (m : ℕ) → LeadsIfAny (at_closing t n x) m → Constant t x
  at_a_closing t n head m h = absurd h
  at_a_closing t n (among (body u) us) m h = absurd h
  at_a_closing t n (among goals us) m h = absurd h
  at_a_closing t n (among (arguments f x) us) m h = last_arguments f a us t h.1
  at_a_closing t n (among (round x) us) m h =
      let k = last_conjunction a us t h.1 in (both (is_nil us) (simple x) k.0 h.0, k.1)
  at_a_closing t n (among (square x) us) m h = absurd h
  at_a_closing t n (tail us x) m h = absurd h

  at_a_right : (t : Written) (n : ℕ) (x : Context) (m : ℕ) → LeadsIfAny (at_right t n x) m → Constant t x
  at_a_right t n head m h = absurd h
  at_a_right t n (among (body u) us) m h = absurd h
  at_a_right t n (among goals us) m h = absurd h
  at_a_right t n (among (arguments f x) us) m h = absurd h
  at_a_right t n (among (round x) us) m h = absurd h
  at_a_right t n (among (square x) us) m h = last_list a us t empty_list h.1
  at_a_right t n (tail nil x) m h = h
  at_a_right t n (tail (cons u us) x) m h = let e = h.1 in let z : ◌≡◌ {A = ℕ} 0 1 = cc in absurd (omega arith)

  at_a_bar : (t : Written) (n : ℕ) (x : Context) (m : ℕ) → LeadsIfAny (at_bar t n x) m → Constant t x
  at_a_bar t n head m h = absurd h
  at_a_bar t n (among (body u) us) m h = absurd h
  at_a_bar t n (among goals us) m h = absurd h
  at_a_bar t n (among (arguments f x) us) m h = absurd h
  at_a_bar t n (among (round x) us) m h = absurd h
  at_a_bar t n (among (square x) us) m h = more_than_one us t (and_left (is_nil (with_last us t)) (simple x) h.0)
  at_a_bar t n (tail us x) m h = absurd h

  at_a_comma : (t : Written) (n : ℕ) (x : Context) (m : ℕ) → LeadsIfAny (at_comma t n x) m → Constant t x
  at_a_comma t n head m h = absurd h
  at_a_comma t n (among (body u) us) m h = false_true h.0
  at_a_comma t n (among goals us) m h = more_than_one us t h.0
  at_a_comma t n (among (arguments f x) us) m h = false_true h.0
  at_a_comma t n (among (round x) us) m h = more_than_one us t (and_left (is_nil (with_last us t)) (simple x) h.0)
  at_a_comma t n (among (square x) us) m h = false_true h.0
  at_a_comma t n (tail us x) m h = absurd h

  at_a_neck : (t : Written) (n : ℕ) (x : Context) (m : ℕ) → LeadsIfAny (at_neck t n x) m → Constant t x
  at_a_neck t n head m h = false_true h.0
  at_a_neck t n (among k us) m h = absurd h
  at_a_neck t n (tail us x) m h = absurd h

  at_a_stop : (t : Written) (x : Context) (m : ℕ) → LeadsIfAny (at_stop t x) m → Constant t x
  at_a_stop t head m h = let z : ◌≡◌ {A = ℕ} 0 1 = cc in absurd (omega arith)
  at_a_stop t (among (body u) us) m h = let z : ◌≡◌ {A = ℕ} 0 1 = cc in absurd (omega arith)
  at_a_stop t (among goals us) m h = last_conjunction a us t cc
  at_a_stop t (among (arguments f x) us) m h = absurd h
  at_a_stop t (among (round x) us) m h = absurd h
  at_a_stop t (among (square x) us) m h = absurd h
  at_a_stop t (tail us x) m h = absurd h

  after_leads : (t : Written) (n : ℕ) (x : Context) (u : Token) (m : ℕ) → LeadsIfAny (after_term t n x u) m
      → Constant t x
  after_leads t n x (name b) m h = absurd h
  after_leads t n x (variable b) m h = absurd h
  after_leads t n x (integer b) m h = absurd h
  after_leads t n x neck m h = at_a_neck t n x m h
  after_leads t n x (opening b) m h = absurd h
  after_leads t n x closing m h = at_a_closing t n x m h
  after_leads t n x left m h = absurd h
  after_leads t n x right m h = at_a_right t n x m h
  after_leads t n x bar m h = at_a_bar t n x m h
  after_leads t n x comma m h = at_a_comma t n x m h
  after_leads t n x stop m h = at_a_stop t x m h

  same_name : (b : List ℕ) (n : ℕ) (x : Context) → Constant (app b nil) x → (simple x ≡ true) × (b ≡ a)
  same_name b n x h = let e = h.1 in (h.0, cc)

  named_leads : (b : List ℕ) (n : ℕ) (x : Context) (u : Token) (m : ℕ) → LeadsIfAny (feed (named b n x) u) m
      → (simple x ≡ true) × (b ≡ a)
  named_leads b n x (name c) m h = absurd h
  named_leads b n x (variable c) m h = absurd h
  named_leads b n x (integer c) m h = absurd h
  named_leads b n x neck m h = same_name b n x (at_a_neck (app b nil) n x m h)
  named_leads b zero x (opening true) m h = absurd h
  named_leads b (suc n) x (opening true) m h = false_true h.0
  named_leads b n x (opening false) m h = absurd h
  named_leads b n x closing m h = same_name b n x (at_a_closing (app b nil) n x m h)
  named_leads b n x left m h = absurd h
  named_leads b n x right m h = same_name b n x (at_a_right (app b nil) n x m h)
  named_leads b n x bar m h = same_name b n x (at_a_bar (app b nil) n x m h)
  named_leads b n x comma m h = same_name b n x (at_a_comma (app b nil) n x m h)
  named_leads b n x stop m h = same_name b n x (at_a_stop (app b nil) x m h)

  -- where a term must begin
  a_name : (b : List ℕ) (k : ℕ) → Spelt (name b) k → b ≡ a → length a + 2 ≤ k
  a_name b k (bare_name h) e = false_true (sym not_bare ∙ ap bare (sym e) ∙ h)
  a_name b k (quoted_name h) e = omega (arith, ap length e)
  a_name b k (no_name h) e = false_true (sym h)

  an_empty_list : (n : ℕ) (x : Context) (m : ℕ) → LeadsIfAny (at_empty n x) m → ⊥
  an_empty_list n head m h = h
  an_empty_list n (among (body u) nil) m h = h
  an_empty_list n (among goals nil) m h = h
  an_empty_list n (among (arguments f x) nil) m h = h
  an_empty_list n (among (round x) nil) m h = h
  an_empty_list n (among (square x) nil) m h = let e = h.1 in not_empty cc
  an_empty_list n (among k (cons u us)) m h = h
  an_empty_list n (tail us x) m h = h

  operand_leads : (n : ℕ) (x : Context) (t : Token) (k m l : ℕ) → Spelt t k → LeadsIfAny (feed (operand n x) t) m
      → k + m ≤ l → Leads (operand n x) l
  operand_leads n x (name b) k m l s h i = (h.0, let j = a_name b k s h.1 in omega arith)
  operand_leads n x (variable b) k m l s h i = let e = h.1 in let z : ◌≡◌ {A = ℕ} 0 1 = cc in absurd (omega arith)
  operand_leads n x (integer b) k m l s h i = let e = h.1 in let z : ◌≡◌ {A = ℕ} 0 1 = cc in absurd (omega arith)
  operand_leads n x neck k m l s h i = absurd h
  operand_leads zero x (opening b) k m l s h i = absurd h
  operand_leads (suc n) x (opening b) k m l s h i = (h.0, omega arith)
  operand_leads n x closing k m l s h i = absurd h
  operand_leads zero x left k m l s h i = absurd h
  operand_leads (suc n) x left k m l s h i = false_true h.0
  operand_leads n x right k m l s h i = absurd (an_empty_list n x m h)
  operand_leads n x bar k m l s h i = absurd h
  operand_leads n x comma k m l s h i = absurd h
  operand_leads n x stop k m l s h i = absurd h

  token_leads : (p : Place) (t : Token) (k m l : ℕ) → Spelt t k → LeadsIfAny (feed p t) m → k + m ≤ l → Leads p l
  token_leads (operand n x) t k m l s h i = operand_leads n x t k m l s h i
  token_leads (named b n x) t k m l s h i = named_leads b n x t m h
  token_leads (after u n x) t k m l s h i = after_leads u n x t m h
  token_leads (done y) t k m l s h i = absurd h

  end_leads : (p : Place) (l : ℕ) → result p ≡ Some (query (app a nil)) → Leads p l
  end_leads (operand n x) l h = let z : ◌≡◌ {A = ℕ} 0 1 = cc in absurd (omega arith)
  end_leads (named b n x) l h = let z : ◌≡◌ {A = ℕ} 0 1 = cc in absurd (omega arith)
  end_leads (after t n x) l h = let z : ◌≡◌ {A = ℕ} 0 1 = cc in absurd (omega arith)
  end_leads (done y) l h = cc

  run_leads : {p : Place} {l : ℕ} → Run (query (app a nil)) p l → Leads p l
  run_leads (run_done {p = p} {n = l} h) = end_leads p l h
  run_leads (run_token {p = p} {p' = p'} {t = t} {k = k} {m = m} {n = l} s f r i) =
      token_leads p t k m l s (subst (λ (o : Option Place). LeadsIfAny o m) (sym f) (run_leads r)) i

pub others_need_quotes : OthersNeedQuotes
others_need_quotes a not_bare not_empty h =
    let r = read_as_tokens (query (app a nil)) (a ++ 46 ∷ []) first (operand brackets (among goals nil)) h in
    let k = run_leads a not_bare not_empty r in
    omega (arith, k.1, length-append a (46 ∷ []))
