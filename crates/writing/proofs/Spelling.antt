-- How many bytes the tokens of a text take: a name that is not bare takes two more than its own.
use Rattle.std.proofs.Common.{◌≡◌, ℕ, suc, ◌+◌, ◌≤◌, Bool, true, false, cond, ◌&&◌, ◌||◌, eqb, List, [], ◌∷◌, ◌++◌}
use Rattle.std.proofs.Common.{length, Some, None, Option, sym, refl, ap, ◌∙◌, subst, arith, length-append, eqb-true}
use mathlib.Core.Bool.{or-true}
use Rattle.tokens.specs.declared.kind.Kind.{Kind}
use Rattle.tokens.specs.declared.kind.Kind.TheVariants.{Small, Capital, Digit, Symbol, Solo, Quote, Opening, Closing}
use Rattle.tokens.specs.declared.kind.Kind.TheVariants.{Left, Right, Bar, Comma, Stop, Space, Stray}
use Rattle.tokens.specs.Bytes.{small, capital, digit, symbol, word, quote, space, same}
use Rattle.tokens.specs.Token.{Token, name, variable, integer, neck, opening, closing, left, right, bar, comma, stop}
use Rattle.tokens.specs.Token.{Part, small_run, capital_run, digits, symbols, inside, closed, single, Edge, joined}
use Rattle.tokens.specs.Token.{spaced, may_part, start, start_as, advance, ended, neck_bytes, minus_bytes}
use Rattle.grammar.specs.Written.{Sentence}
use Rattle.grammar.specs.Machine.{good, bad, Lex, within, edge, at, hope_within, hope, check, enter_by, step_by, fresh}
use Rattle.grammar.specs.Machine.{feed_maybe, allowed_at, allowed_by, finished, finished_by}
use Rattle.grammar.specs.Sentences.{Place, feed, sentences, allowed, result}
use Rattle.writing.specs.Writing.{all, bare}
use Rattle.writing.proofs.WholeTokens.{reading, taking, and_both}
use Rattle.writing.proofs.WrittenTokens.{or_either}

abbrev is_name : Token → Bool
is_name (name a) = true
is_name (variable a) = false
is_name (integer a) = false
is_name neck = false
is_name (opening b) = false
is_name closing = false
is_name left = false
is_name right = false
is_name bar = false
is_name comma = false
is_name stop = false

-- a token of k bytes
pub data Spelt : Token → ℕ → Type 0 where
  bare_name : {a : List ℕ} {k : ℕ} → bare a ≡ true → Spelt (name a) k
  quoted_name : {a : List ℕ} {k : ℕ} → length a + 2 ≤ k → Spelt (name a) k
  no_name : {t : Token} {k : ℕ} → is_name t ≡ false → Spelt t k

-- a part of k bytes
data Sound : Part → ℕ → Type 0 where
  a_word : {d : ℕ} {s : List ℕ} {k : ℕ} → small d ≡ true → all word s ≡ true → Sound (small_run (d ∷ s)) k
  a_variable : {bs : List ℕ} {k : ℕ} → Sound (capital_run bs) k
  an_integer : {bs : List ℕ} {k : ℕ} → Sound (digits bs) k
  a_symbol : {d : ℕ} {s : List ℕ} {k : ℕ} → all symbol (d ∷ s) ≡ true → Sound (symbols (d ∷ s)) k
  in_quotes : {bs : List ℕ} {k : ℕ} → length bs + 1 ≤ k → Sound (inside bs) k
  quoted : {bs : List ℕ} {k : ℕ} → length bs + 2 ≤ k → Sound (closed bs) k
  a_single : {t : Token} {k : ℕ} → Spelt t k → Sound (single t) k

data SoundIfAny : Option Part → ℕ → Type 0 where
  no_part : {k : ℕ} → SoundIfAny None k
  a_part : {q : Part} {k : ℕ} → Sound q k → SoundIfAny (Some q) k

data SpeltIfAny : Option Token → ℕ → Type 0 where
  no_token : {k : ℕ} → SpeltIfAny None k
  a_token : {t : Token} {k : ℕ} → Spelt t k → SpeltIfAny (Some t) k

-- either way of a test
by_test : {A : Type 0} (P : A → Type 0) (b : Bool) (x y : A) → (b ≡ true → P x) → (b ≡ false → P y) → P (cond b x y)
by_test P true x y f g = f refl
by_test P false x y f g = g refl

all_more : (f : ℕ → Bool) (s : List ℕ) (c : ℕ) → all f s ≡ true → f c ≡ true → all f (s ++ c ∷ []) ≡ true
all_more f [] c h k = ap (λ b. b && true) k
all_more f (d ∷ s) c h k =
    let b = and_both (f d) (all f s) h in ap (λ t. t && all f (s ++ c ∷ [])) b.0 ∙ all_more f s c b.1 k

bare_symbols : (d : ℕ) (s : List ℕ) → all symbol (d ∷ s) ≡ true → same (d ∷ s) neck_bytes ≡ false → bare (d ∷ s) ≡ true
bare_symbols d s h k = simp (h, k, or-true)

solo_bare : (c : ℕ) → eqb c 59 || eqb c 33 ≡ true → bare (c ∷ []) ≡ true
solo_bare c h =
    or_either (eqb c 59) (eqb c 33) h
    (λ k. subst (λ (d : ℕ). bare (d ∷ []) ≡ true) (sym (eqb-true c 59 k)) refl)
    (λ k. subst (λ (d : ℕ). bare (d ∷ []) ≡ true) (sym (eqb-true c 33 k)) refl)

start_sound : (e : Edge) (c : ℕ) → SoundIfAny (start e c) 1
start_sound e c =
    by_test P (small c) Small _ (λ h. a_part (a_word h refl)) (λ _.
    by_test P (capital c) Capital _ (λ _. a_part a_variable) (λ _.
    by_test P (digit c) Digit _ (λ _. a_part an_integer) (λ _.
    by_test P (symbol c) Symbol _ (λ h. a_part (a_symbol (ap (λ b. b && true) h))) (λ _.
    by_test P (eqb c 59 || eqb c 33) Solo _ (λ h. a_part (a_single (bare_name (solo_bare c h)))) (λ _.
    by_test P (quote c) Quote _ (λ _. a_part (in_quotes (omega arith))) (λ _.
    by_test P (eqb c 40) Opening _ (λ _. a_part (a_single (no_name refl))) (λ _.
    by_test P (eqb c 41) Closing _ (λ _. a_part (a_single (no_name refl))) (λ _.
    by_test P (eqb c 91) Left _ (λ _. a_part (a_single (no_name refl))) (λ _.
    by_test P (eqb c 93) Right _ (λ _. a_part (a_single (no_name refl))) (λ _.
    by_test P (eqb c 124) Bar _ (λ _. a_part (a_single (no_name refl))) (λ _.
    by_test P (eqb c 44) Comma _ (λ _. a_part (a_single (no_name refl))) (λ _.
    by_test P (eqb c 46) Stop _ (λ _. a_part (a_single (no_name refl))) (λ _.
    by_test P (space c) Space Stray (λ _. no_part) (λ _. no_part))))))))))))))
  where
    P : Kind → Type 0
    P j = SoundIfAny (start_as j e c) 1

longer : (bs : List ℕ) (c : ℕ) → length (bs ++ c ∷ []) ≡ length bs + 1
longer bs c = length-append bs (c ∷ [])

advance_sound : {q : Part} {k : ℕ} → Sound q k → (c : ℕ) → SoundIfAny (advance q c) (suc k)
advance_sound (a_word {d = d} {s = s} {k = k} h g) c =
    by_test (λ m. SoundIfAny m (suc k)) (word c) (Some (small_run (d ∷ s ++ c ∷ []))) None
    (λ e. a_part (a_word h (all_more word s c g e))) (λ _. no_part)
advance_sound (a_variable {bs = bs} {k = k}) c =
    by_test (λ m. SoundIfAny m (suc k)) (word c) (Some (capital_run (bs ++ c ∷ []))) None (λ _. a_part a_variable)
    (λ _. no_part)
advance_sound (an_integer {bs = bs} {k = k}) c =
    by_test (λ m. SoundIfAny m (suc k)) (digit c) (Some (digits (bs ++ c ∷ []))) None (λ _. a_part an_integer)
    (λ _. no_part)
advance_sound (a_symbol {d = d} {s = s} {k = k} h) c =
    by_test (λ m. SoundIfAny m (suc k)) (symbol c) (Some (symbols (d ∷ s ++ c ∷ []))) _
    (λ e. a_part (a_symbol (all_more symbol (d ∷ s) c h e)))
    (λ _. by_test (λ m. SoundIfAny m (suc k)) (same (d ∷ s) minus_bytes && digit c)
    (Some (digits (d ∷ s ++ c ∷ []))) None (λ _. a_part an_integer) (λ _. no_part))
advance_sound (in_quotes {bs = bs} {k = k} h) c =
    by_test (λ m. SoundIfAny m (suc k)) (quote c) (Some (closed bs)) (Some (inside (bs ++ c ∷ [])))
    (λ _. a_part (quoted (omega arith))) (λ _. a_part (in_quotes (omega (arith, longer bs c))))
advance_sound (quoted {bs = bs} {k = k} h) c =
    by_test (λ m. SoundIfAny m (suc k)) (quote c) (Some (inside (bs ++ c ∷ []))) None
    (λ _. a_part (in_quotes (omega (arith, longer bs c)))) (λ _. no_part)
advance_sound (a_single h) c = no_part

ended_spelt : {q : Part} {k : ℕ} → Sound q k → SpeltIfAny (ended q) k
ended_spelt (a_word {d = d} {s = s} h g) = a_token (bare_name (simp (h, g)))
ended_spelt a_variable = a_token (no_name refl)
ended_spelt an_integer = a_token (no_name refl)
ended_spelt (a_symbol {d = d} {s = s} {k = k} h) =
    a_token (by_test (λ t. Spelt t k) (same (d ∷ s) neck_bytes) neck (name (d ∷ s)) (λ _. no_name refl)
    (λ e. bare_name (bare_symbols d s h e)))
ended_spelt (in_quotes h) = no_token
ended_spelt (quoted h) = a_token (quoted_name h)
ended_spelt (a_single h) = a_token h

-- from this place tokens of at most n bytes lead to the end, where this has been read
pub data Run (y : Sentence) : Place → ℕ → Type 0 where
  run_done : {p : Place} {n : ℕ} → result p ≡ Some y → Run y p n
  run_token : {p p' : Place} {t : Token} {k m n : ℕ} → Spelt t k → feed p t ≡ Some p' → Run y p' m → k + m ≤ n
      → Run y p n

within_more : {y : Sentence} {p : Place} {m : ℕ} → Run y p m → (n : ℕ) → m ≤ n → Run y p n
within_more (run_done e) n h = run_done e
within_more (run_token s f r l) n h = run_token s f r (omega arith)

never_good : {A : Type 0} (n : ℕ) (l : List ℕ) (y : Sentence) → bad n l ≡ good y → A
never_good n l y h = let z : ◌≡◌ {A = ℕ} 0 1 = cc in absurd (omega arith)

kept : (b : Bool) (q : Lex) (p : Place) (n : ℕ) (l s : List ℕ) (y : Sentence)
    → taking (cond b (Some (at q p)) None) n l s ≡ good y → reading s q p ≡ good y
kept true q p n l s y h = h
kept false q p n l s y h = never_good n l y h

-- what is read from these bytes on was read as tokens
record Tokens (y : Sentence) (s : List ℕ) : Type 0 where
  at_edge : (e : Edge) (p : Place) → reading s (edge e) p ≡ good y → Run y p (length s)
  in_token : (q : Part) (p : Place) (k : ℕ) → Sound q k → reading s (within q) p ≡ good y → Run y p (k + length s)

edge_tokens : (y : Sentence) (c : ℕ) (s : List ℕ) → Tokens y s → (e : Edge) (p : Place)
    → reading (c ∷ s) (edge e) p ≡ good y → Run y p (suc (length s))
edge_tokens y c s ih e p h = go (space c) (may_part e) (start e c) (start_sound e c) h
  where
    go : (b d : Bool) (m : Option Part) → SoundIfAny m 1
        → taking (cond b (cond d (check sentences (edge spaced) p) None) (enter_by sentences m p)) (allowed p)
        (c ∷ s) s ≡ good y → Run y p (suc (length s))
    go true true m g h =
        within_more (ih.at_edge spaced p
        (kept (hope sentences (edge spaced) p) (edge spaced) p (allowed p) (c ∷ s) s y h)) (suc (length s))
        (omega arith)
    go true false m g h = never_good (allowed p) (c ∷ s) y h
    go false d None g h = never_good (allowed p) (c ∷ s) y h
    go false d (Some q) (a_part g) h =
        within_more (ih.in_token q p 1 g (kept (hope_within sentences q p) (within q) p (allowed p) (c ∷ s) s y h))
        (suc (length s)) (omega arith)

last_token : (y : Sentence) (q : Part) (p : Place) (k : ℕ) → Sound q k → reading [] (within q) p ≡ good y
    → Run y p (k + 0)
last_token y q p k g h = go (ended q) (ended_spelt g) h
  where
    ends : (p' : Place) (m : Option Sentence) → finished_by sentences (allowed p') m ≡ good y → m ≡ Some y
    ends p' None h = never_good (allowed p') [] y h
    ends p' (Some z) h = cc

    fed : (t : Token) → Spelt t k → (m : Option Place) → feed p t ≡ m → finished sentences (allowed p) m ≡ good y
        → Run y p (k + 0)
    fed t g None e h = never_good (allowed p) [] y h
    fed t g (Some p') e h = run_token {m = 0} g e (run_done (ends p' (result p') h)) (omega arith)

    go : (m : Option Token) → SpeltIfAny m k → finished sentences (allowed p) (feed_maybe sentences p m) ≡ good y
        → Run y p (k + 0)
    go None g h = never_good (allowed p) [] y h
    go (Some t) (a_token g) h = fed t g (feed p t) refl h

token_tokens : (y : Sentence) (c : ℕ) (s : List ℕ) → Tokens y s → (q : Part) (p : Place) (k : ℕ) → Sound q k
    → reading (c ∷ s) (within q) p ≡ good y → Run y p (k + suc (length s))
token_tokens y c s ih q p k g h = go (advance q c) (advance_sound g c) h
  where
    fed : (t : Token) → Spelt t k → (m : Option Place) → feed p t ≡ m
        → taking (fresh sentences m c) (allowed_by sentences m p) (c ∷ s) s ≡ good y → Run y p (k + suc (length s))
    fed t g None e h = never_good (allowed p) (c ∷ s) y h
    fed t g (Some p') e h = run_token g e (edge_tokens y c s ih joined p' h) (omega arith)

    ends : (m : Option Token) → SpeltIfAny m k
        → taking (fresh sentences (feed_maybe sentences p m) c) (allowed_by sentences (feed_maybe sentences p m) p)
        (c ∷ s) s ≡ good y → Run y p (k + suc (length s))
    ends None g h = never_good (allowed p) (c ∷ s) y h
    ends (Some t) (a_token g) h = fed t g (feed p t) refl h

    go : (m : Option Part) → SoundIfAny m (suc k)
        → taking (step_by sentences m q p c) (allowed_at sentences (within q) p) (c ∷ s) s ≡ good y
        → Run y p (k + suc (length s))
    go None i h = ends (ended q) (ended_spelt g) h
    go (Some q') (a_part i) h =
        within_more (ih.in_token q' p (suc k) i
        (kept (hope_within sentences q' p) (within q') p (allowed_at sentences (within q) p) (c ∷ s) s y h))
        (k + suc (length s)) (omega arith)

tokens : (y : Sentence) (s : List ℕ) → Tokens y s
tokens y [] = record { at_edge = λ e p h. never_good (allowed p) [] y h; in_token = last_token y }
tokens y (c ∷ s) = record { at_edge = edge_tokens y c s (tokens y s); in_token = token_tokens y c s (tokens y s) }

pub read_as_tokens : (y : Sentence) (s : List ℕ) (e : Edge) (p : Place) → reading s (edge e) p ≡ good y
    → Run y p (length s)
read_as_tokens y s e p h = (tokens y s).at_edge e p h
