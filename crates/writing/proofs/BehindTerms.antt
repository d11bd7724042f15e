-- What can stand behind a written term, and how a text that leads behind a term leads on from there.
use Rattle.std.proofs.Common.{◌≡◌, ℕ, suc, true, cond, List, [], ◌∷◌, ◌++◌, is_some, Some, None, codes, Option, sym}
use Rattle.std.proofs.Common.{refl, ap, ◌∙◌, append_assoc}
use Rattle.terms.specs.Known.{comma_name, dot_name}
use Rattle.tokens.specs.Token.{Token, closing, right, bar, comma, stop, single, Edge, joined}
use Rattle.grammar.specs.Written.{Written, Writtens, var, int, app, nil, cons, join, with_last, pair, conj, conj_from}
use Rattle.grammar.specs.Written.{list_of, Sentence}
use Rattle.grammar.specs.Machine.{VerdictOf, within, edge, at}
use Rattle.grammar.specs.Sentences.{Place, operand, named, after, Context, head, among, tail, round, square, feed}
use Rattle.writing.specs.Writing.{name_text}
use Rattle.writing.specs.ReadBack.{is_variable, is_integer}
use Rattle.writing.proofs.WholeTokens.{from, reading, taking, single_on}
use Rattle.writing.proofs.WrittenTokens.{cuts, name_on, variable_on, integer_on}

-- rows of terms
pub join_assoc : (ts us vs : Writtens) → join (join ts us) vs ≡ join ts (join us vs)
join_assoc nil us vs = refl
join_assoc (cons t ts) us vs = ap (cons t) (join_assoc ts us vs)

pub list_nests : (us : Writtens) (t z : Written) → list_of (with_last us t) z ≡ list_of us (pair dot_name t z)
list_nests nil t z = refl
list_nests (cons u us) t z = ap (pair dot_name u) (list_nests us t z)

conj_from_nests : (u : Written) (us : Writtens) (t z : Written)
    → conj_from u (with_last (with_last us t) z) ≡ conj_from u (with_last us (pair comma_name t z))
conj_from_nests u nil t z = refl
conj_from_nests u (cons v vs) t z = ap (pair comma_name u) (conj_from_nests v vs t z)

pub conj_nests : (us : Writtens) (t z : Written)
    → conj (with_last (with_last us t) z) ≡ conj (with_last us (pair comma_name t z))
conj_nests nil t z = refl
conj_nests (cons u us) t z = conj_from_nests u us t z

-- What stands behind a written term.
pub data Behind : Context → List ℕ → Type 0 where
  b_comma : {x : Context} {r : List ℕ} → Behind x (44 ∷ r)
  b_closing : {x : Context} {r : List ℕ} → Behind x (41 ∷ r)
  b_right : {x : Context} {r : List ℕ} → Behind x (93 ∷ r)
  b_bar : {x : Context} {r : List ℕ} → Behind x (124 ∷ r)
  b_stop : {x : Context} {r : List ℕ} → Behind x (46 ∷ r)
  b_neck : {r : List ℕ} → Behind head (32 ∷ 58 ∷ 45 ∷ 32 ∷ r)

pub data Cut : List ℕ → Type 0 where
  cut : {c : ℕ} {r : List ℕ} → cuts c ≡ true → Cut (c ∷ r)

pub cut_behind : {x : Context} {r : List ℕ} → Behind x r → Cut r
cut_behind b_comma = cut refl
cut_behind b_closing = cut refl
cut_behind b_right = cut refl
cut_behind b_bar = cut refl
cut_behind b_stop = cut refl
cut_behind b_neck = cut refl

pub name_cut : {r : List ℕ} → Cut r → (e : Edge) (n : ℕ) (x : Context) (a : List ℕ)
    → reading (name_text a ++ r) (edge e) (operand n x) ≡ from (named a n x) r
name_cut (cut {c = c} {r = r} z) e n x a = name_on c r n x z e a

pub variable_cut : {r : List ℕ} → Cut r → (e : Edge) (n : ℕ) (x : Context) (a : List ℕ) → is_variable a ≡ true
    → reading (a ++ r) (edge e) (operand n x) ≡ from (after (var a) n x) r
variable_cut (cut {c = c} {r = r} z) e n x a h = variable_on c r n x z e a h

pub integer_cut : {r : List ℕ} → Cut r → (e : Edge) (n : ℕ) (x : Context) (a : List ℕ) → is_integer a ≡ true
    → reading (a ++ r) (edge e) (operand n x) ≡ from (after (int a) n x) r
integer_cut (cut {c = c} {r = r} z) e n x a h = integer_on c r n x z e a h

-- places that take a token alike go on alike
abbrev singly : Option Place → Token → Place → ℕ → List ℕ → List ℕ → VerdictOf Sentence
singly m t p n l s = taking (cond (is_some m) (Some (at (within (single t)) p)) None) n l s

single_same : (t : Token) (p q : Place) (n : ℕ) (l s : List ℕ) → feed p t ≡ feed q t
    → singly (feed p t) t p n l s ≡ singly (feed q t) t q n l s
single_same t p q n l s h = go (feed q t) refl
  where
    go : (m : Option Place) → feed q t ≡ m → singly (feed p t) t p n l s ≡ singly (feed q t) t q n l s
    go None e = ap (λ m. singly m t p n l s) (h ∙ e) ∙ ap (λ m. singly m t q n l s) (sym e)
    go (Some o) e =
        ap (λ m. singly m t p n l s) (h ∙ e)
        ∙ single_on s t p o (h ∙ e) ∙ sym (single_on s t q o e)
        ∙ ap (λ m. singly m t q n l s) (sym e)

-- a name that no bracket follows is a constant
pub named_after : {x : Context} {r : List ℕ} → Behind x r → (a : List ℕ) (n : ℕ)
    → from (named a n x) r ≡ from (after (app a nil) n x) r
named_after (b_comma {x = x} {r = r}) a n = single_same comma (named a n x) (after (app a nil) n x) n (44 ∷ r) r refl
named_after (b_closing {x = x} {r = r}) a n =
    single_same closing (named a n x) (after (app a nil) n x) n (41 ∷ r) r refl
named_after (b_right {x = x} {r = r}) a n = single_same right (named a n x) (after (app a nil) n x) n (93 ∷ r) r refl
named_after (b_bar {x = x} {r = r}) a n = single_same bar (named a n x) (after (app a nil) n x) n (124 ∷ r) r refl
named_after (b_stop {x = x} {r = r}) a n = single_same stop (named a n x) (after (app a nil) n x) n (46 ∷ r) r refl
named_after b_neck a n = refl

operand_from : (s : List ℕ) (n : ℕ) (x : Context) → from (operand n x) s ≡ reading s (edge joined) (operand n x)
operand_from [] n x = refl
operand_from (c ∷ s) n x = refl

-- the text s leads from where a term must begin to behind w
abbrev pub Leads : List ℕ → Written → ℕ → Type 0
Leads s w n =
    (e : Edge) (x : Context) (r : List ℕ) → Behind x r
    → reading (s ++ r) (edge e) (operand n x) ≡ from (after w n x) r

-- the text s leads from behind a term of a list or conjunction to behind the whole of it, which ends with w
abbrev pub EndsList : List ℕ → Written → ℕ → Type 0
EndsList s w n =
    (x : Context) (t : Written) (us : Writtens) (r : List ℕ)
    → from (after t n (among (square x) us)) (s ++ r) ≡ from (after (list_of (with_last us t) w) (suc n) x) r

abbrev pub EndsConjunction : List ℕ → Written → ℕ → Type 0
EndsConjunction s w n =
    (x : Context) (t : Written) (us : Writtens) (r : List ℕ)
    → from (after t n (among (round x) us)) (s ++ r)
    ≡ from (after (conj (with_last (with_last us t) w)) (suc n) x) r

pub operand_leads : (s : List ℕ) (w : Written) (n : ℕ) → Leads s w n → (x : Context) (r : List ℕ) → Behind x r
    → from (operand n x) (s ++ r) ≡ from (after w n x) r
operand_leads s w n f x r b = operand_from (s ++ r) n x ∙ f joined x r b

-- a term that does not go on with what is open
pub as_tail : (s : List ℕ) (w : Written) (n : ℕ) → Leads s w n → EndsList (codes "|" ++ s ++ codes "]") w n
as_tail s w n f x t us r =
    single_on ((s ++ 93 ∷ []) ++ r) bar (after t n (among (square x) us)) (operand n (tail (with_last us t) x)) refl
    ∙ ap (from (operand n (tail (with_last us t) x))) (append_assoc s (93 ∷ []) r)
    ∙ operand_leads s w n f (tail (with_last us t) x) (93 ∷ r) b_right
    ∙ single_on r right (after w n (tail (with_last us t) x)) (after (list_of (with_last us t) w) (suc n) x) refl

pub as_right : (s : List ℕ) (w : Written) (n : ℕ) → Leads s w n → EndsConjunction (codes "," ++ s ++ codes ")") w n
as_right s w n f x t us r =
    single_on ((s ++ 41 ∷ []) ++ r) comma (after t n (among (round x) us))
    (operand n (among (round x) (with_last us t))) refl
    ∙ ap (from (operand n (among (round x) (with_last us t)))) (append_assoc s (41 ∷ []) r)
    ∙ operand_leads s w n f (among (round x) (with_last us t)) (41 ∷ r) b_closing
    ∙ single_on r closing (after w n (among (round x) (with_last us t)))
    (after (conj (with_last (with_last us t) w)) (suc n) x) refl
