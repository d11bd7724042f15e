-- Quotes and brackets byte by byte: what one more byte of a token, or the first byte of one, does to the number of
-- brackets that stand open outside quoted names.
use Rattle.std.proofs.Common.{◌≡◌, ℕ, suc, ◌-◌, Bool, true, false, cond, not, ◌&&◌, ◌||◌, eqb, List, [], ◌∷◌, ◌++◌}
use Rattle.std.proofs.Common.{Some, None, Option, sym, refl, ap, ◌∙◌, subst, eqb-true}
use Rattle.tokens.specs.declared.kind.Kind.{Kind}
use Rattle.tokens.specs.declared.kind.Kind.TheVariants.{Small, Capital, Digit, Symbol, Solo, Quote, Opening, Closing}
use Rattle.tokens.specs.declared.kind.Kind.TheVariants.{Left, Right, Bar, Comma, Stop, Space, Stray}
use Rattle.tokens.specs.Bytes.{small, capital, digit, symbol, quote, space, word, same, class}
use Rattle.tokens.specs.Token.{Token, name, neck, Part, small_run, capital_run, digits, symbols, inside, closed}
use Rattle.tokens.specs.Token.{single, Edge}
use Rattle.tokens.specs.Token.{minus_bytes, neck_bytes, run, start_as, start, advance, ended}
use Rattle.grammar.specs.Faults.{open_from}
use Rattle.grammar.proofs.LexingProperties.{false_is_not_true, and_true_right}
use Rattle.grammar.proofs.RowProperties.{none_is_not_some}
use Rattle.grammar.proofs.DepthProperties.{behind}

-- whether a part of a token ends inside a quoted name, and how many brackets are open behind it
abbrev pub in_quote : Part → Bool
in_quote (small_run bs) = false
in_quote (capital_run bs) = false
in_quote (digits bs) = false
in_quote (symbols bs) = false
in_quote (inside bs) = true
in_quote (closed bs) = false
in_quote (single t) = false

abbrev pub behind_part : Part → ℕ → ℕ
behind_part (small_run bs) d = d
behind_part (capital_run bs) d = d
behind_part (digits bs) d = d
behind_part (symbols bs) d = d
behind_part (inside bs) d = d
behind_part (closed bs) d = d
behind_part (single t) d = behind t d

-- what the bytes w open behind such a state, where d brackets are open before the part of a token
abbrev pub open_part : Part → ℕ → List ℕ → ℕ
open_part q d w = open_from (in_quote q) (behind_part q d) w

abbrev pub open_maybe : Option Part → ℕ → List ℕ → ℕ
open_maybe None d w = open_from false d w
open_maybe (Some q) d w = open_part q d w

abbrev pub open_behind : Option Token → ℕ → List ℕ → ℕ
open_behind None d w = open_from true d w
open_behind (Some t) d w = open_from false (behind t d) w

-- a byte that is neither a quote nor a bracket

pub record Plain (c : ℕ) : Type 0 where
  pub no_quote : quote c ≡ false
  pub no_opening : eqb c 40 ≡ false
  pub no_left : eqb c 91 ≡ false
  pub no_closing : eqb c 41 ≡ false
  pub no_right : eqb c 93 ≡ false

cond_else : (b : Bool) (x y : ℕ) → b ≡ false → cond b x y ≡ y
cond_else b x y h = ap (λ b. cond b x y) h

neither : (a b : Bool) → a ≡ false → b ≡ false → (a || b) ≡ false
neither a b h k = ap (λ a. a || b) h ∙ k

pub plain_opens_none : {c : ℕ} (d : ℕ) (w : List ℕ) → Plain c → open_from false d (c ∷ w) ≡ open_from false d w
plain_opens_none {c} d w h =
    let opens : Bool = eqb c 40 || eqb c 91 in
    let closes : Bool = eqb c 41 || eqb c 93 in
    let more : ℕ = open_from false (suc d) w in
    let fewer : ℕ = open_from false (d - 1) w in
    let same : ℕ = open_from false d w in
    cond_else (quote c) (open_from true d w) (cond opens more (cond closes fewer same)) h.no_quote
    ∙ cond_else opens more (cond closes fewer same) (neither (eqb c 40) (eqb c 91) h.no_opening h.no_left)
    ∙ cond_else closes fewer same (neither (eqb c 41) (eqb c 93) h.no_closing h.no_right)

tested_plain : (f : ℕ → Bool) (c : ℕ) → f 39 ≡ false → f 40 ≡ false → f 91 ≡ false → f 41 ≡ false → f 93 ≡ false
    → f c ≡ true → Plain c
tested_plain f c h₀ h₁ h₂ h₃ h₄ h =
    record {
      no_quote = other 39 h₀;
      no_opening = other 40 h₁;
      no_left = other 91 h₂;
      no_closing = other 41 h₃;
      no_right = other 93 h₄;
    }
  where
    other : (k : ℕ) → f k ≡ false → eqb c k ≡ false
    other k i = go (eqb c k) refl
      where
        go : (b : Bool) → eqb c k ≡ b → b ≡ false
        go true e = false_is_not_true (sym i ∙ sym (ap f (eqb-true c k e)) ∙ h)
        go false e = refl

-- the kinds of all bytes but quotes and brackets
pub data OtherKind : Kind → Type 0 where
  o_small : OtherKind Small
  o_capital : OtherKind Capital
  o_digit : OtherKind Digit
  o_symbol : OtherKind Symbol
  o_solo : OtherKind Solo
  o_bar : OtherKind Bar
  o_comma : OtherKind Comma
  o_stop : OtherKind Stop
  o_space : OtherKind Space
  o_stray : OtherKind Stray

either_kind : (b : Bool) {x y : Kind} → OtherKind x → OtherKind y → OtherKind (cond b x y)
either_kind true h k = h
either_kind false h k = k

past_kind : (b : Bool) (x : Kind) {y : Kind} → b ≡ false → OtherKind y → OtherKind (cond b x y)
past_kind true x h k = false_is_not_true (sym h)
past_kind false x h k = k

pub plain_kind : {c : ℕ} → Plain c → OtherKind (class c)
plain_kind {c} h =
    either_kind (small c) o_small
    (either_kind (capital c) o_capital
    (either_kind (digit c) o_digit
    (either_kind (symbol c) o_symbol
    (either_kind (eqb c 59 || eqb c 33) o_solo
    (past_kind (quote c) Quote h.no_quote
    (past_kind (eqb c 40) Opening h.no_opening
    (past_kind (eqb c 41) Closing h.no_closing
    (past_kind (eqb c 91) Left h.no_left
    (past_kind (eqb c 93) Right h.no_right
    (either_kind (eqb c 124) o_bar
    (either_kind (eqb c 44) o_comma
    (either_kind (eqb c 46) o_stop
    (either_kind (space c) o_space o_stray)))))))))))))

other_opens_none : {k : Kind} → OtherKind k → (e : Edge) (c d : ℕ) (w : List ℕ)
    → open_maybe (start_as k e c) d w ≡ open_from false d w
other_opens_none o_small e c d w = refl
other_opens_none o_capital e c d w = refl
other_opens_none o_digit e c d w = refl
other_opens_none o_symbol e c d w = refl
other_opens_none o_solo e c d w = refl
other_opens_none o_bar e c d w = refl
other_opens_none o_comma e c d w = refl
other_opens_none o_stop e c d w = refl
other_opens_none o_space e c d w = refl
other_opens_none o_stray e c d w = refl

-- a quote, a bracket, or any other byte
pub data ByteCase : ℕ → Type 0 where
  a_quote : ByteCase 39
  an_opening : ByteCase 40
  a_left : ByteCase 91
  a_closing : ByteCase 41
  a_right : ByteCase 93
  a_plain : {c : ℕ} → Plain c → ByteCase c

pub byte_case : (c : ℕ) → ByteCase c
byte_case c = go (quote c) (eqb c 40) (eqb c 91) (eqb c 41) (eqb c 93) refl refl refl refl refl
  where
    is : (k : ℕ) → eqb c k ≡ true → ByteCase k → ByteCase c
    is k h x = subst ByteCase (sym (eqb-true c k h)) x

    go : (a b i j l : Bool) → quote c ≡ a → eqb c 40 ≡ b → eqb c 91 ≡ i → eqb c 41 ≡ j → eqb c 93 ≡ l → ByteCase c
    go true b i j l h₀ h₁ h₂ h₃ h₄ = is 39 h₀ a_quote
    go false true i j l h₀ h₁ h₂ h₃ h₄ = is 40 h₁ an_opening
    go false false true j l h₀ h₁ h₂ h₃ h₄ = is 91 h₂ a_left
    go false false false true l h₀ h₁ h₂ h₃ h₄ = is 41 h₃ a_closing
    go false false false false true h₀ h₁ h₂ h₃ h₄ = is 93 h₄ a_right
    go false false false false false h₀ h₁ h₂ h₃ h₄ =
        a_plain (record { no_quote = h₀; no_opening = h₁; no_left = h₂; no_closing = h₃; no_right = h₄ })

-- the first byte of a token
pub start_opens : (e : Edge) (c d : ℕ) (w : List ℕ) → open_from false d (c ∷ w) ≡ open_maybe (start e c) d w
start_opens e c d w = go (byte_case c)
  where
    go : {c : ℕ} → ByteCase c → open_from false d (c ∷ w) ≡ open_maybe (start e c) d w
    go a_quote = refl
    go an_opening = refl
    go a_left = refl
    go a_closing = refl
    go a_right = refl
    go {c} (a_plain p) = plain_opens_none d w p ∙ sym (other_opens_none (plain_kind p) e c d w)

-- one more byte of the same token

as_part : {q q' : Part} (d : ℕ) (w : List ℕ) → Some q ≡ Some q' → open_part q d w ≡ open_part q' d w
as_part {q} {q'} d w h = let e : q ≡ q' = cc in ap (λ q. open_part q d w) e

run_opens : (b : Bool) (q : Part) {q' : Part} (c d : ℕ) (w : List ℕ) → cond b (Some q) None ≡ Some q'
    → (b ≡ true → Plain c) → open_from false d w ≡ open_part q d w → open_from false d (c ∷ w) ≡ open_part q' d w
run_opens true q c d w h f k = plain_opens_none d w (f refl) ∙ k ∙ as_part d w h
run_opens false q c d w h f k = none_is_not_some h

pub word_plain : (c : ℕ) → word c ≡ true → Plain c
word_plain c h = tested_plain word c refl refl refl refl refl h

pub digit_plain : (c : ℕ) → digit c ≡ true → Plain c
digit_plain c h = tested_plain digit c refl refl refl refl refl h

pub symbol_plain : (c : ℕ) → symbol c ≡ true → Plain c
symbol_plain c h = tested_plain symbol c refl refl refl refl refl h

pub advance_opens : (q : Part) {q' : Part} (c d : ℕ) (w : List ℕ) → advance q c ≡ Some q'
    → open_part q d (c ∷ w) ≡ open_part q' d w
advance_opens (small_run bs) c d w h = run_opens (word c) (small_run (bs ++ c ∷ [])) c d w h (word_plain c) refl
advance_opens (capital_run bs) c d w h = run_opens (word c) (capital_run (bs ++ c ∷ [])) c d w h (word_plain c) refl
advance_opens (digits bs) c d w h = run_opens (digit c) (digits (bs ++ c ∷ [])) c d w h (digit_plain c) refl
advance_opens (symbols bs) {q'} c d w h = go (symbol c) refl h
  where
    go : (b : Bool) → symbol c ≡ b
        → cond b (Some (symbols (bs ++ c ∷ [])))
        (cond (same bs minus_bytes && digit c) (Some (digits (bs ++ c ∷ []))) None) ≡ Some q'
        → open_from false d (c ∷ w) ≡ open_part q' d w
    go true e k = plain_opens_none d w (symbol_plain c e) ∙ as_part d w k
    go false e k =
        run_opens (same bs minus_bytes && digit c) (digits (bs ++ c ∷ [])) c d w k
        (λ i. digit_plain c (and_true_right (same bs minus_bytes) (digit c) i)) refl
advance_opens (inside bs) {q'} c d w h = go (quote c) h
  where
    go : (b : Bool) → cond b (Some (closed bs)) (Some (inside (bs ++ c ∷ []))) ≡ Some q'
        → open_from (not b) d w ≡ open_part q' d w
    go true k = as_part d w k
    go false k = as_part d w k
advance_opens (closed bs) {q'} c d w h = go (quote c) refl h
  where
    go : (b : Bool) → quote c ≡ b → cond b (Some (inside (bs ++ c ∷ []))) None ≡ Some q'
        → open_from false d (c ∷ w) ≡ open_part q' d w
    go true e k = subst (λ k. open_from false d (k ∷ w) ≡ open_from true d w) (sym (eqb-true c 39 e)) refl ∙ as_part d w k
    go false e k = none_is_not_some k
advance_opens (single t) c d w h = none_is_not_some h

pub space_plain : (c : ℕ) → space c ≡ true → Plain c
space_plain c h = tested_plain space c refl refl refl refl refl h

-- a token ends

pub run_opens_none : (bs : List ℕ) (d : ℕ) → behind (run bs) d ≡ d
run_opens_none bs d =
    elim (same bs neck_bytes) as (λ b. behind (cond b neck (name bs)) d ≡ d) [ true ↦ refl | false ↦ refl ]

pub ended_opens : (q : Part) (d : ℕ) (w : List ℕ) → open_part q d w ≡ open_behind (ended q) d w
ended_opens (small_run bs) d w = refl
ended_opens (capital_run bs) d w = refl
ended_opens (digits bs) d w = refl
ended_opens (symbols bs) d w = ap (λ d. open_from false d w) (sym (run_opens_none bs d))
ended_opens (inside bs) d w = refl
ended_opens (closed bs) d w = refl
ended_opens (single t) d w = refl
