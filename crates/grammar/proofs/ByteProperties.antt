-- Which bytes begin no token: a byte of the kind `Stray` goes on in no run, and only a space has the kind `Space`.
use Rattle.std.proofs.Common.{◌≡◌, ℕ, Bool, true, false, cond, ◌&&◌, ◌||◌, eqb, [], ◌∷◌, ◌++◌, is_some, Some, None}
use Rattle.std.proofs.Common.{Option, sym, refl, ap, ◌∙◌, arith}
use Rattle.tokens.specs.declared.kind.Kind.{Kind}
use Rattle.tokens.specs.declared.kind.Kind.TheVariants.{Small, Capital, Digit, Symbol, Solo, Quote, Opening, Closing}
use Rattle.tokens.specs.declared.kind.Kind.TheVariants.{Left, Right, Bar, Comma, Stop, Space, Stray}
use Rattle.tokens.specs.Bytes.{small, capital, digit, symbol, quote, space, word, same, class}
use Rattle.tokens.specs.Token.{Part, small_run, capital_run, digits, symbols, inside, closed, single, Edge, first}
use Rattle.tokens.specs.Token.{minus_bytes, start_as, start, advance, ended}
use Rattle.grammar.proofs.LexingProperties.{false_is_not_true}

-- whether a byte of this kind begins a token
abbrev begins_token : Kind → Bool
begins_token k = is_some (start_as k first 0)

passed : (b : Bool) (x : Kind) {y z : Kind} → begins_token x ≡ true → begins_token z ≡ false → cond b x y ≡ z
    → (b ≡ false) × (y ≡ z)
passed true x h k e = false_is_not_true (sym k ∙ ap begins_token (sym e) ∙ h)
passed false x h k e = (refl, e)

pub record BeginsNone (c : ℕ) (z : Kind) : Type 0 where
  pub no_small : small c ≡ false
  pub no_capital : capital c ≡ false
  pub no_digit : digit c ≡ false
  pub no_symbol : symbol c ≡ false
  pub no_quote : quote c ≡ false
  pub left_over : cond (space c) Space Stray ≡ z

begins_none : (c : ℕ) (z : Kind) → begins_token z ≡ false → class c ≡ z → BeginsNone c z
begins_none c z k h =
    let a = passed (small c) Small refl k h in
    let b = passed (capital c) Capital refl k a.1 in
    let d = passed (digit c) Digit refl k b.1 in
    let e = passed (symbol c) Symbol refl k d.1 in
    let f = passed (eqb c 59 || eqb c 33) Solo refl k e.1 in
    let g = passed (quote c) Quote refl k f.1 in
    let i = passed (eqb c 40) Opening refl k g.1 in
    let j = passed (eqb c 41) Closing refl k i.1 in
    let l = passed (eqb c 91) Left refl k j.1 in
    let m = passed (eqb c 93) Right refl k l.1 in
    let n = passed (eqb c 124) Bar refl k m.1 in
    let o = passed (eqb c 44) Comma refl k n.1 in
    let p = passed (eqb c 46) Stop refl k o.1 in
    record { no_small = a.0; no_capital = b.0; no_digit = d.0; no_symbol = e.0; no_quote = g.0; left_over = p.1 }

-- a byte that begins no token and is no space goes on in no run
pub stray_goes_on_in_none : (c : ℕ) → class c ≡ Stray → BeginsNone c Stray
stray_goes_on_in_none c h = begins_none c Stray refl h

pub stray_is_no_space : (c : ℕ) → class c ≡ Stray → space c ≡ false
stray_is_no_space c h = go (space c) (begins_none c Stray refl h).left_over
  where
    go : (b : Bool) → cond b Space Stray ≡ Stray → b ≡ false
    go true e = let z : ◌≡◌ {A = ℕ} 0 1 = cc in absurd (omega arith)
    go false e = refl

pub kind_space_is_space : (c : ℕ) → class c ≡ Space → space c ≡ true
kind_space_is_space c h = go (space c) (begins_none c Space refl h).left_over
  where
    go : (b : Bool) → cond b Space Stray ≡ Space → b ≡ true
    go true e = refl
    go false e = let z : ◌≡◌ {A = ℕ} 0 1 = cc in absurd (omega arith)

no_word : {c : ℕ} → BeginsNone c Stray → word c ≡ false
no_word {c} h = ap (λ a. a || capital c || digit c) h.no_small ∙ ap (λ a. a || digit c) h.no_capital ∙ h.no_digit

pub data BeginsToken (e : Edge) (c : ℕ) : Type 0 where
  it_begins : {q : Part} → start e c ≡ Some q → BeginsToken e c

-- any other byte begins a token
pub others_begin : (e : Edge) (c : ℕ) → (class c ≡ Stray → ⊥) → space c ≡ false → BeginsToken e c
others_begin e c h k = go (class c) refl
  where
    begun : (z : Kind) {q : Part} → class c ≡ z → start_as z e c ≡ Some q → BeginsToken e c
    begun z i j = it_begins (ap (λ z. start_as z e c) i ∙ j)

    go : (z : Kind) → class c ≡ z → BeginsToken e c
    go Small i = begun Small i refl
    go Capital i = begun Capital i refl
    go Digit i = begun Digit i refl
    go Symbol i = begun Symbol i refl
    go Solo i = begun Solo i refl
    go Quote i = begun Quote i refl
    go Opening i = begun Opening i refl
    go Closing i = begun Closing i refl
    go Left i = begun Left i refl
    go Right i = begun Right i refl
    go Bar i = begun Bar i refl
    go Comma i = begun Comma i refl
    go Stop i = begun Stop i refl
    go Space i = false_is_not_true (sym k ∙ kind_space_is_space c i)
    go Stray i = absurd (h i)

and_false : (a : Bool) → (a && false) ≡ false
and_false true = refl
and_false false = refl

-- a stray byte ends every token but an open quoted name
pub stray_ends_token : (q : Part) (c : ℕ) → class c ≡ Stray → is_some (ended q) ≡ true → advance q c ≡ None
stray_ends_token (small_run bs) c h k =
    ap (λ b. cond b (Some (small_run (bs ++ c ∷ []))) None) (no_word (stray_goes_on_in_none c h))
stray_ends_token (capital_run bs) c h k =
    ap (λ b. cond b (Some (capital_run (bs ++ c ∷ []))) None) (no_word (stray_goes_on_in_none c h))
stray_ends_token (digits bs) c h k =
    ap (λ b. cond b (Some (digits (bs ++ c ∷ []))) None) (stray_goes_on_in_none c h).no_digit
stray_ends_token (symbols bs) c h k =
    let g = stray_goes_on_in_none c h in
    let sign : Option Part = cond (same bs minus_bytes && digit c) (Some (digits (bs ++ c ∷ []))) None in
    ap (λ b. cond b (Some (symbols (bs ++ c ∷ []))) sign) g.no_symbol
    ∙ ap (λ b. cond (same bs minus_bytes && b) (Some (digits (bs ++ c ∷ []))) None) g.no_digit
    ∙ ap (λ b. cond b (Some (digits (bs ++ c ∷ []))) None) (and_false (same bs minus_bytes))
stray_ends_token (inside bs) c h k = false_is_not_true k
stray_ends_token (closed bs) c h k =
    ap (λ b. cond b (Some (inside (bs ++ c ∷ []))) None) (stray_goes_on_in_none c h).no_quote
stray_ends_token (single t) c h k = refl
