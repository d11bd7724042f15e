-- The kinds of quotes, symbols and spaces: a byte passes the test exactly if it has the kind.
use Rattle.std.proofs.Common.{◌≡◌, ℕ, Bool, true, false, cond, ◌||◌, eqb, Some, None, Option, sym, refl, ap, ◌∙◌, arith}
use Rattle.std.proofs.lemmas.Bool.{eqb-true}
use Rattle.tokens.specs.declared.kind.Kind.{Kind}
use Rattle.tokens.specs.declared.kind.Kind.TheVariants.{Small, Capital, Digit, Symbol, Solo, Quote, Opening}
use Rattle.tokens.specs.declared.kind.Kind.TheVariants.{Closing, Left, Right, Bar, Comma, Stop, Space, Stray}
use Rattle.tokens.specs.Bytes.{class, small, capital, digit, symbol, quote, space}
use Rattle.tokens.specs.Token.{Part, small_run, capital_run, digits, symbols, inside, closed, single, first, start_as}

pub no_bool : {A : Type 0} → false ≡ true → A
no_bool h = let z : ◌≡◌ {A = ℕ} 0 1 = cc in absurd (omega arith)

pub space_has_kind : (c : ℕ) → space c ≡ true → class c ≡ Space
space_has_kind c h = ap class (eqb-true c 32 h)

pub quote_has_kind : (c : ℕ) → quote c ≡ true → class c ≡ Quote
quote_has_kind c h = ap class (eqb-true c 39 h)

either : {A : Type 0} (a b : Bool) → (a ≡ true → A) → (b ≡ true → A) → (a || b) ≡ true → A
either true b f g h = f refl
either false b f g h = g h

pub symbol_has_kind : (c : ℕ) → symbol c ≡ true → class c ≡ Symbol
symbol_has_kind c h =
    either _ (eqb c 58) (either _ (eqb c 62) (either _ (eqb c 61) (either _ (eqb c 60) (either _ (eqb c 92) (either _ (eqb c 47)
    (either _ (eqb c 42) (either (eqb c 43) (eqb c 45) (λ e. ap class (eqb-true c 43 e)) (λ e. ap class (eqb-true c 45 e)))
    (λ e. ap class (eqb-true c 42 e))) (λ e. ap class (eqb-true c 47 e))) (λ e. ap class (eqb-true c 92 e)))
    (λ e. ap class (eqb-true c 60 e))) (λ e. ap class (eqb-true c 61 e))) (λ e. ap class (eqb-true c 62 e)))
    (λ e. ap class (eqb-true c 58 e)) h

-- which kinds begin a run of symbols, and which a quoted name
abbrev begins_symbols : Option Part → Bool
begins_symbols None = false
begins_symbols (Some (small_run bs)) = false
begins_symbols (Some (capital_run bs)) = false
begins_symbols (Some (digits bs)) = false
begins_symbols (Some (symbols bs)) = true
begins_symbols (Some (inside bs)) = false
begins_symbols (Some (closed bs)) = false
begins_symbols (Some (single t)) = false

abbrev pub begins_quoted : Option Part → Bool
begins_quoted None = false
begins_quoted (Some (small_run bs)) = false
begins_quoted (Some (capital_run bs)) = false
begins_quoted (Some (digits bs)) = false
begins_quoted (Some (symbols bs)) = false
begins_quoted (Some (inside bs)) = true
begins_quoted (Some (closed bs)) = false
begins_quoted (Some (single t)) = false

-- a test of kinds that fails at each step of the choice
module _ (f : Kind → Bool) where
  passed : (b : Bool) (x y : Kind) → f x ≡ false → f y ≡ false → f (cond b x y) ≡ false
  passed true x y h k = h
  passed false x y h k = k

  skipped : (b : Bool) (x y : Kind) → b ≡ false → f y ≡ false → f (cond b x y) ≡ false
  skipped b x y e k = ap (λ b. f (cond b x y)) e ∙ k

abbrev of_symbols : Kind → Bool
of_symbols k = begins_symbols (start_as k first 0)

abbrev pub of_quoted : Kind → Bool
of_quoted k = begins_quoted (start_as k first 0)

no_symbol_kind : (c : ℕ) → symbol c ≡ false → of_symbols (class c) ≡ false
no_symbol_kind c e =
    let p = passed of_symbols in
    p (small c) Small _ refl (p (capital c) Capital _ refl (p (digit c) Digit _ refl (skipped of_symbols (symbol c) Symbol _ e
    (p (eqb c 59 || eqb c 33) Solo _ refl (p (quote c) Quote _ refl (p (eqb c 40) Opening _ refl (p (eqb c 41) Closing _ refl
    (p (eqb c 91) Left _ refl (p (eqb c 93) Right _ refl (p (eqb c 124) Bar _ refl (p (eqb c 44) Comma _ refl
    (p (eqb c 46) Stop _ refl (p (space c) Space Stray refl refl)))))))))))))

no_quote_kind : (c : ℕ) → quote c ≡ false → of_quoted (class c) ≡ false
no_quote_kind c e =
    let p = passed of_quoted in
    p (small c) Small _ refl (p (capital c) Capital _ refl (p (digit c) Digit _ refl (p (symbol c) Symbol _ refl
    (p (eqb c 59 || eqb c 33) Solo _ refl (skipped of_quoted (quote c) Quote _ e
    (p (eqb c 40) Opening _ refl (p (eqb c 41) Closing _ refl (p (eqb c 91) Left _ refl (p (eqb c 93) Right _ refl (p (eqb c 124) Bar _ refl (p (eqb c 44) Comma _ refl
    (p (eqb c 46) Stop _ refl (p (space c) Space Stray refl refl)))))))))))))

pub symbol_by_kind : (c : ℕ) → class c ≡ Symbol → symbol c ≡ true
symbol_by_kind c h = go (symbol c) refl
  where
    go : (b : Bool) → symbol c ≡ b → b ≡ true
    go true e = refl
    go false e = sym (no_symbol_kind c e) ∙ ap of_symbols h

pub quote_by_kind : (c : ℕ) → class c ≡ Quote → quote c ≡ true
quote_by_kind c h = go (quote c) refl
  where
    go : (b : Bool) → quote c ≡ b → b ≡ true
    go true e = refl
    go false e = sym (no_quote_kind c e) ∙ ap of_quoted h

-- a byte that has not the kind does not pass
pub no_space : (c : ℕ) → (class c ≡ Space → ⊥) → space c ≡ false
no_space c h = go (space c) refl
  where
    go : (b : Bool) → space c ≡ b → b ≡ false
    go true e = absurd (h (space_has_kind c e))
    go false e = refl

pub no_quote : (c : ℕ) → (class c ≡ Quote → ⊥) → quote c ≡ false
no_quote c h = go (quote c) refl
  where
    go : (b : Bool) → quote c ≡ b → b ≡ false
    go true e = absurd (h (quote_has_kind c e))
    go false e = refl

pub no_symbol : (c : ℕ) → (class c ≡ Symbol → ⊥) → symbol c ≡ false
no_symbol c h = go (symbol c) refl
  where
    go : (b : Bool) → symbol c ≡ b → b ≡ false
    go true e = absurd (h (symbol_has_kind c e))
    go false e = refl

pub kind_no_quote : (c : ℕ) (k : Kind) → class c ≡ k → of_quoted k ≡ false → quote c ≡ false
kind_no_quote c k h f = no_quote c (λ e. no_bool (sym f ∙ ap of_quoted (sym h ∙ e)))
