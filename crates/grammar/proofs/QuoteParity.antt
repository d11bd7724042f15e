-- Quotes outside and inside: behind a whole token no quoted name is open, and behind an endless one it is.
use Rattle.std.proofs.Common.{◌≡◌, ℕ, Bool, true, false, cond, not, ◌&&◌, List, [], ◌∷◌, ◌++◌, Some, None, Option, sym}
use Rattle.std.proofs.Common.{refl, ap, ◌∙◌}
use Rattle.std.proofs.lemmas.Bool.{eqb-true}
use Rattle.tokens.specs.declared.kind.Kind.{Kind}
use Rattle.tokens.specs.declared.kind.Kind.TheVariants.{Small, Capital, Digit, Symbol, Solo, Quote, Opening}
use Rattle.tokens.specs.declared.kind.Kind.TheVariants.{Closing, Left, Right, Bar, Comma, Stop, Space, Stray}
use Rattle.tokens.specs.Bytes.{class, space, past, longest, word, digit, symbol, quote, same}
use Rattle.tokens.specs.Token.{Token, name, run, opening, closing, left, right, bar, comma, stop, minus_bytes}
use Rattle.tokens.specs.Token.{Part, small_run, capital_run, digits, symbols, inside, closed, single, Edge, joined}
use Rattle.tokens.specs.Token.{is_joined}
use Rattle.tokens.specs.Token.{start_as, Scan, nothing, endless, got, or_else, scan_from, scan}
use Rattle.tokens.specs.Scanning.{head_kind, digit_at}
use Rattle.tokens.proofs.ScanningProperties.{scan_single, scan_small, scan_capital, scan_digits, scan_symbols}
use Rattle.grammar.specs.Faults.{inside_quote}
use Rattle.grammar.specs.Places.{tail_of}
use Rattle.grammar.proofs.KindProperties.{no_bool, of_quoted, kind_no_quote, quote_by_kind, no_quote}

-- a test that no quote passes
passes_no_quote : (f : ℕ → Bool) (c : ℕ) → f 39 ≡ false → f c ≡ true → quote c ≡ false
passes_no_quote f c h k = go (quote c) refl
  where
    go : (b : Bool) → quote c ≡ b → b ≡ false
    go true e = sym k ∙ ap f (eqb-true c 39 e) ∙ h
    go false e = refl

-- whether a quoted name is open inside a part of a token, and behind what was found, or as before (b) if nothing was
abbrev open_in : Part → Bool
open_in (small_run bs) = false
open_in (capital_run bs) = false
open_in (digits bs) = false
open_in (symbols bs) = false
open_in (inside bs) = true
open_in (closed bs) = false
open_in (single t) = false

abbrev open_behind : Bool → Scan → Bool
open_behind b nothing = b
open_behind b endless = true
open_behind b (got t r) = inside_quote false r

-- a byte that is no quote changes nothing
plain_byte : (b : Bool) (c : ℕ) (s : List ℕ) → quote c ≡ false → inside_quote b (c ∷ s) ≡ inside_quote b s
plain_byte b c s h = ap (λ q. inside_quote (cond q (not b) b) s) h

-- by what is found behind one more byte: in the part that the byte made, or what ended before it
module _ (d : Bool) where
  abbrev behind_byte : Option Part → Scan → List ℕ → Bool
  behind_byte m x s = open_behind d (or_else m x (λ q. scan_from q s))

  -- a run goes on with the bytes that pass a test, none of them a quote
  inside_a_run : (f : ℕ → Bool) (c : ℕ) (s : List ℕ) (m : Option Part) (x : Scan) → f 39 ≡ false
      → inside_quote false s ≡ behind_byte m x s → inside_quote false (c ∷ s) ≡ open_behind d x
      → inside_quote false (c ∷ s) ≡ behind_byte (cond (f c) m None) x s
  inside_a_run f c s m x n h k = go (f c) refl
    where
      go : (b : Bool) → f c ≡ b → inside_quote false (c ∷ s) ≡ behind_byte (cond b m None) x s
      go true e = plain_byte false c s (passes_no_quote f c n e) ∙ h
      go false e = k

  parity : (s : List ℕ) (q : Part) → inside_quote (open_in q) s ≡ open_behind d (scan_from q s)
  parity [] (small_run bs) = refl
  parity [] (capital_run bs) = refl
  parity [] (digits bs) = refl
  parity [] (symbols bs) = refl
  parity [] (inside bs) = refl
  parity [] (closed bs) = refl
  parity [] (single t) = refl
  parity (c ∷ s) (small_run bs) =
      inside_a_run word c s (Some (small_run (bs ++ c ∷ []))) _ refl (parity s (small_run (bs ++ c ∷ []))) refl
  parity (c ∷ s) (capital_run bs) =
      inside_a_run word c s (Some (capital_run (bs ++ c ∷ []))) _ refl (parity s (capital_run (bs ++ c ∷ []))) refl
  parity (c ∷ s) (digits bs) = inside_a_run digit c s (Some (digits (bs ++ c ∷ []))) _ refl (parity s (digits (bs ++ c ∷ []))) refl
  parity (c ∷ s) (symbols bs) = go (symbol c) refl (parity s (symbols (bs ++ c ∷ []))) (parity s (digits (bs ++ c ∷ [])))
    where
      signed : (a : Bool) → inside_quote false s ≡ open_behind d (scan_from (digits (bs ++ c ∷ [])) s)
          → inside_quote false (c ∷ s)
          ≡ behind_byte (cond (a && digit c) (Some (digits (bs ++ c ∷ []))) None) (got (run bs) (c ∷ s)) s
      signed true ih = inside_a_run digit c s (Some (digits (bs ++ c ∷ []))) (got (run bs) (c ∷ s)) refl ih refl
      signed false ih = refl

      go : (b : Bool) → symbol c ≡ b → inside_quote false s ≡ open_behind d (scan_from (symbols (bs ++ c ∷ [])) s)
          → inside_quote false s ≡ open_behind d (scan_from (digits (bs ++ c ∷ [])) s)
          → inside_quote false (c ∷ s) ≡ behind_byte (cond b (Some (symbols (bs ++ c ∷ [])))
          (cond (same bs minus_bytes && digit c) (Some (digits (bs ++ c ∷ []))) None)) (got (run bs) (c ∷ s)) s
      go true e ih jh = plain_byte false c s (passes_no_quote symbol c refl e) ∙ ih
      go false e ih jh = signed (same bs minus_bytes) jh
  parity (c ∷ s) (inside bs) =
      elim (quote c) as (λ b. inside_quote (cond b false true) s
      ≡ behind_byte (cond b (Some (closed bs)) (Some (inside (bs ++ c ∷ [])))) endless s)
      [ true ↦ parity s (closed bs) | false ↦ parity s (inside (bs ++ c ∷ [])) ]
  parity (c ∷ s) (closed bs) = go (quote c) refl (parity s (inside (bs ++ c ∷ [])))
    where
      go : (b : Bool) → quote c ≡ b → inside_quote true s ≡ open_behind d (scan_from (inside (bs ++ c ∷ [])) s)
          → inside_quote false (c ∷ s) ≡ behind_byte (cond b (Some (inside (bs ++ c ∷ []))) None) (got (name bs) (c ∷ s)) s
      go true e ih = ap (λ b. inside_quote (cond b true false) s) e ∙ ih
      go false e ih = refl
  parity (c ∷ s) (single t) = refl

scan_parity : (e : Edge) (s : List ℕ) → inside_quote false s ≡ open_behind (inside_quote false s) (scan e s)
scan_parity e [] = refl
scan_parity e (c ∷ s) = go (class c) refl
  where
    from : (k : Kind) (q : Part) → class c ≡ k → of_quoted k ≡ false → open_in q ≡ false
        → inside_quote false (c ∷ s) ≡ open_behind (inside_quote false (c ∷ s)) (scan_from q s)
    from k q h f g =
        plain_byte false c s (kind_no_quote c k h f) ∙ ap (λ b. inside_quote b s) (sym g)
        ∙ parity (inside_quote false (c ∷ s)) s q

    go : (k : Kind) → class c ≡ k
        → inside_quote false (c ∷ s) ≡ behind_byte (inside_quote false (c ∷ s)) (start_as k e c) nothing s
    go Small h = from Small (small_run (c ∷ [])) h refl refl
    go Capital h = from Capital (capital_run (c ∷ [])) h refl refl
    go Digit h = from Digit (digits (c ∷ [])) h refl refl
    go Symbol h = from Symbol (symbols (c ∷ [])) h refl refl
    go Solo h = from Solo (single (name (c ∷ []))) h refl refl
    go Quote h =
        ap (λ b. inside_quote (cond b true false) s) (quote_by_kind c h) ∙ parity (inside_quote false (c ∷ s)) s (inside [])
    go Opening h = from Opening (single (opening (is_joined e))) h refl refl
    go Closing h = from Closing (single closing) h refl refl
    go Left h = from Left (single left) h refl refl
    go Right h = from Right (single right) h refl refl
    go Bar h = from Bar (single bar) h refl refl
    go Comma h = from Comma (single comma) h refl refl
    go Stop h = from Stop (single stop) h refl refl
    go Space h = refl
    go Stray h = refl

pub scan_even : (e : Edge) (s : List ℕ) (t : Token) (r : List ℕ) → scan e s ≡ got t r → inside_quote false s ≡ inside_quote false r
scan_even e s t r h = scan_parity e s ∙ ap (open_behind (inside_quote false s)) h

pub scan_endless_open : (e : Edge) (s : List ℕ) → scan e s ≡ endless → inside_quote false s ≡ true
scan_endless_open e s h = scan_parity e s ∙ ap (open_behind (inside_quote false s)) h

pub spaces_even : (s : List ℕ) → inside_quote false s ≡ inside_quote false (past space s)
spaces_even [] = refl
spaces_even (c ∷ s) = go (space c) refl (spaces_even s)
  where
    go : (b : Bool) → space c ≡ b → inside_quote false s ≡ inside_quote false (past space s)
        → inside_quote false (c ∷ s) ≡ inside_quote false (cond b (past space s) (c ∷ s))
    go true e ih = plain_byte false c s (passes_no_quote space c refl e) ∙ ih
    go false e ih = refl

pub single_even : (s : List ℕ) → (head_kind s ≡ Quote → ⊥) → inside_quote false s ≡ inside_quote false (tail_of s)
single_even [] h = refl
single_even (c ∷ s) h = plain_byte false c s (no_quote c h)

-- only a quoted name is endless
abbrev is_endless : Scan → Bool
is_endless nothing = false
is_endless endless = true
is_endless (got t r) = false

single_ends : (t : Token) (s : List ℕ) → is_endless (scan_from (single t) s) ≡ false
single_ends t s = ap is_endless (scan_single t s)

symbols_end : (s bs : List ℕ) → is_endless (scan_from (symbols bs) s) ≡ false
symbols_end s bs =
    ap is_endless (scan_symbols s bs) ∙ both_end (same (bs ++ longest symbol s) minus_bytes && digit_at (past symbol s)) _ _ refl refl
  where
    both_end : (b : Bool) (x y : Scan) → is_endless x ≡ false → is_endless y ≡ false → is_endless (cond b x y) ≡ false
    both_end true x y h k = h
    both_end false x y h k = k

unquoted_ends : (k : Kind) (e : Edge) (c : ℕ) (s : List ℕ) → (k ≡ Quote → ⊥)
    → is_endless (or_else (start_as k e c) nothing (λ q. scan_from q s)) ≡ false
unquoted_ends Small e c s h = ap is_endless (scan_small s (c ∷ []))
unquoted_ends Capital e c s h = ap is_endless (scan_capital s (c ∷ []))
unquoted_ends Digit e c s h = ap is_endless (scan_digits s (c ∷ []))
unquoted_ends Symbol e c s h = symbols_end s (c ∷ [])
unquoted_ends Solo e c s h = single_ends (name (c ∷ [])) s
unquoted_ends Quote e c s h = absurd (h refl)
unquoted_ends Opening e c s h = single_ends (opening (is_joined e)) s
unquoted_ends Closing e c s h = single_ends closing s
unquoted_ends Left e c s h = single_ends left s
unquoted_ends Right e c s h = single_ends right s
unquoted_ends Bar e c s h = single_ends bar s
unquoted_ends Comma e c s h = single_ends comma s
unquoted_ends Stop e c s h = single_ends stop s
unquoted_ends Space e c s h = refl
unquoted_ends Stray e c s h = refl

pub not_endless_at : (e : Edge) (s : List ℕ) → (head_kind s ≡ Quote → ⊥) → scan e s ≡ endless → ⊥
not_endless_at e [] h g = no_bool (ap is_endless g)
not_endless_at e (c ∷ s) h g = no_bool (sym (unquoted_ends (class c) e c s h) ∙ ap is_endless g)

pub not_endless : (s : List ℕ) → (head_kind s ≡ Quote → ⊥) → scan joined s ≡ endless → ⊥
not_endless s h g = not_endless_at joined s h g

pub endless_any_edge : (e f : Edge) (s : List ℕ) → scan e s ≡ endless → scan f s ≡ endless
endless_any_edge e f [] h = no_bool (ap is_endless h)
endless_any_edge e f (c ∷ s) h = go (class c) h
  where
    go : (k : Kind) → or_else (start_as k e c) nothing (λ q. scan_from q s) ≡ endless
        → or_else (start_as k f c) nothing (λ q. scan_from q s) ≡ endless
    go Small g = g
    go Capital g = g
    go Digit g = g
    go Symbol g = g
    go Solo g = g
    go Quote g = g
    go Opening g = no_bool (sym (single_ends (opening (is_joined e)) s) ∙ ap is_endless g)
    go Closing g = g
    go Left g = g
    go Right g = g
    go Bar g = g
    go Comma g = g
    go Stop g = g
    go Space g = g
    go Stray g = g
