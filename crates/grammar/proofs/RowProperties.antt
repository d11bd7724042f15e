-- The machine of bytes reads exactly the rows of tokens that its reader of tokens takes,
-- for any lawful reader of tokens.
use Rattle.std.proofs.Common.{◌≡◌, ℕ, zero, suc, ◌≤◌, Bool, true, false, cond, List, [], ◌∷◌, length, is_some, Some}
use Rattle.std.proofs.Common.{None, Option, sym, refl, ap, ◌∙◌, subst, arith, eqb-true}
use Rattle.tokens.specs.Bytes.{space}
use Rattle.tokens.specs.Token.{Token, Part, Edge, spaced, joined, may_part, start, advance, ended, Scan, nothing}
use Rattle.tokens.specs.Token.{endless, got}
use Rattle.tokens.specs.Token.{scanned, or_else, scan_from, scan, Row, last, next, gap}
use Rattle.grammar.specs.Machine.{Parser, edge, at, good, bad, Verdict, enter_by, finished_by, or_bad, verdict}
use Rattle.grammar.specs.Machine.{onward, feed_all}
use Rattle.grammar.specs.Laws.{Lawful}
use Rattle.grammar.proofs.FedResult.{fed_result}
use Rattle.grammar.proofs.LexingProperties.{bad_is_not_good, Alike, alike_from, alike_to, through}
use Rattle.grammar.proofs.LexingProperties.{entered_alike}

pub none_is_not_some : {A B : Type 0} {x : A} → None ≡ Some x → B
none_is_not_some h = let z : ◌≡◌ {A = ℕ} 0 1 = cc in absurd (omega arith)

nothing_is_not_got : {A : Type 0} {t : Token} {x : List ℕ} → nothing ≡ got t x → A
nothing_is_not_got h = let z : ◌≡◌ {A = ℕ} 0 1 = cc in absurd (omega arith)

pub space_begins_none : (e : Edge) (c : ℕ) → space c ≡ true → start e c ≡ None
space_begins_none e c h = ap (start e) (eqb-true c 32 h)

-- a token leaves no more bytes than there were

scanned_no_longer : (m : Option Token) (r : List ℕ) (t : Token) (x : List ℕ) → scanned m r ≡ got t x
    → length x ≤ length r
scanned_no_longer None r t x h = let z : ◌≡◌ {A = ℕ} 0 1 = cc in absurd (omega arith)
scanned_no_longer (Some u) r t x h = let e : r ≡ x = cc in let k = ap length e in omega arith

scanned_from_no_longer : (s : List ℕ) (q : Part) (t : Token) (x : List ℕ) → scan_from q s ≡ got t x → length x ≤ length s
scanned_from_no_longer [] q t x h = scanned_no_longer (ended q) [] t x h
scanned_from_no_longer (c ∷ s) q t x h =
    go (advance q c) h (λ q'. scanned_from_no_longer s q' t x)
  where
    go : (m : Option Part)
        → or_else m (scanned (ended q) (c ∷ s)) (λ q'. scan_from q' s) ≡ got t x
        → ((q' : Part) → scan_from q' s ≡ got t x → length x ≤ length s) → length x ≤ length (c ∷ s)
    go None g ih = scanned_no_longer (ended q) (c ∷ s) t x g
    go (Some q') g ih = let k = ih q' g in omega arith

pub token_leaves_fewer : (e : Edge) (c : ℕ) (s : List ℕ) (t : Token) (x : List ℕ) → scan e (c ∷ s) ≡ got t x
    → length x ≤ length s
token_leaves_fewer e c s t x h =
    (elim (start e c) as (λ m. or_else m nothing (λ q. scan_from q s) ≡ got t x → length x ≤ length s) [
      | None ↦ λ g. nothing_is_not_got g
      | Some q ↦ λ g. scanned_from_no_longer s q t x g
    ]) h

module _ (G : Parser) where
  -- a byte at an edge, by whether it is a space, a space may stand there, and the place is open
  abbrev entered : Bool → Bool → Bool → Edge → G.Place → ℕ → List ℕ → Verdict G
  entered a b d e p c s =
      or_bad G (cond a (cond b (cond d (Some (at (edge spaced) p)) None) None) (enter_by G (start e c) p))
      (bad (G.allowed p) (c ∷ s)) (verdict G s)

  -- the bytes are a row of tokens, and these are taken from the place p on and read as r
  pub record RowTaken (e : Edge) (s : List ℕ) (p : G.Place) (r : G.Result) : Type 0 where
    pub tokens : List Token
    pub row : Row e s tokens
    pub fed : fed_result G (feed_all G (Some p) tokens) ≡ Some r

  result_is_good : (n : ℕ) (m : Option G.Place) (r : G.Result) → fed_result G m ≡ Some r → onward G n m [] ≡ good r
  result_is_good n None r h = none_is_not_some h
  result_is_good n (Some p) r h = ap (finished_by G (G.allowed p)) h

  finished_is_result : (n : ℕ) (m : Option G.Result) (r : G.Result) → finished_by G n m ≡ good r → m ≡ Some r
  finished_is_result n None r h = bad_is_not_good h
  finished_is_result n (Some x) r h = let e : x ≡ r = cc in ap Some e

  good_is_result : (n : ℕ) (m : Option G.Place) (r : G.Result) → onward G n m [] ≡ good r → fed_result G m ≡ Some r
  good_is_result n None r h = bad_is_not_good h
  good_is_result n (Some p) r h = finished_is_result (G.allowed p) (G.result p) r h

  fed_none : (ts : List Token) (r : G.Result) → fed_result G (feed_all G None ts) ≡ Some r → ⊥
  fed_none [] r h = none_is_not_some h
  fed_none (t ∷ ts) r h = none_is_not_some h

  -- the first of the tokens that are taken is taken
  first_taken : (m : Option G.Place) (ts : List Token) (r : G.Result) → fed_result G (feed_all G m ts) ≡ Some r
      → is_some m ≡ true
  first_taken None ts r h = absurd (fed_none ts r h)
  first_taken (Some p) ts r h = refl

  module _ (law : Lawful G) where
    open law use {open_where_taken}

    -- at a byte that is no space, what stands there is a token
    pub edge_alike : (e : Edge) (p : G.Place) (c : ℕ) (s : List ℕ) → space c ≡ false
        → Alike (verdict G (c ∷ s) (edge e) p) (through G p (scan e (c ∷ s)))
    edge_alike e p c s h =
        subst (λ b. Alike (entered b (may_part e) (G.is_open_ended p) e p c s) (through G p (scan e (c ∷ s)))) (sym h)
        (entered_alike G law (start e c) p (G.allowed p) (c ∷ s) s)

    scan_to : (e : Edge) (s : List ℕ) (t : Token) (x : List ℕ) (p : G.Place) (r : G.Result) → scan e s ≡ got t x
        → onward G (G.allowed p) (G.feed p t) x ≡ good r → verdict G s (edge e) p ≡ good r
    scan_to e [] t x p r i g = nothing_is_not_got i
    scan_to e (c ∷ s) t x p r i g = go (space c) refl
      where
        go : (b : Bool) → space c ≡ b → verdict G (c ∷ s) (edge e) p ≡ good r
        go true k =
            nothing_is_not_got (sym (ap (λ m. or_else m nothing (λ q. scan_from q s)) (space_begins_none e c k)) ∙ i)
        go false k = alike_to (edge_alike e p c s k) (ap (through G p) i ∙ g)

    row_is_open : {e : Edge} {s : List ℕ} {ts : List Token} → Row e s ts → (p : G.Place) (r : G.Result)
        → fed_result G (feed_all G (Some p) ts) ≡ Some r → G.is_open_ended p ≡ true
    row_is_open (last {t = t} i) p r h = open_where_taken p t (first_taken (G.feed p t) [] r h)
    row_is_open (next {t = t} {ts = ts} i x) p r h = open_where_taken p t (first_taken (G.feed p t) ts r h)
    row_is_open (gap m k x) p r h = row_is_open x p r h

    -- a row of tokens that is taken is read
    pub row_to : {e : Edge} {s : List ℕ} {ts : List Token} → Row e s ts → (p : G.Place) (r : G.Result)
        → fed_result G (feed_all G (Some p) ts) ≡ Some r → verdict G s (edge e) p ≡ good r
    row_to {e} {s} (last {t = t} i) p r h = scan_to e s t [] p r i (result_is_good (G.allowed p) (G.feed p t) r h)
    row_to {e} {s} (next {t = t} {c = c} {r = x} {ts = ts} i y) p r h =
        scan_to e s t (c ∷ x) p r i (go (G.feed p t) h (λ p₁. row_to y p₁ r))
      where
        go : (m : Option G.Place) → fed_result G (feed_all G m ts) ≡ Some r
            → ((p₁ : G.Place)
            → fed_result G (feed_all G (Some p₁) ts) ≡ Some r → verdict G (c ∷ x) (edge joined) p₁ ≡ good r)
            → onward G (G.allowed p) m (c ∷ x) ≡ good r
        go None g ih = absurd (fed_none ts r g)
        go (Some p₁) g ih = ih p₁ g
    row_to {e} (gap {c = c} {s = s} m k x) p r h =
        ap (λ b. entered b (may_part e) (G.is_open_ended p) e p c s) k
        ∙ ap (λ b. entered true b (G.is_open_ended p) e p c s) m
        ∙ ap (λ b. entered true true b e p c s) (row_is_open x p r h)
        ∙ row_to x p r h

    -- what is read is a row of tokens that is taken, if the bytes are at most n
    abbrev Shorter : ℕ → G.Result → Type 0
    Shorter n r =
        (s : List ℕ) (e : Edge) (p : G.Place) → length s ≤ n → verdict G s (edge e) p ≡ good r → RowTaken e s p r

    row_from_within : (n : ℕ) (s : List ℕ) (e : Edge) (p : G.Place) (r : G.Result) → length s ≤ n
        → verdict G s (edge e) p ≡ good r → RowTaken e s p r
    row_from_within n [] e p r l h = bad_is_not_good h
    row_from_within zero (c ∷ s) e p r l h = absurd (omega arith)
    row_from_within (suc n) (c ∷ s) e p r l h =
        go (space c) refl h (λ s₁ e₁ p₁ l₁ h₁. row_from_within n s₁ e₁ p₁ r l₁ h₁)
      where
        spaces : (a b : Bool) → may_part e ≡ a → space c ≡ true
            → entered true a b e p c s ≡ good r
            → Shorter n r → RowTaken e (c ∷ s) p r
        spaces true true m k g ih =
            let x = ih s spaced p (omega arith) g in record { tokens = x.tokens; row = gap m k x.row; fed = x.fed }
        spaces true false m k g ih = bad_is_not_good g
        spaces false b m k g ih = bad_is_not_good g

        behind : (t : Token) (d : ℕ) (y : List ℕ) (m : Option G.Place) → G.feed p t ≡ m
            → scan e (c ∷ s) ≡ got t (d ∷ y) → length (d ∷ y) ≤ n → onward G (G.allowed p) m (d ∷ y) ≡ good r
            → Shorter n r → RowTaken e (c ∷ s) p r
        behind t d y None f i k g ih = bad_is_not_good g
        behind t d y (Some p₁) f i k g ih =
            let x = ih (d ∷ y) joined p₁ k g in
            record {
              tokens = t ∷ x.tokens;
              row = next i x.row;
              fed = ap (λ m. fed_result G (feed_all G m x.tokens)) f ∙ x.fed;
            }

        token : (x : Scan) → scan e (c ∷ s) ≡ x → through G p x ≡ good r → Shorter n r → RowTaken e (c ∷ s) p r
        token nothing i g ih = bad_is_not_good g
        token endless i g ih = bad_is_not_good g
        token (got t []) i g ih =
            record { tokens = t ∷ []; row = last i; fed = good_is_result (G.allowed p) (G.feed p t) r g }
        token (got t (d ∷ y)) i g ih =
            let k = token_leaves_fewer e c s t (d ∷ y) i in behind t d y (G.feed p t) refl i (omega arith) g ih

        go : (b : Bool) → space c ≡ b → verdict G (c ∷ s) (edge e) p ≡ good r → Shorter n r → RowTaken e (c ∷ s) p r
        go true k g ih =
            spaces (may_part e) (G.is_open_ended p) refl k
            (sym (ap (λ b. entered b (may_part e) (G.is_open_ended p) e p c s) k) ∙ g) ih
        go false k g ih = token (scan e (c ∷ s)) refl (alike_from (edge_alike e p c s k) g) ih

    pub row_from : (s : List ℕ) (e : Edge) (p : G.Place) (r : G.Result) → verdict G s (edge e) p ≡ good r
        → RowTaken e s p r
    row_from s e p r h = row_from_within (length s) s e p r (omega arith) h
