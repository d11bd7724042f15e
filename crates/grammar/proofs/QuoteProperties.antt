-- The machine is inside a quoted name exactly if the bytes that it has taken end inside one, whatever reader of tokens
-- it stands above.
use Rattle.std.proofs.Common.{◌≡◌, ℕ, Bool, true, false, cond, not, ◌&&◌, List, [], ◌∷◌, ◌++◌, Some, None, Option, sym}
use Rattle.std.proofs.Common.{refl, ap, ◌∙◌, subst}
use Rattle.tokens.specs.declared.kind.Kind.{Kind}
use Rattle.tokens.specs.Bytes.{digit, symbol, quote, space, word, same}
use Rattle.tokens.specs.Token.{Token, Part, small_run, capital_run, digits, symbols, inside, closed, single, Edge}
use Rattle.tokens.specs.Token.{spaced, joined, may_part, minus_bytes, start_as, start, advance, ended}
use Rattle.grammar.specs.Machine.{Parser, Lex, edge, within, at, State, hope, check, enter_by, enter, feed_maybe, fresh}
use Rattle.grammar.specs.Machine.{step_by, step}
use Rattle.grammar.specs.Faults.{inside_quote}
use Rattle.grammar.proofs.LexingProperties.{and_true_right}
use Rattle.grammar.proofs.RowProperties.{none_is_not_some}
use Rattle.grammar.proofs.LeastProperties.{Leads, here, on}
use Rattle.grammar.proofs.OpenProperties.{in_quote, Plain, OtherKind, o_small, o_capital, o_digit, o_symbol, o_solo}
use Rattle.grammar.proofs.OpenProperties.{o_bar, o_comma, o_stop, o_space, o_stray, plain_kind, ByteCase, a_quote}
use Rattle.grammar.proofs.OpenProperties.{an_opening}
use Rattle.grammar.proofs.OpenProperties.{a_left, a_closing, a_right, a_plain, byte_case, word_plain, digit_plain}
use Rattle.grammar.proofs.OpenProperties.{symbol_plain, space_plain}

abbrev pub in_quote_at : Lex → Bool
in_quote_at (edge e) = false
in_quote_at (within q) = in_quote q

-- whether one more byte leaves them inside a quoted name
abbrev turned : ℕ → Bool → Bool
turned c b = cond (quote c) (not b) b

abbrev in_quote_maybe : Option Part → Bool
in_quote_maybe None = false
in_quote_maybe (Some q) = in_quote q

plain_turns_none : {c : ℕ} (b : Bool) → Plain c → turned c b ≡ b
plain_turns_none b h = ap (λ a. cond a (not b) b) h.no_quote

other_begins_no_quote : {k : Kind} → OtherKind k → (e : Edge) (c : ℕ) → in_quote_maybe (start_as k e c) ≡ false
other_begins_no_quote o_small e c = refl
other_begins_no_quote o_capital e c = refl
other_begins_no_quote o_digit e c = refl
other_begins_no_quote o_symbol e c = refl
other_begins_no_quote o_solo e c = refl
other_begins_no_quote o_bar e c = refl
other_begins_no_quote o_comma e c = refl
other_begins_no_quote o_stop e c = refl
other_begins_no_quote o_space e c = refl
other_begins_no_quote o_stray e c = refl

start_turns : (e : Edge) (c : ℕ) → turned c false ≡ in_quote_maybe (start e c)
start_turns e c = go (byte_case c)
  where
    go : {c : ℕ} → ByteCase c → turned c false ≡ in_quote_maybe (start e c)
    go a_quote = refl
    go an_opening = refl
    go a_left = refl
    go a_closing = refl
    go a_right = refl
    go {c} (a_plain p) = plain_turns_none false p ∙ sym (other_begins_no_quote (plain_kind p) e c)

as_part : {q q' : Part} → Some q ≡ Some q' → in_quote q ≡ in_quote q'
as_part {q} {q'} h = let e : q ≡ q' = cc in ap in_quote e

run_turns : (b : Bool) (q : Part) {q' : Part} (c : ℕ) → cond b (Some q) None ≡ Some q' → (b ≡ true → Plain c)
    → in_quote q ≡ false → turned c false ≡ in_quote q'
run_turns true q c h f k = plain_turns_none false (f refl) ∙ sym k ∙ as_part h
run_turns false q c h f k = none_is_not_some h

advance_turns : (q : Part) {q' : Part} (c : ℕ) → advance q c ≡ Some q' → turned c (in_quote q) ≡ in_quote q'
advance_turns (small_run bs) c h = run_turns (word c) (small_run (bs ++ c ∷ [])) c h (word_plain c) refl
advance_turns (capital_run bs) c h = run_turns (word c) (capital_run (bs ++ c ∷ [])) c h (word_plain c) refl
advance_turns (digits bs) c h = run_turns (digit c) (digits (bs ++ c ∷ [])) c h (digit_plain c) refl
advance_turns (symbols bs) {q'} c h = go (symbol c) refl h
  where
    go : (b : Bool) → symbol c ≡ b
        → cond b (Some (symbols (bs ++ c ∷ [])))
        (cond (same bs minus_bytes && digit c) (Some (digits (bs ++ c ∷ []))) None) ≡ Some q'
        → turned c false ≡ in_quote q'
    go true e k = plain_turns_none false (symbol_plain c e) ∙ as_part k
    go false e k =
        run_turns (same bs minus_bytes && digit c) (digits (bs ++ c ∷ [])) c k
        (λ i. digit_plain c (and_true_right (same bs minus_bytes) (digit c) i)) refl
advance_turns (inside bs) {q'} c h = go (quote c) h
  where
    go : (b : Bool) → cond b (Some (closed bs)) (Some (inside (bs ++ c ∷ []))) ≡ Some q'
        → cond b false true ≡ in_quote q'
    go true k = as_part k
    go false k = as_part k
advance_turns (closed bs) {q'} c h = go (quote c) h
  where
    go : (b : Bool) → cond b (Some (inside (bs ++ c ∷ []))) None ≡ Some q' → cond b true false ≡ in_quote q'
    go true k = as_part k
    go false k = none_is_not_some k
advance_turns (single t) c h = none_is_not_some h

ended_outside : (q : Part) (t : Token) → ended q ≡ Some t → in_quote q ≡ false
ended_outside (small_run bs) t h = refl
ended_outside (capital_run bs) t h = refl
ended_outside (digits bs) t h = refl
ended_outside (symbols bs) t h = refl
ended_outside (inside bs) t h = none_is_not_some h
ended_outside (closed bs) t h = refl
ended_outside (single t₁) t h = refl

module _ (G : Parser) where
  -- the machine stops, or goes to a state that is inside a quoted name or not, as b says
  data Turns (b : Bool) : Option (State G) → Type 0 where
    stops : Turns b None
    turns : {q : Lex} {p : G.Place} → b ≡ in_quote_at q → Turns b (Some (at q p))

  check_turns : (b : Bool) (q : Lex) (p : G.Place) → b ≡ in_quote_at q → Turns b (check G q p)
  check_turns b q p h = go (hope G q p)
    where
      go : (a : Bool) → Turns b (cond a (Some (at q p)) None)
      go true = turns h
      go false = stops

  enter_by_turns : (b : Bool) (m : Option Part) (p : G.Place) → b ≡ in_quote_maybe m → Turns b (enter_by G m p)
  enter_by_turns b None p h = stops
  enter_by_turns b (Some q) p h = check_turns b (within q) p h

  enter_turns : (e : Edge) (p : G.Place) (c : ℕ) → Turns (turned c false) (enter G e p c)
  enter_turns e p c = go (space c) (may_part e) refl
    where
      go : (a b : Bool) → space c ≡ a
          → Turns (turned c false) (cond a (cond b (check G (edge spaced) p) None) (enter_by G (start e c) p))
      go true true h = check_turns (turned c false) (edge spaced) p (plain_turns_none false (space_plain c h))
      go true false h = stops
      go false b h = enter_by_turns (turned c false) (start e c) p (start_turns e c)

  fresh_turns : (q : Part) (p : G.Place) (c : ℕ) (m : Option Token) → ended q ≡ m
      → Turns (turned c (in_quote q)) (fresh G (feed_maybe G p m) c)
  fresh_turns q p c None h = stops
  fresh_turns q p c (Some t) h = go (G.feed p t)
    where
      go : (m : Option G.Place) → Turns (turned c (in_quote q)) (fresh G m c)
      go None = stops
      go (Some p₁) =
          subst (λ b. Turns (turned c b) (enter G joined p₁ c)) (sym (ended_outside q t h)) (enter_turns joined p₁ c)

  step_turns : (q : Lex) (p : G.Place) (c : ℕ) → Turns (turned c (in_quote_at q)) (step G q p c)
  step_turns (edge e) p c = enter_turns e p c
  step_turns (within q) p c = go (advance q c) refl
    where
      go : (m : Option Part) → advance q c ≡ m → Turns (turned c (in_quote q)) (step_by G m q p c)
      go None h = fresh_turns q p c (ended q) refl
      go (Some q') h = check_turns (turned c (in_quote q)) (within q') p (advance_turns q c h)

  turns_from : {b : Bool} {m : Option (State G)} {q : Lex} {p : G.Place} → Turns b m → m ≡ Some (at q p)
      → b ≡ in_quote_at q
  turns_from stops h = none_is_not_some h
  turns_from {q = q} (turns {q = q₁} i) h = let e : q₁ ≡ q = cc in i ∙ ap in_quote_at e

  leads_turn : {u : List ℕ} {q q₁ : Lex} {p p₁ : G.Place} → Leads G u q p q₁ p₁
      → inside_quote (in_quote_at q) u ≡ in_quote_at q₁
  leads_turn here = refl
  leads_turn (on {c = c} {u = u} {q = q} {p = p} e l) =
      ap (λ b. inside_quote b u) (turns_from (step_turns q p c) e) ∙ leads_turn l

  -- from an edge, the bytes u lead into a quoted name exactly if they end inside one
  pub inside_quote_leads : {u : List ℕ} {e : Edge} {q : Lex} {p p₁ : G.Place} → Leads G u (edge e) p q p₁
      → inside_quote false u ≡ in_quote_at q
  inside_quote_leads l = leads_turn l
