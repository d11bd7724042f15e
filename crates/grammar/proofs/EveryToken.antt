-- The reader that takes every token: it is lawful, so it reads exactly the rows of tokens. Any other reader goes on
-- only as this one does, so it shows whether a row of tokens can have the byte at which another reader stops.
use Rattle.std.proofs.Common.{◌≡◌, ℕ, Bool, true, false, cond, List, [], ◌∷◌, ◌++◌, is_some, Some, None, Option, sym}
use Rattle.std.proofs.Common.{refl, ap, ◌∙◌, subst}
use Rattle.tokens.specs.declared.kind.Kind.TheVariants.{Stray}
use Rattle.tokens.specs.Bytes.{class, space, quote}
use Rattle.tokens.specs.Token.{Token, Part, small_run, capital_run, digits, symbols, inside, closed, single, Edge}
use Rattle.tokens.specs.Token.{first, spaced, joined}
use Rattle.tokens.specs.Token.{may_part, start_as, start, advance, ended, IsRow, a_row}
use Rattle.grammar.specs.Machine.{Parser, Lex, edge, within, at, good, State, hope_within, hope, check}
use Rattle.grammar.specs.Machine.{enter_by, enter, feed_maybe}
use Rattle.grammar.specs.Machine.{fresh, step_by, step, verdict, feed_all}
use Rattle.grammar.specs.Laws.{Completes, Lawful}
use Rattle.grammar.specs.Theorem.{RowGoesOn, goes_on, StopsAt}
use Rattle.grammar.proofs.FedResult.{fed_result}
use Rattle.grammar.proofs.LexingProperties.{false_is_not_true, bad_is_not_good}
use Rattle.grammar.proofs.RowProperties.{none_is_not_some, row_to, row_from}
use Rattle.grammar.proofs.LeastProperties.{Leads, here, on, may_part_at, leads_may_part, verdict_steps, verdict_stops}
use Rattle.grammar.proofs.LeastProperties.{verdict_leads}
use Rattle.grammar.proofs.ByteProperties.{stray_is_no_space, stray_ends_token, BeginsToken, it_begins, others_begin}

abbrev pub any : Parser
any =
    record {
      Place = Unit {0};
      Result = Unit {0};
      feed = λ p t. Some tt;
      is_open_ended = λ p. true;
      result = λ p. Some tt;
      allowed = λ p. 0;
    }

any_hopes_within : (q : Part) → hope_within any q tt ≡ true
any_hopes_within (small_run bs) = refl
any_hopes_within (capital_run bs) = refl
any_hopes_within (digits bs) = refl
any_hopes_within (symbols bs) = refl
any_hopes_within (inside bs) = refl
any_hopes_within (closed bs) = refl
any_hopes_within (single t) = refl

any_hopes : (q : Lex) → hope any q tt ≡ true
any_hopes (edge e) = refl
any_hopes (within q) = any_hopes_within q

-- a letter makes a row of tokens behind an edge, and a quote behind an open quoted name
any_completes_within : (q : Part) → Completes any (within q) tt
any_completes_within (small_run bs) = record { further = []; read = tt; taken = refl }
any_completes_within (capital_run bs) = record { further = []; read = tt; taken = refl }
any_completes_within (digits bs) = record { further = []; read = tt; taken = refl }
any_completes_within (symbols bs) = record { further = []; read = tt; taken = refl }
any_completes_within (inside bs) = record { further = 39 ∷ []; read = tt; taken = refl }
any_completes_within (closed bs) = record { further = []; read = tt; taken = refl }
any_completes_within (single t) = record { further = []; read = tt; taken = refl }

pub any_completes : (q : Lex) → Completes any q tt
any_completes (edge e) = record { further = 97 ∷ []; read = tt; taken = refl }
any_completes (within q) = any_completes_within q

pub any_lawful : Lawful any
any_lawful =
    record {
      any_name = λ p a. refl;
      any_variable = λ p a. refl;
      any_integer = λ p a. refl;
      integer_as_name = λ p h. refl;
      open_where_taken = λ p t h. refl;
      completes = λ q p h. any_completes q;
    }

all_fed : (ts : List Token) → feed_all any (Some tt) ts ≡ Some tt
all_fed [] = refl
all_fed (t ∷ ts) = all_fed ts

-- a text is a row of tokens exactly if this reader reads it
pub row_is_read : {s : List ℕ} → IsRow s → verdict any s (edge first) tt ≡ good tt
row_is_read (a_row {ts = ts} x) = row_to any any_lawful x tt tt (ap (fed_result any) (all_fed ts))

pub read_is_row : {s : List ℕ} → verdict any s (edge first) tt ≡ good tt → IsRow s
read_is_row {s} h = a_row (row_from any any_lawful s first tt tt h).row

-- what this reader does with a byte

check_any : (q : Lex) → check any q tt ≡ Some (at q tt)
check_any q = ap (λ b. cond b (Some (at q tt)) None) (any_hopes q)

-- a stray byte begins nothing
enter_stray : (e : Edge) (c : ℕ) → class c ≡ Stray → enter any e tt c ≡ None
enter_stray e c h =
    ap (λ b. cond b (cond (may_part e) (check any (edge spaced) tt) None) (enter_by any (start e c) tt))
    (stray_is_no_space c h)
    ∙ ap (λ k. enter_by any (start_as k e c) tt) h

fresh_stray : (m : Option Token) (c : ℕ) → class c ≡ Stray → fresh any (feed_maybe any tt m) c ≡ None
fresh_stray None c h = refl
fresh_stray (Some t) c h = enter_stray joined c h

step_stray : (q : Part) (c : ℕ) → class c ≡ Stray → is_some (ended q) ≡ true → step any (within q) tt c ≡ None
step_stray q c h k = ap (λ m. step_by any m q tt c) (stray_ends_token q c h k) ∙ fresh_stray (ended q) c h

data GoesTo : Option (State any) → Type 0 where
  goes_to : (q : Lex) → GoesTo (Some (at q tt))

checked_goes : (q : Lex) → GoesTo (check any q tt)
checked_goes q = subst GoesTo (sym (check_any q)) (goes_to q)

-- any other byte begins a token, but a space at the very beginning does not
enter_other : (e : Edge) (c : ℕ) → (class c ≡ Stray → ⊥) → (space c ≡ true → may_part e ≡ true)
    → GoesTo (enter any e tt c)
enter_other e c h k = go (space c) refl
  where
    spaces : (b : Bool) → b ≡ true → GoesTo (cond b (check any (edge spaced) tt) None)
    spaces true i = checked_goes (edge spaced)
    spaces false i = false_is_not_true i

    token : BeginsToken e c → GoesTo (enter_by any (start e c) tt)
    token (it_begins {q = q} i) = subst (λ m. GoesTo (enter_by any m tt)) (sym i) (checked_goes (within q))

    go : (b : Bool) → space c ≡ b
        → GoesTo (cond b (cond (may_part e) (check any (edge spaced) tt) None) (enter_by any (start e c) tt))
    go true i = spaces (may_part e) (k i)
    go false i = token (others_begin e c h i)

refused_is_ended : (q : Part) (c : ℕ) → advance q c ≡ None → is_some (ended q) ≡ true
refused_is_ended (small_run bs) c h = refl
refused_is_ended (capital_run bs) c h = refl
refused_is_ended (digits bs) c h = refl
refused_is_ended (symbols bs) c h = refl
refused_is_ended (inside bs) c h = go (quote c) h
  where
    go : (b : Bool) → cond b (Some (closed bs)) (Some (inside (bs ++ c ∷ []))) ≡ None → false ≡ true
    go true k = none_is_not_some (sym k)
    go false k = none_is_not_some (sym k)
refused_is_ended (closed bs) c h = refl
refused_is_ended (single t) c h = refl

step_other : (q : Lex) (c : ℕ) → (class c ≡ Stray → ⊥) → (space c ≡ true → may_part_at q ≡ true)
    → GoesTo (step any q tt c)
step_other (edge e) c h k = enter_other e c h k
step_other (within q) c h k = go (advance q c) refl
  where
    behind : (m : Option Token) → is_some m ≡ true → GoesTo (fresh any (feed_maybe any tt m) c)
    behind None i = false_is_not_true i
    behind (Some t) i = enter_other joined c h (λ j. refl)

    go : (m : Option Part) → advance q c ≡ m → GoesTo (step_by any m q tt c)
    go None i = behind (ended q) (refused_is_ended q c i)
    go (Some q') i = checked_goes (within q')

pub first_space_is_no_row : (c : ℕ) (w : List ℕ) → space c ≡ true → IsRow (c ∷ w) → ⊥
first_space_is_no_row c w h x =
    let e : enter any first tt c ≡ None = ap (λ b. cond b None (enter_by any (start first c) tt)) h in
    bad_is_not_good (sym (verdict_stops any (edge first) tt c w e) ∙ row_is_read x)

module _ (G : Parser) where
  -- this reader goes on where another does, and stays inside the same token
  data Followed : Option (State G) → Option (State any) → Type 0 where
    refused : {m : Option (State any)} → Followed None m
    followed : {q : Lex} {p : G.Place} → Followed (Some (at q p)) (Some (at q tt))

  check_followed : (q : Lex) (p : G.Place) → Followed (check G q p) (check any q tt)
  check_followed q p = subst (λ m. Followed (check G q p) m) (sym (check_any q)) (go (hope G q p))
    where
      go : (b : Bool) → Followed (cond b (Some (at q p)) None) (Some (at q tt))
      go true = followed
      go false = refused

  enter_by_followed : (m : Option Part) (p : G.Place) → Followed (enter_by G m p) (enter_by any m tt)
  enter_by_followed None p = refused
  enter_by_followed (Some q) p = check_followed (within q) p

  enter_followed : (e : Edge) (p : G.Place) (c : ℕ) → Followed (enter G e p c) (enter any e tt c)
  enter_followed e p c = go (space c) (may_part e)
    where
      go : (a b : Bool)
          → Followed (cond a (cond b (check G (edge spaced) p) None) (enter_by G (start e c) p))
          (cond a (cond b (check any (edge spaced) tt) None) (enter_by any (start e c) tt))
      go true true = check_followed (edge spaced) p
      go true false = refused
      go false b = enter_by_followed (start e c) p

  fresh_followed : (m : Option G.Place) (c : ℕ) → Followed (fresh G m c) (enter any joined tt c)
  fresh_followed None c = refused
  fresh_followed (Some p) c = enter_followed joined p c

  ended_followed : (m : Option Token) (p : G.Place) (c : ℕ)
      → Followed (fresh G (feed_maybe G p m) c) (fresh any (feed_maybe any tt m) c)
  ended_followed None p c = refused
  ended_followed (Some t) p c = fresh_followed (G.feed p t) c

  step_by_followed : (m : Option Part) (q : Part) (p : G.Place) (c : ℕ)
      → Followed (step_by G m q p c) (step_by any m q tt c)
  step_by_followed None q p c = ended_followed (ended q) p c
  step_by_followed (Some q') q p c = check_followed (within q') p

  step_followed : (q : Lex) (p : G.Place) (c : ℕ) → Followed (step G q p c) (step any q tt c)
  step_followed (edge e) p c = enter_followed e p c
  step_followed (within q) p c = step_by_followed (advance q c) q p c

  follows : {m : Option (State G)} {k : Option (State any)} {q : Lex} {p : G.Place} → Followed m k
      → m ≡ Some (at q p) → k ≡ Some (at q tt)
  follows refused h = none_is_not_some h
  follows {q = q} (followed {q = q₁}) h = let e : q₁ ≡ q = cc in ap (λ q. Some (at q tt)) e

  -- this reader goes the same way
  pub any_leads : {u : List ℕ} {q q₁ : Lex} {p p₁ : G.Place} → Leads G u q p q₁ p₁ → Leads any u q tt q₁ tt
  any_leads here = here
  any_leads (on {c = c} {q = q} {p = p} e l) = on (follows (step_followed q p c) e) (any_leads l)

  hope_is_kept : (q : Lex) (p : G.Place) → hope G q p ≡ true → check G q p ≡ None → ⊥
  hope_is_kept q p h k = none_is_not_some (sym k ∙ ap (λ b. cond b (Some (at q p)) None) h)

  -- nothing is refused inside a quoted name
  pub inside_goes_on : (bs : List ℕ) (p : G.Place) (c : ℕ) → hope_within G (inside bs) p ≡ true
      → step G (within (inside bs)) p c ≡ None → ⊥
  inside_goes_on bs p c h k = go (quote c) k
    where
      go : (b : Bool) → step_by G (cond b (Some (closed bs)) (Some (inside (bs ++ c ∷ [])))) (inside bs) p c ≡ None → ⊥
      go true g = hope_is_kept (within (closed bs)) p h g
      go false g = hope_is_kept (within (inside (bs ++ c ∷ []))) p h g

  stray_stops : (q : Lex) (p : G.Place) (c : ℕ) → hope G q p ≡ true → step G q p c ≡ None → class c ≡ Stray
      → step any q tt c ≡ None
  stray_stops (edge e) p c h k i = enter_stray e c i
  stray_stops (within (small_run bs)) p c h k i = step_stray (small_run bs) c i refl
  stray_stops (within (capital_run bs)) p c h k i = step_stray (capital_run bs) c i refl
  stray_stops (within (digits bs)) p c h k i = step_stray (digits bs) c i refl
  stray_stops (within (symbols bs)) p c h k i = step_stray (symbols bs) c i refl
  stray_stops (within (inside bs)) p c h k i = absurd (inside_goes_on bs p c h k)
  stray_stops (within (closed bs)) p c h k i = step_stray (closed bs) c i refl
  stray_stops (within (single t)) p c h k i = step_stray (single t) c i refl

  -- behind u no row of tokens goes on with c, or some row does, as this reader stops there or not

  no_row_goes_on : {u : List ℕ} {q : Lex} {p p₁ : G.Place} (c : ℕ) → Leads G u (edge first) p q p₁
      → step any q tt c ≡ None → (w : List ℕ) → IsRow (u ++ c ∷ w) → ⊥
  no_row_goes_on {q = q} c l e w x =
      bad_is_not_good (sym (verdict_leads any (any_leads l) (c ∷ w) ∙ verdict_stops any q tt c w e) ∙ row_is_read x)

  a_row_goes_on : {u : List ℕ} {q : Lex} {p p₁ : G.Place} (c : ℕ) → Leads G u (edge first) p q p₁
      → GoesTo (step any q tt c) → RowGoesOn u c
  a_row_goes_on {u} {q} c l g = go (step any q tt c) refl g
    where
      go : (m : Option (State any)) → step any q tt c ≡ m → GoesTo m → RowGoesOn u c
      go m e (goes_to q₂) =
          let z = any_completes q₂ in
          goes_on z.further
          (read_is_row
          (verdict_leads any (any_leads l) (c ∷ z.further) ∙ verdict_steps any q tt c z.further e ∙ z.taken))

  -- the byte c stops the reader G behind u
  pub stops_at : {u : List ℕ} {q : Lex} {p p₁ : G.Place} (c : ℕ) → Leads G u (edge first) p q p₁ → hope G q p₁ ≡ true
      → step G q p₁ c ≡ None → StopsAt u c
  stops_at {u} {q} {p} {p₁} c l h k =
      record {
        stray = λ i w x. no_row_goes_on c l (stray_stops q p₁ c h k i) w x;
        space_first = λ e i w x. first_space_is_no_row c w i (subst (λ v. IsRow (v ++ c ∷ w)) e x);
        otherwise = λ i j. a_row_goes_on c l (step_other q c i (λ a. leads_may_part G l (λ e. j e a)));
      }
