-- Where the machine of bytes is stuck: what it took can be completed, and with the next byte nothing can.
-- It keeps hope along its steps, and what is hoped for can be completed.
use Rattle.std.proofs.Common.{◌≡◌, ℕ, Bool, true, false, cond, ◌&&◌, List, [], ◌∷◌, ◌++◌, Some, None, Option, sym, refl}
use Rattle.std.proofs.Common.{ap, ◌∙◌, subst, arith}
use Rattle.tokens.specs.Bytes.{space}
use Rattle.tokens.specs.Token.{Part, Edge, spaced, joined, may_part, start, advance, ended}
use Rattle.grammar.specs.Machine.{Parser, Lex, edge, within, at, good, bad, State, Verdict, hope}
use Rattle.grammar.specs.Machine.{check}
use Rattle.grammar.specs.Machine.{enter_by, enter, feed_maybe, fresh, step_by, step, allowed_by, allowed_at}
use Rattle.grammar.specs.Machine.{finished_by}
use Rattle.grammar.specs.Machine.{finished, finish, or_bad, verdict}
use Rattle.grammar.specs.Laws.{Lawful}
use Rattle.grammar.proofs.LexingProperties.{bad_is_not_good, and_true_both, and_true_left, and_true_right}

-- between two tokens, or inside one: anywhere but at the very beginning
abbrev pub may_part_at : Lex → Bool
may_part_at (edge e) = may_part e
may_part_at (within q) = true

module _ (G : Parser) where
  -- a step leads behind a space or into a token, if there is hope
  data Checked : Option (State G) → Type 0 where
    nowhere : Checked None
    behind_space : (p : G.Place) → Checked (check G (edge spaced) p)
    into_token : (q : Part) (p : G.Place) → Checked (check G (within q) p)

  enter_by_checked : (m : Option Part) (p : G.Place) → Checked (enter_by G m p)
  enter_by_checked None p = nowhere
  enter_by_checked (Some q) p = into_token q p

  enter_checked : (e : Edge) (p : G.Place) (c : ℕ) → Checked (enter G e p c)
  enter_checked e p c = go (space c) (may_part e)
    where
      go : (a b : Bool) → Checked (cond a (cond b (check G (edge spaced) p) None) (enter_by G (start e c) p))
      go true true = behind_space p
      go true false = nowhere
      go false b = enter_by_checked (start e c) p

  fresh_checked : (m : Option G.Place) (c : ℕ) → Checked (fresh G m c)
  fresh_checked None c = nowhere
  fresh_checked (Some p) c = enter_checked joined p c

  step_by_checked : (m : Option Part) (q : Part) (p : G.Place) (c : ℕ) → Checked (step_by G m q p c)
  step_by_checked None q p c = fresh_checked (feed_maybe G p (ended q)) c
  step_by_checked (Some q') q p c = into_token q' p

  step_checked : (q : Lex) (p : G.Place) (c : ℕ) → Checked (step G q p c)
  step_checked (edge e) p c = enter_checked e p c
  step_checked (within q) p c = step_by_checked (advance q c) q p c

  abbrev hopeful : Option (State G) → Bool
  hopeful None = true
  hopeful (Some (at q p)) = hope G q p && may_part_at q

  check_hopeful : (q : Lex) (p : G.Place) → may_part_at q ≡ true → hopeful (check G q p) ≡ true
  check_hopeful q p h = go (hope G q p) refl
    where
      go : (b : Bool) → hope G q p ≡ b → hopeful (cond b (Some (at q p)) None) ≡ true
      go true e = and_true_both (hope G q p) (may_part_at q) e h
      go false e = refl

  checked_hopeful : {m : Option (State G)} → Checked m → hopeful m ≡ true
  checked_hopeful nowhere = refl
  checked_hopeful (behind_space p) = check_hopeful (edge spaced) p refl
  checked_hopeful (into_token q p) = check_hopeful (within q) p refl

  -- a step leads to a state with hope, and never back to the beginning
  pub step_hopes : (q : Lex) (p : G.Place) (c : ℕ) {q₁ : Lex} {p₁ : G.Place} → step G q p c ≡ Some (at q₁ p₁)
      → hope G q₁ p₁ ≡ true
  step_hopes q p c {q₁} {p₁} h =
      and_true_left (hope G q₁ p₁) (may_part_at q₁) (sym (ap hopeful h) ∙ checked_hopeful (step_checked q p c))

  pub step_may_part : (q : Lex) (p : G.Place) (c : ℕ) {q₁ : Lex} {p₁ : G.Place} → step G q p c ≡ Some (at q₁ p₁)
      → may_part_at q₁ ≡ true
  step_may_part q p c {q₁} {p₁} h =
      and_true_right (hope G q₁ p₁) (may_part_at q₁) (sym (ap hopeful h) ∙ checked_hopeful (step_checked q p c))

  -- the bytes u lead from one state to another
  pub data Leads : List ℕ → Lex → G.Place → Lex → G.Place → Type 0 where
    here : {q : Lex} {p : G.Place} → Leads [] q p q p
    on : {c : ℕ} {u : List ℕ} {q q₁ q₂ : Lex} {p p₁ p₂ : G.Place} → step G q p c ≡ Some (at q₁ p₁)
        → Leads u q₁ p₁ q₂ p₂ → Leads (c ∷ u) q p q₂ p₂

  pub leads_keep_hope : {u : List ℕ} {q q₁ : Lex} {p p₁ : G.Place} → Leads u q p q₁ p₁ → hope G q p ≡ true
      → hope G q₁ p₁ ≡ true
  leads_keep_hope here h = h
  leads_keep_hope (on {c = c} {q = q} {p = p} e l) h = leads_keep_hope l (step_hopes q p c e)

  pub leads_may_part : {u : List ℕ} {q q₁ : Lex} {p p₁ : G.Place} → Leads u q p q₁ p₁ → (u ≡ [] → ⊥)
      → may_part_at q₁ ≡ true
  leads_may_part l h = go l (λ e. absurd (h e))
    where
      go : {u : List ℕ} {q q₁ : Lex} {p p₁ : G.Place} → Leads u q p q₁ p₁ → (u ≡ [] → may_part_at q ≡ true)
          → may_part_at q₁ ≡ true
      go here k = k refl
      go (on {c = c} {q = q} {p = p} e l) k = go l (λ i. step_may_part q p c e)

  pub verdict_steps : (q : Lex) (p : G.Place) (c : ℕ) (w : List ℕ) {q₁ : Lex} {p₁ : G.Place}
      → step G q p c ≡ Some (at q₁ p₁) → verdict G (c ∷ w) q p ≡ verdict G w q₁ p₁
  verdict_steps q p c w e = ap (λ m. or_bad G m (bad (allowed_at G q p) (c ∷ w)) (verdict G w)) e

  pub verdict_stops : (q : Lex) (p : G.Place) (c : ℕ) (w : List ℕ) → step G q p c ≡ None
      → verdict G (c ∷ w) q p ≡ bad (allowed_at G q p) (c ∷ w)
  verdict_stops q p c w e = ap (λ m. or_bad G m (bad (allowed_at G q p) (c ∷ w)) (verdict G w)) e

  -- behind u the machine goes on from the state that u leads to
  pub verdict_leads : {u : List ℕ} {q q₁ : Lex} {p p₁ : G.Place} → Leads u q p q₁ p₁ → (w : List ℕ)
      → verdict G (u ++ w) q p ≡ verdict G w q₁ p₁
  verdict_leads here w = refl
  verdict_leads (on {c = c} {u = u} {q = q} {p = p} e l) w = verdict_steps q p c (u ++ w) e ∙ verdict_leads l w

  -- the text ends: a verdict that reads nothing leaves no byte, and has the number of brackets that the state allows
  pub data EndsBad : ℕ → Verdict G → Type 0 where
    ends_good : {n : ℕ} {r : G.Result} → EndsBad n (good r)
    ends_bad : {n : ℕ} → EndsBad n (bad n [])

  ends_empty : {k : ℕ} {v : Verdict G} → EndsBad k v → (n : ℕ) (x : List ℕ) → v ≡ bad n x → (n ≡ k) × (x ≡ [])
  ends_empty ends_good n x h = bad_is_not_good (sym h)
  ends_empty ends_bad n x h = (cc, cc)

  finished_by_ends : (n : ℕ) (m : Option G.Result) → EndsBad n (finished_by G n m)
  finished_by_ends n None = ends_bad
  finished_by_ends n (Some r) = ends_good

  finished_ends : (p : G.Place) (m : Option G.Place) → EndsBad (allowed_by G m p) (finished G (G.allowed p) m)
  finished_ends p None = ends_bad
  finished_ends p (Some p₁) = finished_by_ends (G.allowed p₁) (G.result p₁)

  finish_ends : (q : Lex) (p : G.Place) → EndsBad (allowed_at G q p) (finish G q p)
  finish_ends (edge e) p = ends_bad
  finish_ends (within q) p = finished_ends p (feed_maybe G p (ended q))

  -- what follows where the machine is stuck: nothing, or a byte that cannot stand there whatever follows it
  pub data Follows (u : List ℕ) (q : Lex) (p : G.Place) (q₁ : Lex) (p₁ : G.Place) (n : ℕ) : List ℕ → Type 0 where
    the_end : finish G q₁ p₁ ≡ bad n [] → Follows u q p q₁ p₁ n []
    a_byte : {c : ℕ} {y : List ℕ} → step G q₁ p₁ c ≡ None
        → ((w : List ℕ) → verdict G (u ++ c ∷ w) q p ≡ bad n (c ∷ w)) → Follows u q p q₁ p₁ n (c ∷ y)

  -- From the state (q, p) the machine takes `before`, which leads to the state (lex, place) and can be completed,
  -- and leaves x.
  pub record Stuck (s : List ℕ) (q : Lex) (p : G.Place) (n : ℕ) (x : List ℕ) : Type 0 where
    pub before : List ℕ
    pub split : s ≡ before ++ x
    pub lex : Lex
    pub place : G.Place
    pub leads : Leads before q p lex place
    pub hopes : hope G lex place ≡ true
    pub allows : n ≡ allowed_at G lex place
    pub further : List ℕ
    pub read : G.Result
    pub whole : verdict G (before ++ further) q p ≡ good read
    pub follows : Follows before q p lex place n x

  module _ (law : Lawful G) where
    open law use {completes}

    at_end : (q : Lex) (p : G.Place) (n : ℕ) (x : List ℕ) → hope G q p ≡ true → finish G q p ≡ bad n x
        → Stuck [] q p n x
    at_end q p n x h g = go x (ends_empty (finish_ends q p) n x g).1 g
      where
        go : (y : List ℕ) → y ≡ [] → finish G q p ≡ bad n y → Stuck [] q p n y
        go [] e k =
            let z = completes q p h in
            record {
              before = [];
              split = refl;
              lex = q;
              place = p;
              leads = here;
              hopes = h;
              allows = (ends_empty (finish_ends q p) n [] k).0;
              further = z.further;
              read = z.read;
              whole = z.taken;
              follows = the_end k;
            }
        go (c ∷ y) e k = let z : ◌≡◌ {A = ℕ} 0 1 = cc in absurd (omega arith)

    at_byte : (q : Lex) (p : G.Place) (c : ℕ) (s : List ℕ) → hope G q p ≡ true → step G q p c ≡ None
        → Stuck (c ∷ s) q p (allowed_at G q p) (c ∷ s)
    at_byte q p c s h e =
        let z = completes q p h in
        record {
          before = [];
          split = refl;
          lex = q;
          place = p;
          leads = here;
          hopes = h;
          allows = refl;
          further = z.further;
          read = z.read;
          whole = z.taken;
          follows = a_byte e (λ w. verdict_stops q p c w e);
        }

    one_byte_on : {s : List ℕ} {q q₁ : Lex} {p p₁ : G.Place} {n : ℕ} {x : List ℕ} (c : ℕ)
        → step G q p c ≡ Some (at q₁ p₁) → Stuck s q₁ p₁ n x → Stuck (c ∷ s) q p n x
    one_byte_on {q = q} {q₁ = q₁} {p = p} {p₁ = p₁} {n = n} c e z =
        record {
          before = c ∷ z.before;
          split = ap (λ l. c ∷ l) z.split;
          lex = z.lex;
          place = z.place;
          leads = on e z.leads;
          hopes = z.hopes;
          allows = z.allows;
          further = z.further;
          read = z.read;
          whole = verdict_steps q p c (z.before ++ z.further) e ∙ z.whole;
          follows = later z.follows;
        }
      where
        later : {u : List ℕ} {q₂ : Lex} {p₂ : G.Place} {x : List ℕ} → Follows u q₁ p₁ q₂ p₂ n x
            → Follows (c ∷ u) q p q₂ p₂ n x
        later (the_end k) = the_end k
        later {u} (a_byte {c = d} k f) = a_byte k (λ w. verdict_steps q p c (u ++ d ∷ w) e ∙ f w)

    -- where the machine is stuck
    pub stuck : (s : List ℕ) (q : Lex) (p : G.Place) (n : ℕ) (x : List ℕ) → hope G q p ≡ true
        → verdict G s q p ≡ bad n x → Stuck s q p n x
    stuck [] q p n x h g = at_end q p n x h g
    stuck (c ∷ s) q p n x h g = go (step G q p c) refl g (λ q₁ p₁ h₁ g₁. stuck s q₁ p₁ n x h₁ g₁)
      where
        go : (m : Option (State G)) → step G q p c ≡ m
            → or_bad G m (bad (allowed_at G q p) (c ∷ s)) (verdict G s) ≡ bad n x
            → ((q₁ : Lex) (p₁ : G.Place) → hope G q₁ p₁ ≡ true → verdict G s q₁ p₁ ≡ bad n x → Stuck s q₁ p₁ n x)
            → Stuck (c ∷ s) q p n x
        go None e k ih =
            let y : c ∷ s ≡ x = cc in
            let l : allowed_at G q p ≡ n = cc in
            subst (λ m. Stuck (c ∷ s) q p m x) l
            (subst (λ y. Stuck (c ∷ s) q p (allowed_at G q p) y) y (at_byte q p c s h e))
        go (Some (at q₁ p₁)) e k ih = one_byte_on c e (ih q₁ p₁ (step_hopes q p c e) k)
