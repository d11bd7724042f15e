-- Whole tokens at once: from inside a token the machine goes on as behind the token that `scan_from` finds there,
-- for any lawful reader of tokens. The only cases by the shape of a token are in "what is taken was hoped for".
use Rattle.std.proofs.Common.{◌≡◌, ℕ, Bool, true, false, cond, ◌&&◌, ◌||◌, eqb, List, [], ◌∷◌, ◌++◌, is_some, Some}
use Rattle.std.proofs.Common.{None, Option, sym, refl, ◌∙◌, arith}
use Rattle.tokens.specs.Bytes.{word, digit, symbol, quote, same, begins}
use Rattle.tokens.specs.Token.{Token, name, variable, integer, neck, Part, small_run, capital_run, digits, symbols}
use Rattle.tokens.specs.Token.{inside, closed, single}
use Rattle.tokens.specs.Token.{joined, neck_bytes, minus_bytes, advance, ended, Scan, nothing, endless}
use Rattle.tokens.specs.Token.{got, scanned, or_else, scan_from}
use Rattle.grammar.specs.Machine.{Parser, Lex, within, StateOf, at, VerdictOf, good, bad, Verdict, takes}
use Rattle.grammar.specs.Machine.{hope_within, check, enter, enter_by}
use Rattle.grammar.specs.Machine.{feed_maybe, fresh, step_by, allowed_at, finished_by, finished, or_bad, verdict}
use Rattle.grammar.specs.Machine.{onward}
use Rattle.grammar.specs.Laws.{Lawful}

pub false_is_not_true : {A : Type 0} → false ≡ true → A
false_is_not_true h = let z : ◌≡◌ {A = ℕ} 0 1 = cc in absurd (omega arith)

pub bad_is_not_good : {R A : Type 0} {n : ℕ} {x : List ℕ} {r : R} → bad n x ≡ good r → A
bad_is_not_good h = let z : ◌≡◌ {A = ℕ} 0 1 = cc in absurd (omega arith)

-- two verdicts that read the same, or both nothing
pub data Alike {R : Type 0} : VerdictOf R → VerdictOf R → Type 0 where
  both_good : {r : R} → Alike (good r) (good r)
  both_bad : {n k : ℕ} {x y : List ℕ} → Alike (bad n x) (bad k y)

pub alike_from : {R : Type 0} {v w : VerdictOf R} {r : R} → Alike v w → v ≡ good r → w ≡ good r
alike_from both_good h = h
alike_from both_bad h = bad_is_not_good h

pub alike_to : {R : Type 0} {v w : VerdictOf R} {r : R} → Alike v w → w ≡ good r → v ≡ good r
alike_to both_good h = h
alike_to both_bad h = bad_is_not_good h

pub alike_refl : {R : Type 0} (v : VerdictOf R) → Alike v v
alike_refl (good r) = both_good
alike_refl (bad n x) = both_bad

pub never_good_alike : {R : Type 0} {n : ℕ} {x : List ℕ} (v : VerdictOf R) → ((r : R) → v ≡ good r → ⊥)
    → Alike (bad n x) v
never_good_alike (good r) h = absurd (h r refl)
never_good_alike (bad n x) h = both_bad

-- bytes that begin the neck, and the fronts of such bytes

pub and_true_left : (a b : Bool) → (a && b) ≡ true → a ≡ true
and_true_left true b h = refl
and_true_left false b h = h

pub and_true_right : (a b : Bool) → (a && b) ≡ true → b ≡ true
and_true_right true b h = h
and_true_right false b h = false_is_not_true h

pub and_true_both : (a b : Bool) → a ≡ true → b ≡ true → (a && b) ≡ true
and_true_both true b h k = k
and_true_both false b h k = false_is_not_true h

or_true_left : (a b : Bool) → a ≡ true → (a || b) ≡ true
or_true_left true b h = refl
or_true_left false b h = false_is_not_true h

or_true_right : (a b : Bool) → b ≡ true → (a || b) ≡ true
or_true_right true b h = refl
or_true_right false b h = h

or_true_onto : (a b c : Bool) → (b ≡ true → c ≡ true) → (a || b) ≡ true → (a || c) ≡ true
or_true_onto true b c f h = refl
or_true_onto false b c f h = f h

same_begins : (xs ys : List ℕ) → same xs ys ≡ true → begins xs ys ≡ true
same_begins [] [] h = refl
same_begins [] (y ∷ ys) h = refl
same_begins (x ∷ xs) [] h = h
same_begins (x ∷ xs) (y ∷ ys) h =
    and_true_both (eqb x y) (begins xs ys) (and_true_left (eqb x y) (same xs ys) h)
    (same_begins xs ys (and_true_right (eqb x y) (same xs ys) h))

front_begins : (xs zs ys : List ℕ) → begins (xs ++ zs) ys ≡ true → begins xs ys ≡ true
front_begins [] zs ys h = refl
front_begins (x ∷ xs) zs [] h = h
front_begins (x ∷ xs) zs (y ∷ ys) h =
    and_true_both (eqb x y) (begins xs ys) (and_true_left (eqb x y) (begins (xs ++ zs) ys) h)
    (front_begins xs zs ys (and_true_right (eqb x y) (begins (xs ++ zs) ys) h))

module _ (G : Parser) where
  -- behind the token that was found
  abbrev pub through : G.Place → Scan → Verdict G
  through p nothing = bad 0 []
  through p endless = bad 0 []
  through p (got t r) = onward G (G.allowed p) (G.feed p t) r

  abbrev hope_maybe : Option Part → G.Place → Bool
  hope_maybe None p = false
  hope_maybe (Some q) p = hope_within G q p

  -- what a refused byte leaves does not matter to what is read
  or_alike : (m : Option (StateOf G.Place)) (n k : ℕ) (x : List ℕ) (f : Lex → G.Place → Verdict G)
      → Alike (or_bad G m (bad n x) f) (or_bad G m (bad k x) f)
  or_alike None n k x f = both_bad
  or_alike (Some (at q p)) n k x f = alike_refl (f q p)

  -- the text ends, and with it the token
  end_alike : (n : ℕ) (p : G.Place) (m : Option Token)
      → Alike (finished G n (feed_maybe G p m)) (through p (scanned m []))
  end_alike n p None = both_bad
  end_alike n p (Some t) = elim (G.feed p t) as (λ m. Alike (finished G n m) (onward G (G.allowed p) m [])) [
    | None ↦ both_bad
    | Some p₁ ↦ alike_refl (finished_by G (G.allowed p₁) (G.result p₁))
  ]

  -- the token ends before a byte
  stop_alike : (n : ℕ) (p : G.Place) (m : Option Token) (c : ℕ) (s : List ℕ)
      → Alike (or_bad G (fresh G (feed_maybe G p m) c) (bad n (c ∷ s)) (verdict G s)) (through p (scanned m (c ∷ s)))
  stop_alike n p None c s = both_bad
  stop_alike n p (Some t) c s =
      go (G.feed p t)
    where
      go : (m : Option G.Place)
          → Alike (or_bad G (fresh G m c) (bad n (c ∷ s)) (verdict G s)) (onward G (G.allowed p) m (c ∷ s))
      go None = both_bad
      go (Some p₁) = or_alike (enter G joined p₁ c) n (G.allowed p₁) (c ∷ s) (verdict G s)

  through_taken : (p : G.Place) (m : Option Token) (x : List ℕ) (r : G.Result) → through p (scanned m x) ≡ good r
      → is_some (feed_maybe G p m) ≡ true
  through_taken p None x r h = bad_is_not_good h
  through_taken p (Some t) x r h =
      (elim (G.feed p t) as (λ m. onward G (G.allowed p) m x ≡ good r → is_some m ≡ true) [
        | None ↦ λ g. bad_is_not_good g
        | Some p₁ ↦ λ g. refl
      ]) h

  -- a run of symbols may become the neck, and it is taken
  abbrev neck_hoped : List ℕ → G.Place → Bool
  neck_hoped bs p = takes G p neck && begins bs neck_bytes

  neck_was_hoped : (bs zs : List ℕ) (p : G.Place) → neck_hoped (bs ++ zs) p ≡ true → neck_hoped bs p ≡ true
  neck_was_hoped bs zs p h =
      and_true_both (takes G p neck) (begins bs neck_bytes)
      (and_true_left (takes G p neck) (begins (bs ++ zs) neck_bytes) h)
      (front_begins bs zs neck_bytes (and_true_right (takes G p neck) (begins (bs ++ zs) neck_bytes) h))

  module _ (law : Lawful G) where
    open law use {any_name, any_variable, any_integer, integer_as_name}

    -- a token that is taken where it ends was hoped for
    ended_hoped : (q : Part) (p : G.Place) → is_some (feed_maybe G p (ended q)) ≡ true → hope_within G q p ≡ true
    ended_hoped (small_run bs) p h = sym (any_name p bs) ∙ h
    ended_hoped (capital_run bs) p h = sym (any_variable p bs) ∙ h
    ended_hoped (digits bs) p h = sym (any_integer p bs) ∙ h
    ended_hoped (symbols bs) p h = go (same bs neck_bytes) refl h
      where
        go : (b : Bool) → same bs neck_bytes ≡ b → takes G p (cond b neck (name bs)) ≡ true
            → hope_within G (symbols bs) p ≡ true
        go true e k =
            or_true_right (takes G p (name [])) (neck_hoped bs p)
            (and_true_both (takes G p neck) (begins bs neck_bytes) k (same_begins bs neck_bytes e))
        go false e k = or_true_left (takes G p (name [])) (neck_hoped bs p) (sym (any_name p bs) ∙ k)
    ended_hoped (inside bs) p h = false_is_not_true h
    ended_hoped (closed bs) p h = sym (any_name p bs) ∙ h
    ended_hoped (single t) p h = h

    if_advanced : (b : Bool) (q : Part) (p : G.Place) (a : Bool) → (hope_within G q p ≡ true → a ≡ true)
        → hope_maybe (cond b (Some q) None) p ≡ true → a ≡ true
    if_advanced true q p a f h = f h
    if_advanced false q p a f h = false_is_not_true h

    -- what is hoped for behind one more byte was hoped for before it
    advance_hoped : (q : Part) (c : ℕ) (p : G.Place) → hope_maybe (advance q c) p ≡ true → hope_within G q p ≡ true
    advance_hoped (small_run bs) c p h =
        if_advanced (word c) (small_run (bs ++ c ∷ [])) p (takes G p (name [])) (λ k. k) h
    advance_hoped (capital_run bs) c p h =
        if_advanced (word c) (capital_run (bs ++ c ∷ [])) p (takes G p (variable [])) (λ k. k) h
    advance_hoped (digits bs) c p h =
        if_advanced (digit c) (digits (bs ++ c ∷ [])) p (takes G p (integer [])) (λ k. k) h
    advance_hoped (symbols bs) c p h = go (symbol c) (same bs minus_bytes && digit c) h
      where
        go : (a b : Bool)
            → hope_maybe (cond a (Some (symbols (bs ++ c ∷ []))) (cond b (Some (digits (bs ++ c ∷ []))) None)) p ≡ true
            → hope_within G (symbols bs) p ≡ true
        go true b k =
            or_true_onto (takes G p (name [])) (neck_hoped (bs ++ c ∷ []) p) (neck_hoped bs p)
            (neck_was_hoped bs (c ∷ []) p) k
        go false true k = or_true_left (takes G p (name [])) (neck_hoped bs p) (integer_as_name p k)
        go false false k = false_is_not_true k
    advance_hoped (inside bs) c p h = go (quote c) h
      where
        go : (b : Bool)
            → hope_maybe (cond b (Some (closed bs)) (Some (inside (bs ++ c ∷ [])))) p ≡ true → takes G p (name []) ≡ true
        go true k = k
        go false k = k
    advance_hoped (closed bs) c p h = if_advanced (quote c) (inside (bs ++ c ∷ [])) p (takes G p (name [])) (λ k. k) h
    advance_hoped (single t) c p h = false_is_not_true h

    -- a token that is taken was hoped for
    pub taken_was_hoped : (s : List ℕ) (q : Part) (p : G.Place) (r : G.Result) → through p (scan_from q s) ≡ good r
        → hope_within G q p ≡ true
    taken_was_hoped [] q p r h = ended_hoped q p (through_taken p (ended q) [] r h)
    taken_was_hoped (c ∷ s) q p r h = go (advance q c) h (advance_hoped q c p) (λ q'. taken_was_hoped s q' p r)
      where
        go : (m : Option Part)
            → through p (or_else m (scanned (ended q) (c ∷ s)) (λ q'. scan_from q' s)) ≡ good r
            → (hope_maybe m p ≡ true → hope_within G q p ≡ true)
            → ((q' : Part) → through p (scan_from q' s) ≡ good r → hope_within G q' p ≡ true) → hope_within G q p ≡ true
        go None g k ih = ended_hoped q p (through_taken p (ended q) (c ∷ s) r g)
        go (Some q') g k ih = k (ih q' g)

    -- a state inside a token is kept if there is hope, and without it no token is taken
    checked_alike : (q : Part) (p : G.Place) (n : ℕ) (x s : List ℕ)
        → Alike (verdict G s (within q) p) (through p (scan_from q s))
        → Alike (or_bad G (check G (within q) p) (bad n x) (verdict G s)) (through p (scan_from q s))
    checked_alike q p n x s ih = go (hope_within G q p) refl
      where
        go : (b : Bool) → hope_within G q p ≡ b
            → Alike (or_bad G (cond b (Some (at (within q) p)) None) (bad n x) (verdict G s)) (through p (scan_from q s))
        go true e = ih
        go false e =
            never_good_alike (through p (scan_from q s)) (λ r h. false_is_not_true (sym e ∙ taken_was_hoped s q p r h))

    -- the machine inside a token reads what is read behind that token
    pub within_alike : (s : List ℕ) (q : Part) (p : G.Place)
        → Alike (verdict G s (within q) p) (through p (scan_from q s))
    within_alike [] q p = end_alike (G.allowed p) p (ended q)
    within_alike (c ∷ s) q p = go (allowed_at G (within q) p) (advance q c) (λ q'. within_alike s q' p)
      where
        go : (n : ℕ) (m : Option Part) → ((q' : Part) → Alike (verdict G s (within q') p) (through p (scan_from q' s)))
            → Alike (or_bad G (step_by G m q p c) (bad n (c ∷ s)) (verdict G s))
            (through p (or_else m (scanned (ended q) (c ∷ s)) (λ q'. scan_from q' s)))
        go n None ih = stop_alike n p (ended q) c s
        go n (Some q') ih = checked_alike q' p n (c ∷ s) s (ih q')

    -- and so from the first byte of a token
    pub entered_alike : (m : Option Part) (p : G.Place) (n : ℕ) (x s : List ℕ)
        → Alike (or_bad G (enter_by G m p) (bad n x) (verdict G s)) (through p (or_else m nothing (λ q. scan_from q s)))
    entered_alike None p n x s = both_bad
    entered_alike (Some q) p n x s = checked_alike q p n x s (within_alike s q p)

    pub within_from : (s : List ℕ) (q : Part) (p : G.Place) (r : G.Result) → verdict G s (within q) p ≡ good r
        → through p (scan_from q s) ≡ good r
    within_from s q p r h = alike_from (within_alike s q p) h

    pub within_to : (s : List ℕ) (q : Part) (p : G.Place) (r : G.Result) → through p (scan_from q s) ≡ good r
        → verdict G s (within q) p ≡ good r
    within_to s q p r h = alike_to (within_alike s q p) h
