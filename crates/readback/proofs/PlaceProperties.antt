-- Places of variables in a list: they stay as the list grows, and a new variable gets the place behind the last.
use Rattle.std.proofs.Common.{◌≡◌, ℕ, suc, ◌<◌, ◌≤◌, Bool, true, false, cond, eqb, ltb, List, [], ◌∷◌, ◌++◌, length}
use Rattle.std.proofs.Common.{get_or, refl, ap, ◌∙◌, arith, length-append}
use Rattle.std.proofs.lemmas.Bool.{ltb-true, ltb-false, eq-eqb, eqb-true}
use Rattle.terms.specs.Term.{Term, Terms, var, int, app, nil, cons}
use Rattle.writer.specs.Shown.{place_in, with_variable, firsts, firsts_all}

pub place_within : (s : List ℕ) (v : ℕ) → place_in s v ≤ length s
place_within [] v = omega arith
place_within (x ∷ xs) v = go (place_within xs v) (eqb x v)
  where
    go : place_in xs v ≤ length xs → (b : Bool) → cond b 0 (suc (place_in xs v)) ≤ suc (length xs)
    go h true = omega arith
    go h false = omega arith

place_in_longer : (s w : List ℕ) (v : ℕ) → place_in s v < length s → place_in (s ++ w) v ≡ place_in s v
place_in_longer [] w v h = absurd (omega arith)
place_in_longer (x ∷ xs) w v h = go (place_in_longer xs w v) (eqb x v) h
  where
    go : (place_in xs v < length xs → place_in (xs ++ w) v ≡ place_in xs v)
        → (b : Bool) → cond b 0 (suc (place_in xs v)) < suc (length xs)
        → cond b 0 (suc (place_in (xs ++ w) v)) ≡ cond b 0 (suc (place_in xs v))
    go ih true l = refl
    go ih false l = ap suc (ih (omega arith))

place_when_new : (s : List ℕ) (v : ℕ) → length s ≤ place_in s v → place_in (s ++ v ∷ []) v ≡ place_in s v
place_when_new [] v h = ap (λ b. cond b 0 1) (eq-eqb v v refl)
place_when_new (x ∷ xs) v h = go (place_when_new xs v) (eqb x v) h
  where
    go : (length xs ≤ place_in xs v → place_in (xs ++ v ∷ []) v ≡ place_in xs v)
        → (b : Bool) → suc (length xs) ≤ cond b 0 (suc (place_in xs v))
        → cond b 0 (suc (place_in (xs ++ v ∷ []) v)) ≡ cond b 0 (suc (place_in xs v))
    go ih true l = absurd (omega arith)
    go ih false l = ap suc (ih (omega arith))

pub variable_at_place : (s : List ℕ) (v : ℕ) → place_in s v < length s → get_or s (place_in s v) 0 ≡ v
variable_at_place [] v h = absurd (omega arith)
variable_at_place (x ∷ xs) v h = go (variable_at_place xs v) (eqb x v) refl h
  where
    go : (place_in xs v < length xs → get_or xs (place_in xs v) 0 ≡ v)
        → (b : Bool) → eqb x v ≡ b → cond b 0 (suc (place_in xs v)) < suc (length xs)
        → get_or (x ∷ xs) (cond b 0 (suc (place_in xs v))) 0 ≡ v
    go ih true e l = eqb-true x v e
    go ih false e l = ih (omega arith)

-- with one more variable
pub length_with : (s : List ℕ) (v : ℕ)
    → length (with_variable s v) ≡ cond (ltb (place_in s v) (length s)) (length s) (suc (length s))
length_with s v = go (ltb (place_in s v) (length s))
  where
    go : (b : Bool) → length (cond b s (s ++ v ∷ [])) ≡ cond b (length s) (suc (length s))
    go true = refl
    go false = omega (arith, length-append s (v ∷ []))

pub place_with : (s : List ℕ) (v : ℕ) → place_in (with_variable s v) v ≡ place_in s v
place_with s v = go (ltb (place_in s v) (length s)) refl
  where
    go : (b : Bool) → ltb (place_in s v) (length s) ≡ b → place_in (cond b s (s ++ v ∷ [])) v ≡ place_in s v
    go true e = refl
    go false e = place_when_new s v (ltb-false (place_in s v) (length s) e)

pub place_inside_with : (s : List ℕ) (v : ℕ) → place_in s v < length (with_variable s v)
place_inside_with s v = go (ltb (place_in s v) (length s)) refl
  where
    go : (b : Bool) → ltb (place_in s v) (length s) ≡ b → place_in s v < length (cond b s (s ++ v ∷ []))
    go true e = ltb-true (place_in s v) (length s) e
    go false e = omega (arith, length-append s (v ∷ []), place_within s v)

-- u is at least as long as s, and has the variables of s at their places
pub record Keeps (s u : List ℕ) : Type 0 where
  pub longer : length s ≤ length u
  pub places : (v : ℕ) → place_in s v < length s → place_in u v ≡ place_in s v

pub keeps_itself : (s : List ℕ) → Keeps s s
keeps_itself s = record { longer = omega arith; places = λ v h. refl }

pub keeps_through : (s t u : List ℕ) → Keeps s t → Keeps t u → Keeps s u
keeps_through s t u k l = record {
  longer = omega (arith, k.longer, l.longer);
  places = λ v h.
      let e = k.places v h in
      l.places v (omega (arith, k.longer)) ∙ e;
}

keeps_with : (s : List ℕ) (v : ℕ) → Keeps s (with_variable s v)
keeps_with s v = go (ltb (place_in s v) (length s))
  where
    go : (b : Bool) → Keeps s (cond b s (s ++ v ∷ []))
    go true = keeps_itself s
    go false = record {
      longer = omega (arith, length-append s (v ∷ []));
      places = λ w h. place_in_longer s (v ∷ []) w h;
    }

mutual
  pub firsts_keeps : (t : Term) (s : List ℕ) → Keeps s (firsts s t)
  firsts_keeps (var v) s = keeps_with s v
  firsts_keeps (int i) s = keeps_itself s
  firsts_keeps (app f ts) s = all_firsts_keeps ts s

  pub all_firsts_keeps : (ts : Terms) (s : List ℕ) → Keeps s (firsts_all s ts)
  all_firsts_keeps nil s = keeps_itself s
  all_firsts_keeps (cons t ts) s =
      keeps_through s (firsts s t) (firsts_all (firsts s t) ts) (firsts_keeps t s) (all_firsts_keeps ts (firsts s t))

-- a list that keeps the variables behind a term and its others keeps those behind the term
pub keeps_first : (t : Term) (ts : Terms) (s u : List ℕ) → Keeps (firsts_all (firsts s t) ts) u → Keeps (firsts s t) u
keeps_first t ts s u k =
    keeps_through (firsts s t) (firsts_all (firsts s t) ts) u (all_firsts_keeps ts (firsts s t)) k

-- a variable behind itself
pub kept_place : (s u : List ℕ) (v : ℕ) → Keeps (with_variable s v) u → place_in u v ≡ place_in s v
kept_place s u v k =
    let e = place_with s v in
    k.places v (omega (arith, place_inside_with s v)) ∙ e
