-- Lists of names: what one name more and a shorter list keep, and that each name of a list with no name twice
-- is found at its own place.
use Rattle.std.proofs.Common.{◌≡◌, ℕ, zero, suc, ◌+◌, ◌<◌, ◌≤◌, true, false, cond, not, ltb, leb, List, [], ◌∷◌, ◌++◌}
use Rattle.std.proofs.Common.{length, get_or, take, Some, None, Option, sym, refl, ap, ◌∙◌, inl, inr, arith}
use Rattle.std.specs.Str.{bytes_eq}
use Rattle.std.proofs.lemmas.Slice.Eq.{bytes_eq-Decides}
use Rattle.std.specs.Option.{MatchOption}
use Rattle.std.proofs.lemmas.Bool.{and_parts, and_from, leb-true, le-leb, not-true, not_from_false, both_ways}
use Rattle.std.proofs.lemmas.Bool.{cases_Bool, or_parts, or_from, cond-true, cond-false, lt-ltb, le-ltb, cases_lt}
use Rattle.terms.specs.Known.{known}
use Rattle.names.specs.Listed.{total, short, held, distinct, begins, place_from, place_of, name_at, Tells, Lawful}

-- short names

pub short_push : (xs : List (List ℕ)) (y : List ℕ) → short xs ≡ true → length y ≤ 64 → short (xs ++ y ∷ []) ≡ true
short_push [] y h l = and_from (leb (length y) 64) true (le-leb (length y) 64 l) refl
short_push (x ∷ xs) y h l =
    let p = and_parts (leb (length x) 64) (short xs) h in
    and_from (leb (length x) 64) (short (xs ++ y ∷ [])) p.0 (short_push xs y p.1 l)

pub short_take : (k : ℕ) (xs : List (List ℕ)) → short xs ≡ true → short (take k xs) ≡ true
short_take zero xs h = refl
short_take (suc k) [] h = refl
short_take (suc k) (x ∷ xs) h =
    let p = and_parts (leb (length x) 64) (short xs) h in
    and_from (leb (length x) 64) (short (take k xs)) p.0 (short_take k xs p.1)

pub short_at : (xs : List (List ℕ)) (i : ℕ) → short xs ≡ true → length (get_or xs i []) ≤ 64
short_at [] i h = omega arith
short_at (x ∷ xs) zero h = leb-true (length x) 64 (and_parts (leb (length x) 64) (short xs) h).0
short_at (x ∷ xs) (suc i) h = short_at xs i (and_parts (leb (length x) 64) (short xs) h).1

-- equal names

same_self : (x : List ℕ) → bytes_eq x x ≡ true
same_self x = (bytes_eq-Decides x x).1 refl

apart_turned : (x y : List ℕ) → bytes_eq x y ≡ false → bytes_eq y x ≡ false
apart_turned x y h = elim (cases_Bool (bytes_eq y x)) [
  | inl t ↦ absurd (both_ways (bytes_eq x y) h ((bytes_eq-Decides x y).1 (sym ((bytes_eq-Decides y x).0 t))))
  | inr f ↦ f
]

-- no name twice

held_push :
    (name : List ℕ) (xs : List (List ℕ)) (y : List ℕ) → held name xs ≡ false → bytes_eq y name ≡ false
    → held name (xs ++ y ∷ []) ≡ false
held_push name [] y h a = or_from (bytes_eq y name) false a refl
held_push name (x ∷ xs) y h a =
    let p = or_parts (bytes_eq x name) (held name xs) h in
    or_from (bytes_eq x name) (held name (xs ++ y ∷ [])) p.0 (held_push name xs y p.1 a)

held_take : (name : List ℕ) (k : ℕ) (xs : List (List ℕ)) → held name xs ≡ false → held name (take k xs) ≡ false
held_take name zero xs h = refl
held_take name (suc k) [] h = refl
held_take name (suc k) (x ∷ xs) h =
    let p = or_parts (bytes_eq x name) (held name xs) h in
    or_from (bytes_eq x name) (held name (take k xs)) p.0 (held_take name k xs p.1)

held_at :
    (name : List ℕ) (xs : List (List ℕ)) (i : ℕ) → i < length xs → held name xs ≡ false
    → bytes_eq (get_or xs i []) name ≡ false
held_at name [] i l h = absurd (omega arith)
held_at name (x ∷ xs) zero l h = (or_parts (bytes_eq x name) (held name xs) h).0
held_at name (x ∷ xs) (suc i) l h = held_at name xs i (omega arith) (or_parts (bytes_eq x name) (held name xs) h).1

pub distinct_push :
    (xs : List (List ℕ)) (y : List ℕ) → distinct xs ≡ true → held y xs ≡ false → distinct (xs ++ y ∷ []) ≡ true
distinct_push [] y h a = refl
distinct_push (x ∷ xs) y h a =
    let p = and_parts (not (held x xs)) (distinct xs) h in
    let q = or_parts (bytes_eq x y) (held y xs) a in
    let f : held x (xs ++ y ∷ []) ≡ false =
    held_push x xs y (not-true (held x xs) p.0) (apart_turned x y q.0) in
    and_from (not (held x (xs ++ y ∷ []))) (distinct (xs ++ y ∷ [])) (not_from_false (held x (xs ++ y ∷ [])) f)
    (distinct_push xs y p.1 q.1)

pub distinct_take : (k : ℕ) (xs : List (List ℕ)) → distinct xs ≡ true → distinct (take k xs) ≡ true
distinct_take zero xs h = refl
distinct_take (suc k) [] h = refl
distinct_take (suc k) (x ∷ xs) h =
    let p = and_parts (not (held x xs)) (distinct xs) h in
    let f : held x (take k xs) ≡ false = held_take x k xs (not-true (held x xs) p.0) in
    and_from (not (held x (take k xs))) (distinct (take k xs)) (not_from_false (held x (take k xs)) f)
    (distinct_take k xs p.1)

-- where a name stands

apart_from : (x name : List ℕ) → (x ≡ name → ⊥) → bytes_eq x name ≡ false
apart_from x name ne = elim (cases_Bool (bytes_eq x name)) [
  | inl t ↦ absurd (ne ((bytes_eq-Decides x name).0 t))
  | inr f ↦ f
]

place_from_other :
    (k : ℕ) (x name : List ℕ) (xs : List (List ℕ)) → bytes_eq x name ≡ false
    → place_from k (x ∷ xs) name ≡ place_from (k + 1) xs name
place_from_other k x name xs h = ap (λ b. cond b (Some k) (place_from (k + 1) xs name)) h

place_from_same :
    (k : ℕ) (x name : List ℕ) (xs : List (List ℕ)) → bytes_eq x name ≡ true → place_from k (x ∷ xs) name ≡ Some k
place_from_same k x name xs h = ap (λ b. cond b (Some k) (place_from (k + 1) xs name)) h

pub place_from_none : (k : ℕ) (xs : List (List ℕ)) (name : List ℕ) → place_from k xs name ≡ None → held name xs ≡ false
place_from_none k [] name h = refl
place_from_none k (x ∷ xs) name h = elim (cases_Bool (bytes_eq x name)) [
  | inl t ↦
      let s : place_from k (x ∷ xs) name ≡ Some k = place_from_same k x name xs t in
      let z : ◌≡◌ {A = ℕ} 0 1 = cc in
      absurd (omega arith)
  | inr f ↦
      or_from (bytes_eq x name) (held name xs) f
      (place_from_none (k + 1) xs name (sym (place_from_other k x name xs f) ∙ h))
]

-- what a search of the places from the first on finds

place_from_first :
    (j : ℕ) (xs : List (List ℕ)) (name : List ℕ) (i : ℕ) → i < length xs → get_or xs i [] ≡ name
    → ((k : ℕ) → k < i → get_or xs k [] ≡ name → ⊥) → place_from j xs name ≡ Some (j + i)
place_from_first j [] name i l e others = absurd (omega arith)
place_from_first j (x ∷ xs) name zero l e others =
    place_from_same j x name xs ((bytes_eq-Decides x name).1 e) ∙ ap Some (omega arith)
place_from_first j (x ∷ xs) name (suc i) l e others =
    place_from_other j x name xs (apart_from x name (others 0 (omega arith)))
    ∙ place_from_first (j + 1) xs name i (omega arith) e (λ k m. others (suc k) (omega arith))
    ∙ ap Some (omega arith)

place_from_nowhere :
    (j : ℕ) (xs : List (List ℕ)) (name : List ℕ) → ((k : ℕ) → k < length xs → get_or xs k [] ≡ name → ⊥)
    → place_from j xs name ≡ None
place_from_nowhere j [] name others = refl
place_from_nowhere j (x ∷ xs) name others =
    place_from_other j x name xs (apart_from x name (others 0 (omega arith)))
    ∙ place_from_nowhere (j + 1) xs name (λ k m. others (suc k) (omega arith))

-- what `find` over all the places says of them
abbrev Searched : List (List ℕ) → List ℕ → ℕ → Option ℕ → Type 0
Searched xs name n r =
    MatchOption r ((k : ℕ) → 0 ≤ k → k < n → get_or xs k [] ≡ name → ⊥)
    (λ i. (0 ≤ i) × (i < n) × (get_or xs i [] ≡ name) × ((k : ℕ) → 0 ≤ k → k < i → get_or xs k [] ≡ name → ⊥))

pub place_of_searched :
    (xs : List (List ℕ)) (name : List ℕ) (n : ℕ) (r : Option ℕ) → n ≡ length xs → Searched xs name n r
    → r ≡ place_of xs name
place_of_searched xs name n None e h =
    sym (place_from_nowhere 0 xs name (λ k l. h k (omega arith) (omega arith)))
place_of_searched xs name n (Some i) e h =
    sym (place_from_first 0 xs name i (omega arith) h.2 (λ k l. h.3 k (omega arith) l) ∙ ap Some (omega arith))

-- each name stands at its own place

pub distinct_place_from :
    (k : ℕ) (xs : List (List ℕ)) (i : ℕ) → i < length xs → distinct xs ≡ true
    → place_from k xs (get_or xs i []) ≡ Some (k + i)
distinct_place_from k [] i l h = absurd (omega arith)
distinct_place_from k (x ∷ xs) zero l h = place_from_same k x x xs (same_self x) ∙ ap Some (omega arith)
distinct_place_from k (x ∷ xs) (suc i) l h =
    let p = and_parts (not (held x xs)) (distinct xs) h in
    let a = apart_turned (get_or xs i []) x (held_at x xs i (omega arith) (not-true (held x xs) p.0)) in
    place_from_other k x (get_or xs i []) xs a ∙ distinct_place_from (k + 1) xs i (omega arith) p.1 ∙ ap Some
    (omega arith)

-- what a place tells

name_at_in : (xs : List (List ℕ)) (i : ℕ) → i < length xs → name_at xs i ≡ Some (get_or xs i [])
name_at_in xs i l = cond-true (ltb i (length xs)) (Some (get_or xs i [])) None (lt-ltb i (length xs) l)

name_at_out : (xs : List (List ℕ)) (i : ℕ) → length xs ≤ i → name_at xs i ≡ None
name_at_out xs i l = cond-false (ltb i (length xs)) (Some (get_or xs i [])) None (le-ltb i (length xs) l)

pub name_at_place :
    (xs : List (List ℕ)) (i : ℕ) (name : List ℕ) → i < length xs → get_or xs i [] ≡ name → name_at xs i ≡ Some name
name_at_place xs i name l e = name_at_in xs i l ∙ ap Some e

place_from_some :
    (k : ℕ) (xs : List (List ℕ)) (name : List ℕ) (p : ℕ) → place_from k xs name ≡ Some p
    → (i : ℕ) × (p ≡ k + i) × (i < length xs) × (get_or xs i [] ≡ name)
place_from_some k [] name p h = let z : ◌≡◌ {A = ℕ} 0 1 = cc in absurd (omega arith)
place_from_some k (x ∷ xs) name p h = elim (cases_Bool (bytes_eq x name)) [
  | inl t ↦
      let s : place_from k (x ∷ xs) name ≡ Some k = place_from_same k x name xs t in
      let e : k ≡ p = cc in
      (0, omega arith, omega arith, (bytes_eq-Decides x name).0 t)
  | inr f ↦
      let r = place_from_some (k + 1) xs name p (sym (place_from_other k x name xs f) ∙ h) in
      (suc r.0, omega (arith, r.1), omega (arith, r.2), r.3)
]

name_at_not_held : (xs : List (List ℕ)) (name : List ℕ) → held name xs ≡ false → (i : ℕ) → name_at xs i ≡ Some name → ⊥
name_at_not_held xs name h i e = elim (cases_lt i (length xs)) [
  | inl l ↦
      let g : name_at xs i ≡ Some (get_or xs i []) = name_at_in xs i l in
      let s : get_or xs i [] ≡ name = cc in
      both_ways (bytes_eq (get_or xs i []) name) (held_at name xs i l h) ((bytes_eq-Decides (get_or xs i []) name).1 s)
  | inr l ↦
      let g : name_at xs i ≡ None = name_at_out xs i l in
      let z : ◌≡◌ {A = ℕ} 0 1 = cc in
      absurd (omega arith)
]

tells_at : (xs : List (List ℕ)) (name : List ℕ) (o : Option ℕ) → place_of xs name ≡ o → Tells xs name o
tells_at xs name None h = λ i e. name_at_not_held xs name (place_from_none 0 xs name h) i e
tells_at xs name (Some p) h =
    let r = place_from_some 0 xs name p h in
    let e : r.0 ≡ p = omega (arith, r.1) in
    name_at_place xs p name (omega (arith, r.2)) (ap (λ i. get_or xs i []) (sym e) ∙ r.3)

pub tells : (xs : List (List ℕ)) (name : List ℕ) (o : Option ℕ) → o ≡ place_of xs name → Tells xs name o
tells xs name o h = tells_at xs name o (sym h)

-- the first names

pub begins_append : (ps xs more : List (List ℕ)) → begins ps xs ≡ true → begins ps (xs ++ more) ≡ true
begins_append [] xs more h = refl
begins_append (p ∷ ps) [] more h = absurd (both_ways false refl h)
begins_append (p ∷ ps) (x ∷ xs) more h =
    let q = and_parts (bytes_eq p x) (begins ps xs) h in
    and_from (bytes_eq p x) (begins ps (xs ++ more)) q.0 (begins_append ps xs more q.1)

pub begins_take : (k : ℕ) (ps xs : List (List ℕ)) → length ps ≤ k → begins ps xs ≡ true → begins ps (take k xs) ≡ true
begins_take k [] xs l h = refl
begins_take k (p ∷ ps) [] l h = absurd (both_ways false refl h)
begins_take zero (p ∷ ps) (x ∷ xs) l h = absurd (omega arith)
begins_take (suc k) (p ∷ ps) (x ∷ xs) l h =
    let q = and_parts (bytes_eq p x) (begins ps xs) h in
    and_from (bytes_eq p x) (begins ps (take k xs)) q.0 (begins_take k ps xs (omega arith) q.1)

pub take_begins : (ps xs : List (List ℕ)) → begins ps xs ≡ true → take (length ps) xs ≡ ps
take_begins [] xs h = refl
take_begins (p ∷ ps) [] h = absurd (both_ways false refl h)
take_begins (p ∷ ps) (x ∷ xs) h =
    let q = and_parts (bytes_eq p x) (begins ps xs) h in
    let e : p ≡ x = (bytes_eq-Decides p x).0 q.0 in
    let r : take (length ps) xs ≡ ps = take_begins ps xs q.1 in
    cc

pub length_begins : (ps xs : List (List ℕ)) → begins ps xs ≡ true → length ps ≤ length xs
length_begins [] xs h = omega arith
length_begins (p ∷ ps) [] h = absurd (both_ways false refl h)
length_begins (p ∷ ps) (x ∷ xs) h = omega (arith, length_begins ps xs (and_parts (bytes_eq p x) (begins ps xs) h).1)

pub lawful :
    (names : List (List ℕ)) → length names ≤ 512 → total names ≤ 8192 → short names ≡ true → distinct names ≡ true
    → begins known names ≡ true → Lawful names
lawful names few small brief apart first = record {
  few = few;
  small = small;
  first = take_begins known names first;
  brief = λ i. short_at names i brief;
  apart = λ i l. distinct_place_from 0 names i l apart ∙ ap Some (omega arith);
}
