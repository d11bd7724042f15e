-- The built-in predicates by the place of their name and by the name itself are the same.
use Rattle.std.proofs.Common.{◌≡◌, ℕ, ◌<◌, ◌≤◌, Bool, true, false, not, ◌&&◌, eqb, ltb, leb, List, [], ◌∷◌, length}
use Rattle.std.proofs.Common.{get_or, sym, refl, ap, ◌∙◌, inl, inr, arith, lit<}
use Rattle.std.proofs.lemmas.List.{get_or_past}
use Rattle.std.proofs.lemmas.Bool.{ltb-true, le-ltb, lt-leb, ne_eqb, cases_lt, cond_both, not-true, and_parts, and_left}
use Rattle.std.proofs.lemmas.Bool.{and_right, or_from, cond-false}
use Rattle.terms.specs.Known.{known, call_name}
use Rattle.terms.specs.Goals.{same}
use Rattle.terms.specs.BuiltIns.{arities, built_in, one_of, with_none, with_one, with_two, with_three, is_built_in}
use Rattle.terms.specs.Rows.{all_below}
use Rattle.terms.specs.Tables.{Tabled}
use Rattle.terms.proofs.Every.{every, every_at}
use Rattle.terms.proofs.TablesProperties.{tabled_known, tabled_same}

abbrev alike : Bool → Bool → Bool
alike true b = b
alike false b = not b

alike_same : (a b : Bool) → alike a b ≡ true → a ≡ b
alike_same true true e = refl
alike_same true false e = sym e
alike_same false true e = e
alike_same false false e = refl

-- no built-in predicate has more than eight arguments
arities_few : (k : ℕ) → k < 22 → get_or arities k 0 < 9
arities_few k l = ltb-true (get_or arities k 0) 9 (every_at 22 (λ i. ltb (get_or arities i 0) 9) refl k l)

built_in_wide : (f n : ℕ) → 8 < n → built_in f n ≡ false
built_in_wide f n l =
    cond_both (eqb f 6) (leb 1 n && leb n 8) (ltb f 22 && eqb n (get_or arities f 0)) (λ b. b ≡ false)
    (λ _. and_right (leb 1 n) (leb n 8) (lt-leb n 8 l))
    (λ _. elim (cases_lt f 22) [
      | inl m ↦ other m
      | inr m ↦ and_left (ltb f 22) (eqb n (get_or arities f 0)) (le-ltb f 22 m)
    ])
  where
    other : f < 22 → (ltb f 22 && eqb n (get_or arities f 0)) ≡ false
    other m =
        and_right (ltb f 22) (eqb n (get_or arities f 0))
        (ne_eqb n (get_or arities f 0) (λ e. let small = arities_few f m in omega arith))

-- a name and so many arguments that no part of the definition takes
is_built_in_none : (b : List ℕ) (n : ℕ) → ((leb 1 n && leb n 8) && same b call_name) ≡ false
    → (eqb n 0 && one_of b with_none) ≡ false
    → (eqb n 1 && one_of b with_one) ≡ false → (eqb n 2 && one_of b with_two) ≡ false
    → (eqb n 3 && one_of b with_three) ≡ false
    → is_built_in b n ≡ false
is_built_in_none b n c e0 e1 e2 e3 =
    or_from ((leb 1 n && leb n 8) && same b call_name) _ c
    (or_from (eqb n 0 && one_of b with_none) _ e0
    (or_from (eqb n 1 && one_of b with_one) _ e1 (or_from (eqb n 2 && one_of b with_two) _ e2 e3)))

is_built_in_wide : (b : List ℕ) (n : ℕ) → 8 < n → is_built_in b n ≡ false
is_built_in_wide b n l =
    is_built_in_none b n
    (and_left (leb 1 n && leb n 8) (same b call_name) (and_right (leb 1 n) (leb n 8) (lt-leb n 8 l)))
    (and_left (eqb n 0) (one_of b with_none) (ne_eqb n 0 (λ e. omega arith)))
    (and_left (eqb n 1) (one_of b with_one) (ne_eqb n 1 (λ e. omega arith)))
    (and_left (eqb n 2) (one_of b with_two) (ne_eqb n 2 (λ e. omega arith)))
    (and_left (eqb n 3) (one_of b with_three) (ne_eqb n 3 (λ e. omega arith)))

abbrev agrees : ℕ → ℕ → Bool
agrees f n = alike (built_in f n) (is_built_in (get_or known f []) n)

table : every 48 (λ f. every 9 (agrees f)) ≡ true
table = refl

pub built_in_known : (f : ℕ) → f < 48 → (n : ℕ) → built_in f n ≡ is_built_in (get_or known f []) n
built_in_known f l n =
    elim (cases_lt n 9) [
      | inl m ↦ alike_same (built_in f n) (is_built_in (get_or known f []) n)
          (every_at 9 (agrees f) (every_at 48 (λ g. every 9 (agrees g)) table f l) n m)
      | inr m ↦ built_in_wide f n (omega arith) ∙ sym (is_built_in_wide (get_or known f []) n (omega arith))
    ]

-- the known names at some places
abbrev names_at : List ℕ → List (List ℕ)
names_at [] = []
names_at (k ∷ ks) = get_or known k [] ∷ names_at ks

one_of_names_at : (b : List ℕ) → ((k : ℕ) → k < 48 → same b (get_or known k []) ≡ false)
    → (ks : List ℕ) → all_below 48 ks ≡ true → one_of b (names_at ks) ≡ false
one_of_names_at b unknown [] below = refl
one_of_names_at b unknown (k ∷ ks) below =
    let two = and_parts (ltb k 48) (all_below 48 ks) below in
    or_from (same b (get_or known k [])) (one_of b (names_at ks)) (unknown k (ltb-true k 48 two.0))
    (one_of_names_at b unknown ks two.1)

is_built_in_unknown : (b : List ℕ) → ((k : ℕ) → k < 48 → same b (get_or known k []) ≡ false) → (n : ℕ)
    → is_built_in b n ≡ false
is_built_in_unknown b unknown n =
    is_built_in_none b n
    (and_right (leb 1 n && leb n 8) (same b call_name) (unknown 6 (lit< tt)))
    (and_right (eqb n 0) (one_of b with_none) (one_of_names_at b unknown (0 ∷ 1 ∷ 2 ∷ 5 ∷ []) refl))
    (and_right (eqb n 1) (one_of b with_one) (one_of_names_at b unknown (7 ∷ 9 ∷ 19 ∷ 20 ∷ 21 ∷ []) refl))
    (and_right (eqb n 2) (one_of b with_two)
    (one_of_names_at b unknown (3 ∷ 4 ∷ 11 ∷ 12 ∷ 13 ∷ 14 ∷ 15 ∷ 16 ∷ 17 ∷ 18 ∷ []) refl))
    (and_right (eqb n 3) (one_of b with_three) (one_of_names_at b unknown (8 ∷ 10 ∷ []) refl))

built_in_past : (f : ℕ) → 48 ≤ f → (n : ℕ) → built_in f n ≡ false
built_in_past f l n =
    cond-false (eqb f 6) (leb 1 n && leb n 8) (ltb f 22 && eqb n (get_or arities f 0)) (ne_eqb f 6 (λ e. omega arith))
    ∙ and_left (ltb f 22) (eqb n (get_or arities f 0)) (le-ltb f 22 (omega arith))

empty_unknown : (k : ℕ) → k < 48 → same [] (get_or known k []) ≡ false
empty_unknown k l = not-true (same [] (get_or known k []))
    (every_at 48 (λ i. not (same [] (get_or known i []))) refl k l)

-- in a table of names the two agree at every place
pub built_in_tabled : (ns : List (List ℕ)) → Tabled ns → (f n : ℕ) → built_in f n ≡ is_built_in (get_or ns f []) n
built_in_tabled ns t f n = elim (cases_lt f 48) [ inl l ↦ front l | inr m ↦ built_in_past f m n ∙ sym (behind m) ]
  where
    front : f < 48 → built_in f n ≡ is_built_in (get_or ns f []) n
    front l = built_in_known f l n ∙ ap (λ b. is_built_in b n) (sym (tabled_known ns t f l))

    behind : 48 ≤ f → is_built_in (get_or ns f []) n ≡ false
    behind m =
        elim (cases_lt f (length ns)) [
          | inl l ↦ is_built_in_unknown (get_or ns f []) (λ k lk. tabled_same ns t f k l lk
              ∙ ne_eqb f k (λ e. omega arith)) n
          | inr p ↦ ap (λ b. is_built_in b n) (get_or_past ns f [] p) ∙ is_built_in_unknown [] empty_unknown n
        ]
