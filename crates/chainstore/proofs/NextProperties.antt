-- Rows of labels: what a row holds, and what stands behind a label when two rows are joined.
use Rattle.std.proofs.Common.{◌≡◌, ℕ, Bool, true, false, not, ◌||◌, eqb, List, [], ◌∷◌, ◌++◌, reverse, Some, None}
use Rattle.std.proofs.Common.{Option, sym, refl, ap, ◌∙◌, inl, inr}
use Rattle.std.proofs.lemmas.List.{reverse-append, reverse-reverse}
use Rattle.std.proofs.lemmas.Bool.{eqb-true, eq-eqb, ne_eqb, and_parts, and_from, or_from, or_left, or_right, or_parts}
use Rattle.std.proofs.lemmas.Bool.{or_cases, not-true, not_from_false, both_ways, cases_Bool, cases_eq, cond-true}
use Rattle.std.proofs.lemmas.Bool.{cond-false}
use Rattle.std.proofs.Math.Bool.{or_assoc}
use Rattle.rules.specs.Meaning.{first_of, behind, next_in, without, holds, distinct, End, front, back, placed}
use Rattle.rules.proofs.MeaningProperties.{distinct_push}
use Rattle.chainstore.specs.Rings.{is_in, backward}

or_swap : (p q : Bool) → (p || (q || false)) ≡ (q || p)
or_swap true true = refl
or_swap true false = refl
or_swap false true = refl
or_swap false false = refl

pub or_second : (p q : Bool) → p ≡ false → (p || q) ≡ true → q ≡ true
or_second p q e h = sym (ap (λ b. b || q) e) ∙ h

pub holds_append : (x : ℕ) (ys zs : List ℕ) → holds x (ys ++ zs) ≡ (holds x ys || holds x zs)
holds_append x [] zs = refl
holds_append x (y ∷ ys) zs =
    ap (λ b. eqb y x || b) (holds_append x ys zs) ∙ sym (or_assoc (eqb y x) (holds x ys) (holds x zs))

pub reverse_cons : (x : ℕ) (xs : List ℕ) → reverse (x ∷ xs) ≡ reverse xs ++ x ∷ []
reverse_cons x xs = reverse-append (x ∷ []) xs

pub holds_reverse : (x : ℕ) (xs : List ℕ) → holds x (reverse xs) ≡ holds x xs
holds_reverse x [] = refl
holds_reverse x (y ∷ ys) =
    ap (holds x) (reverse_cons y ys) ∙ holds_append x (reverse ys) (y ∷ [])
    ∙ or_swap (holds x (reverse ys)) (eqb y x) ∙ ap (λ b. eqb y x || b) (holds_reverse x ys)

pub is_in_reverse : (o : Option ℕ) (xs : List ℕ) → is_in o (reverse xs) ≡ is_in o xs
is_in_reverse None xs = refl
is_in_reverse (Some x) xs = holds_reverse x xs

pub distinct_reverse : (xs : List ℕ) → distinct xs ≡ true → distinct (reverse xs) ≡ true
distinct_reverse [] d = refl
distinct_reverse (x ∷ xs) d =
    let two = and_parts (not (holds x xs)) (distinct xs) d in
    ap distinct (reverse_cons x xs)
    ∙ distinct_push x (reverse xs) (distinct_reverse xs two.1)
    (holds_reverse x xs ∙ not-true (holds x xs) two.0)

pub record Parts (ys zs : List ℕ) : Type 0 where
  pub left : distinct ys ≡ true
  pub right : distinct zs ≡ true
  pub apart : (x : ℕ) → holds x ys ≡ true → holds x zs ≡ false

parts_cons : (y : ℕ) (ys zs : List ℕ) → holds y (ys ++ zs) ≡ false → Parts ys zs → Parts (y ∷ ys) zs
parts_cons y ys zs out rest = record { left = left; right = rest.right; apart = apart }
  where
    none : (holds y ys ≡ false) × (holds y zs ≡ false)
    none = or_parts (holds y ys) (holds y zs) (sym (holds_append y ys zs) ∙ out)

    left : distinct (y ∷ ys) ≡ true
    left = and_from (not (holds y ys)) (distinct ys) (not_from_false (holds y ys) none.0) rest.left

    apart : (x : ℕ) → holds x (y ∷ ys) ≡ true → holds x zs ≡ false
    apart x h =
        elim (or_cases (eqb y x) (holds x ys) h) [
          | inl e ↦ ap (λ n. holds n zs) (sym (eqb-true y x e)) ∙ none.1
          | inr e ↦ rest.apart x e
        ]

pub distinct_parts : (ys zs : List ℕ) → distinct (ys ++ zs) ≡ true → Parts ys zs
distinct_parts [] zs d = record { left = refl; right = d; apart = λ x h. absurd (both_ways false refl h) }
distinct_parts (y ∷ ys) zs d =
    let two = and_parts (not (holds y (ys ++ zs))) (distinct (ys ++ zs)) d in
    parts_cons y ys zs (not-true (holds y (ys ++ zs)) two.0) (distinct_parts ys zs two.1)

-- the first of a row that is this label, and what stands before and behind it
pub record Split (l : ℕ) (xs : List ℕ) : Type 0 where
  pub before : List ℕ
  pub rest : List ℕ
  pub is : xs ≡ before ++ l ∷ rest
  pub clear : holds l before ≡ false

pub split : (l : ℕ) (xs : List ℕ) → holds l xs ≡ true → Split l xs
split l [] h = absurd (both_ways false refl h)
split l (x ∷ xs) h = elim
    (cases_eq x l) [
      | inl e ↦ here e
      | inr n ↦
          later n (split l xs (or_second (eqb x l) (holds l xs) (ne_eqb x l n) h))
    ]
  where
    here : x ≡ l → Split l (x ∷ xs)
    here e = record { before = []; rest = xs; is = ap (λ n. n ∷ xs) e; clear = refl }

    later : (x ≡ l → ⊥) → Split l xs → Split l (x ∷ xs)
    later n s = record {
      before = x ∷ s.before;
      rest = s.rest;
      is = ap (λ r. x ∷ r) s.is;
      clear = or_from (eqb x l) (holds l s.before) (ne_eqb x l n) s.clear;
    }

pub without_split : (l : ℕ) (ys zs : List ℕ) → holds l ys ≡ false → without l (ys ++ l ∷ zs) ≡ ys ++ zs
without_split l [] zs h = cond-true (eqb l l) zs (l ∷ without l zs) (eq-eqb l l refl)
without_split l (y ∷ ys) zs h =
    let two = or_parts (eqb y l) (holds l ys) h in
    cond-false (eqb y l) (ys ++ l ∷ zs) (y ∷ without l (ys ++ l ∷ zs)) two.0
    ∙ ap (λ r. y ∷ r) (without_split l ys zs two.1)

pub without_push : (x l : ℕ) (xs : List ℕ) → (l ≡ x → ⊥) → without x (xs ++ l ∷ []) ≡ without x xs ++ l ∷ []
without_push x l [] n = cond-false (eqb l x) [] (l ∷ []) (ne_eqb l x n)
without_push x l (y ∷ ys) n =
    elim (cases_Bool (eqb y x)) [
      | inl e ↦ cond-true (eqb y x) (ys ++ l ∷ []) (y ∷ without x (ys ++ l ∷ [])) e
          ∙ sym (ap (λ r. r ++ l ∷ []) (cond-true (eqb y x) ys (y ∷ without x ys) e))
      | inr e ↦ cond-false (eqb y x) (ys ++ l ∷ []) (y ∷ without x (ys ++ l ∷ [])) e
          ∙ ap (λ r. y ∷ r) (without_push x l ys n)
          ∙ sym (ap (λ r. r ++ l ∷ []) (cond-false (eqb y x) ys (y ∷ without x ys) e))
    ]

pub without_placed_other : (e : End) (x l : ℕ) (xs : List ℕ) → (l ≡ x → ⊥)
    → placed e l (without x xs) ≡ without x (placed e l xs)
without_placed_other front x l xs n = sym (cond-false (eqb l x) xs (l ∷ without x xs) (ne_eqb l x n))
without_placed_other back x l xs n = sym (without_push x l xs n)

pub without_placed_same : (e : End) (l : ℕ) (xs : List ℕ) → holds l xs ≡ false → without l (placed e l xs) ≡ xs
without_placed_same front l xs h = cond-true (eqb l l) xs (l ∷ without l xs) (eq-eqb l l refl)
without_placed_same back l xs h = without_split l xs [] h ∙ append_nothing xs
  where
    append_nothing : (ys : List ℕ) → ys ++ [] ≡ ys
    append_nothing [] = refl
    append_nothing (y ∷ ys) = ap (λ r. y ∷ r) (append_nothing ys)

-- the last label of a row
abbrev last_or : ℕ → List ℕ → ℕ
last_or y [] = y
last_or y (z ∷ zs) = last_or z zs

abbrev pub last_of : List ℕ → Option ℕ
last_of [] = None
last_of (y ∷ ys) = Some (last_or y ys)

last_or_push : (x : ℕ) (xs : List ℕ) (y : ℕ) → last_or x (xs ++ y ∷ []) ≡ y
last_or_push x [] y = refl
last_or_push x (z ∷ zs) y = last_or_push z zs y

last_of_push : (xs : List ℕ) (y : ℕ) → last_of (xs ++ y ∷ []) ≡ Some y
last_of_push [] y = refl
last_of_push (x ∷ xs) y = ap Some (last_or_push x xs y)

pub last_of_reverse : (xs : List ℕ) → last_of (reverse xs) ≡ first_of xs
last_of_reverse [] = refl
last_of_reverse (x ∷ xs) = ap last_of (reverse_cons x xs) ∙ last_of_push (reverse xs) x

pub first_reverse : (xs : List ℕ) → first_of (reverse xs) ≡ last_of xs
first_reverse xs = sym (last_of_reverse (reverse xs)) ∙ ap last_of (reverse-reverse xs)

holds_last_or : (y : ℕ) (ys : List ℕ) → holds (last_or y ys) (y ∷ ys) ≡ true
holds_last_or y [] = or_left (eqb y y) false (eq-eqb y y refl)
holds_last_or y (z ∷ zs) = or_right (eqb y (last_or z zs)) (holds (last_or z zs) (z ∷ zs)) (holds_last_or z zs)

pub is_in_first : (xs : List ℕ) → is_in (first_of xs) xs ≡ true
is_in_first [] = refl
is_in_first (x ∷ xs) = or_left (eqb x x) (holds x xs) (eq-eqb x x refl)

is_in_more : (x : ℕ) (xs : List ℕ) (o : Option ℕ) → is_in o xs ≡ true → is_in o (x ∷ xs) ≡ true
is_in_more x xs None h = refl
is_in_more x xs (Some y) h = or_right (eqb x y) (holds y xs) h

is_in_behind : (l : ℕ) (xs : List ℕ) → is_in (behind l xs) xs ≡ true
is_in_behind l [] = refl
is_in_behind l (x ∷ xs) =
    elim (cases_Bool (eqb x l)) [
      | inl e ↦ ap (λ o. is_in o (x ∷ xs)) (cond-true (eqb x l) (first_of xs) (behind l xs) e)
          ∙ is_in_more x xs (first_of xs) (is_in_first xs)
      | inr e ↦ ap (λ o. is_in o (x ∷ xs)) (cond-false (eqb x l) (first_of xs) (behind l xs) e)
          ∙ is_in_more x xs (behind l xs) (is_in_behind l xs)
    ]

-- what is next of a row is in it
pub is_in_next : (xs : List ℕ) (o : Option ℕ) → is_in (next_in xs o) xs ≡ true
is_in_next xs None = is_in_first xs
is_in_next xs (Some l) = is_in_behind l xs

pub is_in_backward : (xs : List ℕ) (o : Option ℕ) → is_in (backward xs o) xs ≡ true
is_in_backward xs o = sym (is_in_reverse (next_in (reverse xs) o) xs) ∙ is_in_next (reverse xs) o

pub behind_skip : (x : ℕ) (ys zs : List ℕ) → holds x ys ≡ false → behind x (ys ++ zs) ≡ behind x zs
behind_skip x [] zs h = refl
behind_skip x (y ∷ ys) zs h =
    let two = or_parts (eqb y x) (holds x ys) h in
    cond-false (eqb y x) (first_of (ys ++ zs)) (behind x (ys ++ zs)) two.0 ∙ behind_skip x ys zs two.1

-- of two rows joined, the first of the second is next after the last of the first
join_last_or : (y : ℕ) (ys zs : List ℕ) → distinct (y ∷ ys) ≡ true
    → behind (last_or y ys) (y ∷ (ys ++ zs)) ≡ first_of zs
join_last_or y [] zs d = cond-true (eqb y y) (first_of zs) (behind y zs) (eq-eqb y y refl)
join_last_or y (w ∷ ws) zs d =
    let two = and_parts (not (holds y (w ∷ ws))) (distinct (w ∷ ws)) d in
    let none = not-true (holds y (w ∷ ws)) two.0 in
    let n : eqb y (last_or w ws) ≡ false
    = ne_eqb y (last_or w ws)
    (λ e. both_ways (holds y (w ∷ ws)) none (ap (λ k. holds k (w ∷ ws)) e ∙ holds_last_or w ws)) in
    cond-false (eqb y (last_or w ws)) (first_of (w ∷ (ws ++ zs))) (behind (last_or w ws) (w ∷ (ws ++ zs))) n
    ∙ join_last_or w ws zs two.1

pub join_last : (ys zs : List ℕ) → distinct ys ≡ true → next_in (ys ++ zs) (last_of ys) ≡ first_of zs
join_last [] zs d = refl
join_last (y ∷ ys) zs d = join_last_or y ys zs d

-- and the others have the same next
join_some : (x : ℕ) (ys zs : List ℕ) → holds x ys ≡ true → (Some x ≡ last_of ys → ⊥)
    → behind x (ys ++ zs) ≡ behind x ys
join_some x [] zs h n = absurd (both_ways false refl h)
join_some x (y ∷ []) zs h n =
    elim (cases_eq y x) [
      | inl e ↦ absurd (n (ap Some (sym e)))
      | inr m ↦ absurd (both_ways false refl (or_second (eqb y x) false (ne_eqb y x m) h))
    ]
join_some x (y ∷ w ∷ ws) zs h n =
    elim (cases_Bool (eqb y x)) [
      | inl e ↦ cond-true (eqb y x) (Some w) (behind x (w ∷ (ws ++ zs))) e
          ∙ sym (cond-true (eqb y x) (Some w) (behind x (w ∷ ws)) e)
      | inr e ↦ cond-false (eqb y x) (Some w) (behind x (w ∷ (ws ++ zs))) e
          ∙ join_some x (w ∷ ws) zs (or_second (eqb y x) (holds x (w ∷ ws)) e h) n
          ∙ sym (cond-false (eqb y x) (Some w) (behind x (w ∷ ws)) e)
    ]

pub join_other : (ys zs : List ℕ) (o : Option ℕ) → is_in o ys ≡ true → (o ≡ last_of ys → ⊥)
    → next_in (ys ++ zs) o ≡ next_in ys o
join_other [] zs None h n = absurd (n refl)
join_other (y ∷ ys) zs None h n = refl
join_other ys zs (Some x) h n = join_some x ys zs h n
