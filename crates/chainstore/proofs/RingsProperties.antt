-- One direction of a ring: how it follows a row that grows at an end or loses a label.
use Rattle.std.proofs.Common.{◌≡◌, ℕ, ◌+◌, ◌<◌, true, false, not, ◌||◌, eqb, List, [], ◌∷◌, ◌++◌, Some, None, Option}
use Rattle.std.proofs.Common.{sym, refl, ap, ◌∙◌, inl, inr, arith}
use Rattle.std.proofs.lemmas.Bool.{eq-eqb, ne_eqb, or_cases, or_left, or_right, both_ways, cases_Bool, cases_eq}
use Rattle.std.proofs.lemmas.Bool.{cond-true, cond-false, and_parts, not-true}
use Rattle.rules.specs.Meaning.{first_of, behind, next_in, holds, distinct}
use Rattle.chainstore.specs.Rings.{cell_of, is_in}
use Rattle.chainstore.specs.Linked.{Goes}
use Rattle.chainstore.proofs.NextProperties.{or_second, holds_append, last_of, behind_skip, join_last, join_other}
use Rattle.chainstore.proofs.NextProperties.{Parts, distinct_parts}

pub cell_of_same : (h : ℕ) (o p : Option ℕ) → h < 4608 → cell_of h o ≡ cell_of h p → o ≡ p
cell_of_same h None None l e = refl
cell_of_same h None (Some y) l e = absurd (omega arith)
cell_of_same h (Some x) None l e = absurd (omega arith)
cell_of_same h (Some x) (Some y) l e = let s : x ≡ y = omega arith in ap Some s

pub goes_front : (go new : ℕ → ℕ) (h l : ℕ) (xs : List ℕ) → h < 4608 → Goes go h xs
    → new (4608 + l) ≡ go h → new h ≡ 4608 + l → ((k : ℕ) → (k ≡ h → ⊥) → (k ≡ 4608 + l → ⊥) → new k ≡ go k)
    → Goes new h (l ∷ xs)
goes_front go new h l xs less goes cell head others None i = head
goes_front go new h l xs less goes cell head others (Some x) i =
    elim (cases_eq l x) [ inl e ↦ here e | inr n ↦ there n ]
  where
    here : l ≡ x → new (4608 + x) ≡ cell_of h (behind x (l ∷ xs))
    here e =
        ap (λ n. new (4608 + n)) (sym e) ∙ cell ∙ goes None refl
        ∙ sym (ap (cell_of h) (cond-true (eqb l x) (first_of xs) (behind x xs) (eq-eqb l x e)))

    there : (l ≡ x → ⊥) → new (4608 + x) ≡ cell_of h (behind x (l ∷ xs))
    there n =
        others (4608 + x) (λ e. omega arith) (λ e. n (omega arith))
        ∙ goes (Some x) (or_second (eqb l x) (holds x xs) (ne_eqb l x n) i)
        ∙ sym (ap (cell_of h) (cond-false (eqb l x) (first_of xs) (behind x xs) (ne_eqb l x n)))

pub goes_back : (go new : ℕ → ℕ) (h p l : ℕ) (xs : List ℕ) → h < 4608 → distinct xs ≡ true → holds l xs ≡ false
    → Goes go h xs → p ≡ cell_of h (last_of xs)
    → new (4608 + l) ≡ h → new p ≡ 4608 + l → ((k : ℕ) → (k ≡ p → ⊥) → (k ≡ 4608 + l → ⊥) → new k ≡ go k)
    → Goes new h (xs ++ l ∷ [])
goes_back go new h p l xs less once out goes last cell end others o i =
    elim (cases_eq (cell_of h o) (4608 + l))
    [ inl e ↦ here e | inr n ↦ elim (cases_eq (cell_of h o) p) [ inl e ↦ at_end e | inr m ↦ before n m ] ]
  where
    here : cell_of h o ≡ 4608 + l → new (cell_of h o) ≡ cell_of h (next_in (xs ++ l ∷ []) o)
    here e =
        let is : o ≡ Some l = cell_of_same h o (Some l) less e in
        ap new e ∙ cell
        ∙ sym (ap (cell_of h) (ap (next_in (xs ++ l ∷ [])) is ∙ behind_skip l xs (l ∷ []) out
        ∙ cond-true (eqb l l) None None (eq-eqb l l refl)))

    at_end : cell_of h o ≡ p → new (cell_of h o) ≡ cell_of h (next_in (xs ++ l ∷ []) o)
    at_end e =
        let is : o ≡ last_of xs = cell_of_same h o (last_of xs) less (e ∙ last) in
        ap new e ∙ end ∙ sym (ap (cell_of h) (ap (next_in (xs ++ l ∷ [])) is ∙ join_last xs (l ∷ []) once))

    is_in_old : (p : Option ℕ) → (cell_of h p ≡ 4608 + l → ⊥) → is_in p (xs ++ l ∷ []) ≡ true → is_in p xs ≡ true
    is_in_old None n j = refl
    is_in_old (Some x) n j =
        elim (or_cases (holds x xs) (eqb l x || false) (sym (holds_append x xs (l ∷ [])) ∙ j)) [
          | inl e ↦ e
          | inr e ↦ absurd (both_ways false refl
              (or_second (eqb l x) false (ne_eqb l x (λ s. n (ap (λ k. 4608 + k) (sym s)))) e))
        ]

    before : (cell_of h o ≡ 4608 + l → ⊥) → (cell_of h o ≡ p → ⊥)
        → new (cell_of h o) ≡ cell_of h (next_in (xs ++ l ∷ []) o)
    before n m =
        let old = is_in_old o n i in
        others (cell_of h o) m n ∙ goes o old
        ∙ sym (ap (cell_of h) (join_other xs (l ∷ []) o old (λ e. m (ap (cell_of h) e ∙ sym last))))

pub goes_past : (go new : ℕ → ℕ) (h p l : ℕ) (ys zs : List ℕ) → h < 4608 → distinct (ys ++ l ∷ zs) ≡ true
    → holds l ys ≡ false → Goes go h (ys ++ l ∷ zs) → p ≡ cell_of h (last_of ys)
    → new p ≡ go (4608 + l) → ((k : ℕ) → (k ≡ p → ⊥) → new k ≡ go k)
    → Goes new h (ys ++ zs)
goes_past go new h p l ys zs less once out goes last end others o i =
    elim (cases_eq (cell_of h o) p) [ inl e ↦ here e | inr n ↦ there n ]
  where
    parts : Parts ys (l ∷ zs)
    parts = distinct_parts ys (l ∷ zs) once

    inside : holds l (ys ++ l ∷ zs) ≡ true
    inside = holds_append l ys (l ∷ zs)
        ∙ or_right (holds l ys) (holds l (l ∷ zs)) (or_left (eqb l l) (holds l zs) (eq-eqb l l refl))

    here : cell_of h o ≡ p → new (cell_of h o) ≡ cell_of h (next_in (ys ++ zs) o)
    here e =
        let is : o ≡ last_of ys = cell_of_same h o (last_of ys) less (e ∙ last) in
        ap new e ∙ end ∙ goes (Some l) inside
        ∙ ap (cell_of h) (behind_skip l ys (l ∷ zs) out
        ∙ cond-true (eqb l l) (first_of zs) (behind l zs) (eq-eqb l l refl))
        ∙ sym (ap (cell_of h) (ap (next_in (ys ++ zs)) is ∙ join_last ys zs parts.left))

    is_in_old : (q : Option ℕ) → is_in q (ys ++ zs) ≡ true → is_in q (ys ++ l ∷ zs) ≡ true
    is_in_old None j = refl
    is_in_old (Some x) j =
        holds_append x ys (l ∷ zs)
        ∙ elim (or_cases (holds x ys) (holds x zs) (sym (holds_append x ys zs) ∙ j)) [
          | inl e ↦ or_left (holds x ys) (holds x (l ∷ zs)) e
          | inr e ↦ or_right (holds x ys) (holds x (l ∷ zs)) (or_right (eqb l x) (holds x zs) e)
        ]

    past : (x : ℕ) → holds x ys ≡ false → is_in (Some x) (ys ++ zs) ≡ true → behind x (l ∷ zs) ≡ behind x zs
    past x e j =
        let inner = or_second (holds x ys) (holds x zs) e (sym (holds_append x ys zs) ∙ j) in
        let free = not-true (holds l zs) (and_parts (not (holds l zs)) (distinct zs) parts.right).0 in
        cond-false (eqb l x) (first_of zs) (behind x zs)
        (ne_eqb l x (λ s. both_ways (holds l zs) free (ap (λ n. holds n zs) s ∙ inner)))

    same : (q : Option ℕ) → (q ≡ last_of ys → ⊥) → is_in q (ys ++ zs) ≡ true
        → next_in (ys ++ l ∷ zs) q ≡ next_in (ys ++ zs) q
    same None m j = join_other ys (l ∷ zs) None refl m ∙ sym (join_other ys zs None refl m)
    same (Some x) m j =
        elim (cases_Bool (holds x ys)) [
          | inl e ↦ join_other ys (l ∷ zs) (Some x) e m ∙ sym (join_other ys zs (Some x) e m)
          | inr e ↦ behind_skip x ys (l ∷ zs) e ∙ past x e j ∙ sym (behind_skip x ys zs e)
        ]

    there : (cell_of h o ≡ p → ⊥) → new (cell_of h o) ≡ cell_of h (next_in (ys ++ zs) o)
    there n =
        others (cell_of h o) n ∙ goes o (is_in_old o i)
        ∙ ap (cell_of h) (same o (λ e. n (ap (cell_of h) e ∙ sym last)) i)
