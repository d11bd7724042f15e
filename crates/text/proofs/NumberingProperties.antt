-- Numbers of variables: an earlier one of the same name, or the next.
use Rattle.std.proofs.Common.{◌≡◌, ℕ, suc, ◌+◌, ◌<◌, ◌≤◌, Bool, true, false, cond, ◌&&◌, List, [], ◌∷◌, ◌++◌}
use Rattle.std.proofs.Common.{length, Some, None, Option, sym, refl, ap, ◌∙◌, inl, inr, zero-add, arith}
use Rattle.std.proofs.lemmas.List.{length_push}
use Rattle.std.proofs.lemmas.Bool.{cases_Bool}
use Rattle.std.specs.Prelude.{nat_eq, ◌==◌}
use Rattle.std.specs.List.{position_from}
use lib.Pointwise.{pointwise}
use Rattle.tokens.specs.Bytes.{same}
use Rattle.reader.specs.Ops.{part}
use Rattle.reader.specs.declared.span.Span.{Span}
use Rattle.text.specs.Numbering.{Met, place_from, is_met, found_from, is_lone, found_in, number_of, meets}
use Rattle.text.specs.Building.{cuts}

-- `==` of slices
pub same_slices : (xs ys : List ℕ) → pointwise nat_eq xs ys ≡ same xs ys
same_slices [] [] = refl
same_slices [] (y ∷ ys) = refl
same_slices (x ∷ xs) [] = refl
same_slices (x ∷ xs) (y ∷ ys) = ap (λ b. (x == y) && b) (same_slices xs ys)

-- the search of the parts of a text is the search for the first part that is the name
pub found_position : (i : ℕ) (text : List ℕ) (ss : List Span) (a : List ℕ)
    → position_from (λ s. same (part text s.start s.end) a) i ss ≡ found_from i (cuts text ss) a
found_position i text [] a = refl
found_position i text (s ∷ ss) a =
    ap (cond (same (part text s.start s.end) a) (Some i)) (found_position (i + 1) text ss a)

-- a name that is found was met, and at its place

pick : (s m : Bool) (x y : ℕ) (o : Option ℕ) → o ≡ cond m (Some y) None
    → cond s (Some x) o ≡ cond (cond s true m) (Some (cond s x y)) None
pick true m x y o e = refl
pick false m x y o e = e

found_from_is : (i : ℕ) (e : Met) (a : List ℕ) → found_from i e a ≡ cond (is_met e a) (Some (place_from i e a)) None
found_from_is i [] a = refl
found_from_is i (b ∷ bs) a =
    pick (same b a) (is_met bs a) i (place_from (i + 1) bs a) (found_from (i + 1) bs a) (found_from_is (i + 1) bs a)

pick_below : (s : Bool) (i k n : ℕ) (o : Option ℕ) → i < n → (Some k ≡ o → k < n) → Some k ≡ cond s (Some i) o → k < n
pick_below true i k n o l rest e = let at : k ≡ i = cc in omega arith
pick_below false i k n o l rest e = rest e

found_below : (i : ℕ) (e : Met) (a : List ℕ) (k : ℕ) → Some k ≡ found_from i e a → k < i + length e
found_below i [] a k e = let z : ◌≡◌ {A = ℕ} 0 1 = cc in absurd (omega arith)
found_below i (b ∷ bs) a k e =
    pick_below (same b a) i k (i + suc (length bs)) (found_from (i + 1) bs a) (omega arith)
    (λ r. let l = found_below (i + 1) bs a k r in omega arith) e

pick_end : (s m : Bool) (i p n : ℕ) → cond s true m ≡ false → (m ≡ false → p ≡ n) → cond s i p ≡ n
pick_end true m i p n e rest = let z : ◌≡◌ {A = ℕ} 0 1 = cc in absurd (omega arith)
pick_end false m i p n e rest = rest e

-- a name that was not met has the next place
place_from_end : (i : ℕ) (e : Met) (a : List ℕ) → is_met e a ≡ false → place_from i e a ≡ i + length e
place_from_end i [] a n = omega arith
place_from_end i (b ∷ bs) a n =
    pick_end (same b a) (is_met bs a) i (place_from (i + 1) bs a) (i + suc (length bs)) n
    (λ m. let r = place_from_end (i + 1) bs a m in omega arith)

choose : (l m : Bool) (k p n : ℕ) (e f : Met) → Some k ≡ cond l None (cond m (Some p) None)
    → (k ≡ cond l n p) × (e ≡ cond l f (cond m e f))
choose true m k p n e f h = let z : ◌≡◌ {A = ℕ} 0 1 = cc in absurd (omega arith)
choose false true k p n e f h = let at : k ≡ p = cc in (at, refl)
choose false false k p n e f h = let z : ◌≡◌ {A = ℕ} 0 1 = cc in absurd (omega arith)

pub number_old : (e : Met) (a : List ℕ) (k : ℕ) → Some k ≡ found_in e a → (k ≡ number_of e a) × (e ≡ meets e a)
number_old e a k h =
    choose (is_lone a) (is_met e a) k (place_from 0 e a) (length e) e (e ++ a ∷ [])
    (h ∙ ap (λ o. cond (is_lone a) None o) (found_from_is 0 e a))

pub number_below : (e : Met) (a : List ℕ) (k : ℕ) → Some k ≡ found_in e a → k < length e
number_below e a k h = elim (cases_Bool (is_lone a)) [ inl l ↦ lone l | inr l ↦ other l ]
  where
    lone : is_lone a ≡ true → k < length e
    lone l =
        let n : Some k ≡ None = h ∙ ap (λ b. cond b None (found_from 0 e a)) l in
        let z : ◌≡◌ {A = ℕ} 0 1 = cc in absurd (omega arith)

    other : is_lone a ≡ false → k < length e
    other l = let r = found_below 0 e a k (h ∙ ap (λ b. cond b None (found_from 0 e a)) l) in omega arith

choose_new : (l m : Bool) (p n : ℕ) (e f : Met) → None ≡ cond l None (cond m (Some p) None) → (m ≡ false → p ≡ n)
    → (n ≡ cond l n p) × (f ≡ cond l f (cond m e f))
choose_new true m p n e f h last = (refl, refl)
choose_new false true p n e f h last = let z : ◌≡◌ {A = ℕ} 0 1 = cc in absurd (omega arith)
choose_new false false p n e f h last = (sym (last refl), refl)

pub number_new : (e : Met) (a : List ℕ) → None ≡ found_in e a
    → (length e ≡ number_of e a) × (e ++ a ∷ [] ≡ meets e a)
number_new e a h =
    choose_new (is_lone a) (is_met e a) (place_from 0 e a) (length e) e (e ++ a ∷ [])
    (h ∙ ap (λ o. cond (is_lone a) None o) (found_from_is 0 e a))
    (λ m. place_from_end 0 e a m ∙ zero-add (length e))

cuts_append : (text : List ℕ) (ss ts : List Span) → cuts text (ss ++ ts) ≡ cuts text ss ++ cuts text ts
cuts_append text [] ts = refl
cuts_append text (s ∷ ss) ts = ap (λ l. part text s.start s.end ∷ l) (cuts_append text ss ts)

pub cuts_push : (text : List ℕ) (ss : List Span) (s : Span)
    → cuts text (ss ++ s ∷ []) ≡ cuts text ss ++ part text s.start s.end ∷ []
cuts_push text ss s = cuts_append text ss (s ∷ [])

pub length_cuts : (text : List ℕ) (ss : List Span) → length (cuts text ss) ≡ length ss
length_cuts text [] = refl
length_cuts text (s ∷ ss) = ap suc (length_cuts text ss)

grows : (l m : Bool) (e f : Met) → length e ≤ length f → length e ≤ length (cond l f (cond m e f))
grows true m e f h = h
grows false true e f h = omega arith
grows false false e f h = h

pub length_meets : (e : Met) (a : List ℕ) → length e ≤ length (meets e a)
length_meets e a =
    let n = length_push e a in grows (is_lone a) (is_met e a) e (e ++ a ∷ []) (omega arith)
