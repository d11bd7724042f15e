-- Variables numbered by first appearance: their order, what it takes to undo it, and that it changes no text.
use Rattle.std.proofs.Common.{◌≡◌, ℕ, zero, suc, ◌+◌, ◌≤◌, Bool, true, false, cond, ltb, List, [], ◌∷◌, ◌++◌, length}
use Rattle.std.proofs.Common.{codes, sym, refl, ap, ◌∙◌, arith}
use Rattle.std.proofs.lemmas.Bool.{eq-eqb, ne_eqb, ltb-false}
use Rattle.terms.specs.Term.{Term, Terms, var, int, app, nil, cons}
use Rattle.grammar.specs.Written as written
use Rattle.writing.specs.Writing.{text}
use Rattle.writer.specs.Shown.{decimal, place_in, with_variable, firsts, firsts_all, as_written, all_as_written}
use Rattle.readback.specs.Renaming.{renamed, all_renamed, restored, all_restored, count_from, in_order, NumberedInOrder}
use Rattle.readback.specs.Renaming.{NumberedOnce, NothingLost, SameText, HeadAndBodyAlike}
use Rattle.readback.proofs.PlaceProperties.{place_within, variable_at_place, length_with, place_inside_with, Keeps}
use Rattle.readback.proofs.PlaceProperties.{keeps_itself, firsts_keeps, keeps_first, kept_place}

-- lists that keep the variables of a term number it alike
mutual
  renamed_alike : (t : Term) (s u z : List ℕ) → Keeps (firsts s t) u → Keeps (firsts s t) z
      → renamed u t ≡ renamed z t
  renamed_alike (var v) s u z k l = ap var (kept_place s u v k ∙ sym (kept_place s z v l))
  renamed_alike (int i) s u z k l = refl
  renamed_alike (app f ts) s u z k l = ap (app f) (all_renamed_alike ts s u z k l)

  all_renamed_alike : (ts : Terms) (s u z : List ℕ) → Keeps (firsts_all s ts) u → Keeps (firsts_all s ts) z
      → all_renamed u ts ≡ all_renamed z ts
  all_renamed_alike nil s u z k l = refl
  all_renamed_alike (cons t ts) s u z k l =
      ap (λ x. cons x (all_renamed u ts)) (renamed_alike t s u z (keeps_first t ts s u k) (keeps_first t ts s z l))
      ∙ ap (cons (renamed z t)) (all_renamed_alike ts (firsts s t) u z k l)

pub head_and_body_alike : HeadAndBodyAlike
head_and_body_alike h b =
    let s : List ℕ = firsts [] h in
    renamed_alike h [] (firsts s b) s (firsts_keeps b s) (keeps_itself s)

-- the other way
mutual
  restored_renamed : (t : Term) (s u : List ℕ) → Keeps (firsts s t) u → restored u (renamed u t) ≡ t
  restored_renamed (var v) s u k =
      let e = kept_place s u v k in
      ap var (variable_at_place u v (omega (arith, k.longer, place_inside_with s v)))
  restored_renamed (int i) s u k = refl
  restored_renamed (app f ts) s u k = ap (app f) (all_restored_renamed ts s u k)

  all_restored_renamed : (ts : Terms) (s u : List ℕ) → Keeps (firsts_all s ts) u
      → all_restored u (all_renamed u ts) ≡ ts
  all_restored_renamed nil s u k = refl
  all_restored_renamed (cons t ts) s u k =
      ap (λ x. cons x (all_restored u (all_renamed u ts))) (restored_renamed t s u (keeps_first t ts s u k))
      ∙ ap (cons t) (all_restored_renamed ts (firsts s t) u k)

pub nothing_lost : NothingLost
nothing_lost t = restored_renamed t [] (firsts [] t) (keeps_itself (firsts [] t))

-- numbers in order
place_in_count : (n i j : ℕ) → j ≤ n → place_in (count_from i n) (i + j) ≡ j
place_in_count zero i j h = omega arith
place_in_count (suc n) i zero h =
    ap (λ b. cond b 0 (suc (place_in (count_from (i + 1) n) (i + 0)))) (eq-eqb i (i + 0) (omega arith))
place_in_count (suc n) i (suc j) h =
    let e : i + suc j ≡ i + 1 + j = omega arith in
    ap (λ b. cond b 0 (suc (place_in (count_from (i + 1) n) (i + suc j)))) (ne_eqb i (i + suc j) (λ d. omega arith))
    ∙ ap (λ v. suc (place_in (count_from (i + 1) n) v)) e ∙ ap suc (place_in_count n (i + 1) j (omega arith))

count_place : (n k : ℕ) → k ≤ n → place_in (count_from 0 n) k ≡ k
count_place n k h =
    let e : 0 + k ≡ k = omega arith in
    ap (place_in (count_from 0 n)) (sym e) ∙ place_in_count n 0 k h

count_length : (i n : ℕ) → length (count_from i n) ≡ n
count_length i zero = refl
count_length i (suc n) = ap suc (count_length (i + 1) n)

count_more : (n i k : ℕ) → k ≡ i + n → count_from i n ++ k ∷ [] ≡ count_from i (suc n)
count_more zero i k e =
    let d : k ≡ i = omega arith in
    ap (λ j. j ∷ []) d
count_more (suc n) i k e = ap (λ l. i ∷ l) (count_more n (i + 1) k (omega arith))

count_with : (n k : ℕ) → k ≤ n → with_variable (count_from 0 n) k ≡ count_from 0 (cond (ltb k n) n (suc n))
count_with n k h =
    ap (λ p. cond (ltb p (length (count_from 0 n))) (count_from 0 n) (count_from 0 n ++ k ∷ [])) (count_place n k h)
    ∙ ap (λ m. cond (ltb k m) (count_from 0 n) (count_from 0 n ++ k ∷ [])) (count_length 0 n)
    ∙ go (ltb k n) refl
  where
    go : (b : Bool) → ltb k n ≡ b
        → cond b (count_from 0 n) (count_from 0 n ++ k ∷ []) ≡ count_from 0 (cond b n (suc n))
    go true e = refl
    go false e = count_more n 0 k (omega (arith, ltb-false k n e))

mutual
  firsts_in_order : (t : Term) (s u : List ℕ) → Keeps (firsts s t) u
      → firsts (count_from 0 (length s)) (renamed u t) ≡ count_from 0 (length (firsts s t))
  firsts_in_order (var v) s u k =
      ap (with_variable (count_from 0 (length s))) (kept_place s u v k)
      ∙ count_with (length s) (place_in s v) (place_within s v) ∙ ap (count_from 0) (sym (length_with s v))
  firsts_in_order (int i) s u k = refl
  firsts_in_order (app f ts) s u k = all_firsts_in_order ts s u k

  all_firsts_in_order : (ts : Terms) (s u : List ℕ) → Keeps (firsts_all s ts) u
      → firsts_all (count_from 0 (length s)) (all_renamed u ts) ≡ count_from 0 (length (firsts_all s ts))
  all_firsts_in_order nil s u k = refl
  all_firsts_in_order (cons t ts) s u k =
      ap (λ l. firsts_all l (all_renamed u ts)) (firsts_in_order t s u (keeps_first t ts s u k))
      ∙ all_firsts_in_order ts (firsts s t) u k

pub numbered_in_order : NumberedInOrder
numbered_in_order t = firsts_in_order t [] (firsts [] t) (keeps_itself (firsts [] t))

-- numbered again
mutual
  count_renames_nothing : (t : Term) (u : List ℕ) → renamed (count_from 0 (length u)) (renamed u t) ≡ renamed u t
  count_renames_nothing (var v) u = ap var (count_place (length u) (place_in u v) (place_within u v))
  count_renames_nothing (int i) u = refl
  count_renames_nothing (app f ts) u = ap (app f) (count_renames_none ts u)

  count_renames_none : (ts : Terms) (u : List ℕ)
      → all_renamed (count_from 0 (length u)) (all_renamed u ts) ≡ all_renamed u ts
  count_renames_none nil u = refl
  count_renames_none (cons t ts) u =
      ap (λ x. cons x (all_renamed (count_from 0 (length u)) (all_renamed u ts))) (count_renames_nothing t u)
      ∙ ap (cons (renamed u t)) (count_renames_none ts u)

pub numbered_once : NumberedOnce
numbered_once t =
    ap (λ s. renamed s (in_order t)) (numbered_in_order t) ∙ count_renames_nothing t (firsts [] t)

-- the same text
mutual
  written_alike : (t : Term) (u : List ℕ) → as_written (count_from 0 (length u)) (renamed u t) ≡ as_written u t
  written_alike (var v) u =
      ap (λ k. written.var (codes "_" ++ decimal k)) (count_place (length u) (place_in u v) (place_within u v))
  written_alike (int i) u = refl
  written_alike (app f ts) u = ap (written.app f) (all_written_alike ts u)

  all_written_alike : (ts : Terms) (u : List ℕ)
      → all_as_written (count_from 0 (length u)) (all_renamed u ts) ≡ all_as_written u ts
  all_written_alike nil u = refl
  all_written_alike (cons t ts) u =
      ap (λ x. written.cons x (all_as_written (count_from 0 (length u)) (all_renamed u ts))) (written_alike t u)
      ∙ ap (written.cons (as_written u t)) (all_written_alike ts u)

pub same_text : SameText
same_text t =
    ap (λ s. text (as_written s (in_order t))) (numbered_in_order t) ∙ ap text (written_alike t (firsts [] t))
