-- The names _0, _1, and so on, in order: each has its number as its place, and no two are the same.
use Rattle.std.proofs.Common.{◌≡◌, ℕ, zero, suc, ◌+◌, ◌^◌, ◌<◌, ◌≤◌, Bool, true, false, cond, ◌&&◌, eqb, ltb, List, []}
use Rattle.std.proofs.Common.{◌∷◌, ◌++◌, length, codes, sym, refl, ap, ◌∙◌, arith}
use Rattle.std.proofs.lemmas.Fmt.{decimal_nonempty, decimal_injective}
use Rattle.std.proofs.lemmas.Bool.{eq-eqb, eqb-true, eqb-false, ltb-false, lt-ltb, le-ltb}
use Rattle.tokens.specs.Bytes.{same}
use Rattle.writing.proofs.WrittenTokens.{same_sound}
use Rattle.text.specs.Numbering.{Met, place_from, is_met, is_lone, number_of, meets}
use Rattle.writer.specs.Shown.{decimal}

abbrev pub number_name : ℕ → List ℕ
number_name k = codes "_" ++ decimal k

-- n names, from number i on
abbrev pub names_from : ℕ → ℕ → Met
names_from i zero = []
names_from i (suc n) = number_name i ∷ names_from (i + 1) n

same_itself : (s : List ℕ) → same s s ≡ true
same_itself [] = refl
same_itself (c ∷ s) = ap (λ b. b && same s s) (eq-eqb c c refl) ∙ same_itself s

same_name : (i k : ℕ) → i ≡ k → same (number_name i) (number_name k) ≡ true
same_name i k e = ap (λ j. same (number_name i) (number_name j)) (sym e) ∙ same_itself (number_name i)

other_name : (i k : ℕ) → i < 2 ^ 64 → k < 2 ^ 64 → (i ≡ k → ⊥) → same (number_name i) (number_name k) ≡ false
other_name i k p q ne = go (same (decimal i) (decimal k)) refl
  where
    go : (b : Bool) → same (decimal i) (decimal k) ≡ b → b ≡ false
    go true e = absurd (ne (decimal_injective i k p q (same_sound (decimal i) (decimal k) e)))
    go false e = refl

name_not_lone : (k : ℕ) → k < 2 ^ 64 → is_lone (number_name k) ≡ false
name_not_lone k h = go (decimal k) (decimal_nonempty k h)
  where
    go : (ds : List ℕ) → 0 < length ds → same (95 ∷ ds) (codes "_") ≡ false
    go [] l = absurd (omega arith)
    go (c ∷ cs) l = refl

place_of_name : (n i k : ℕ) → i ≤ k → k ≤ i + n → k < 2 ^ 64 → place_from i (names_from i n) (number_name k) ≡ k
place_of_name zero i k p q l = omega arith
place_of_name (suc n) i k p q l =
    go (λ r. place_of_name n (i + 1) k (omega arith) (omega arith) l) (eqb i k) refl
  where
    go : (i < k → place_from (i + 1) (names_from (i + 1) n) (number_name k) ≡ k) → (b : Bool) → eqb i k ≡ b
        → place_from i (names_from i (suc n)) (number_name k) ≡ k
    go ih true e =
        ap (λ b. cond b i (place_from (i + 1) (names_from (i + 1) n) (number_name k))) (same_name i k (eqb-true i k e))
        ∙ eqb-true i k e
    go ih false e =
        let ne = eqb-false i k e in
        ap (λ b. cond b i (place_from (i + 1) (names_from (i + 1) n) (number_name k)))
        (other_name i k (omega arith) l ne) ∙ ih (omega arith)

met_name : (n i k : ℕ) → i ≤ k → k < 2 ^ 64 → is_met (names_from i n) (number_name k) ≡ ltb k (i + n)
met_name zero i k p l = sym (le-ltb k (i + 0) (omega arith))
met_name (suc n) i k p l = go (λ r. met_name n (i + 1) k (omega arith) l) (eqb i k) refl
  where
    go : (i < k → is_met (names_from (i + 1) n) (number_name k) ≡ ltb k (i + 1 + n)) → (b : Bool) → eqb i k ≡ b
        → is_met (names_from i (suc n)) (number_name k) ≡ ltb k (i + suc n)
    go ih true e =
        let d = eqb-true i k e in
        ap (λ b. cond b true (is_met (names_from (i + 1) n) (number_name k))) (same_name i k d)
        ∙ sym (lt-ltb k (i + suc n) (omega arith))
    go ih false e =
        let ne = eqb-false i k e in
        let m : i + 1 + n ≡ i + suc n = omega arith in
        ap (λ b. cond b true (is_met (names_from (i + 1) n) (number_name k))) (other_name i k (omega arith) l ne)
        ∙ ih (omega arith) ∙ ap (ltb k) m

one_more_name : (n i k : ℕ) → k ≡ i + n → names_from i n ++ number_name k ∷ [] ≡ names_from i (suc n)
one_more_name zero i k e =
    let d : k ≡ i = omega arith in
    ap (λ j. number_name j ∷ []) d
one_more_name (suc n) i k e = ap (λ l. number_name i ∷ l) (one_more_name n (i + 1) k (omega arith))

-- the number of a name among the first n, or of the next one
pub number_of_name : (n k : ℕ) → k ≤ n → k < 2 ^ 64 → number_of (names_from 0 n) (number_name k) ≡ k
number_of_name n k p l =
    ap (λ b. cond b (length (names_from 0 n)) (place_from 0 (names_from 0 n) (number_name k))) (name_not_lone k l)
    ∙ place_of_name n 0 k (omega arith) (omega arith) l

pub meets_name : (n k : ℕ) → k ≤ n → k < 2 ^ 64
    → meets (names_from 0 n) (number_name k) ≡ names_from 0 (cond (ltb k n) n (suc n))
meets_name n k p l =
    let z : 0 + n ≡ n = omega arith in
    ap (λ b. cond b (names_from 0 n ++ number_name k ∷ [])
    (cond (is_met (names_from 0 n) (number_name k)) (names_from 0 n) (names_from 0 n ++ number_name k ∷ [])))
    (name_not_lone k l)
    ∙ ap (λ b. cond b (names_from 0 n) (names_from 0 n ++ number_name k ∷ []))
    (met_name n 0 k (omega arith) l ∙ ap (ltb k) z)
    ∙ go (ltb k n) refl
  where
    go : (b : Bool) → ltb k n ≡ b
        → cond b (names_from 0 n) (names_from 0 n ++ number_name k ∷ []) ≡ names_from 0 (cond b n (suc n))
    go true e = refl
    go false e = one_more_name n 0 k (omega (arith, ltb-false k n e))
