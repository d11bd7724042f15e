-- Tests of all bytes of a name, and doubled quotes, one byte after another.
use Rattle.std.proofs.Common.{◌≡◌, ℕ, ◌+◌, ◌<◌, ◌≤◌, Bool, true, false, cond, ◌&&◌, eqb, suc, ◌≢◌, List, [], ◌∷◌, ◌++◌, length}
use Rattle.std.proofs.Common.{get_or, take, drop, sym, refl, ap, ◌∙◌, arith}
use Rattle.std.specs.List.{list_all}
use Rattle.std.proofs.Math.Bool.{and-false}
use Rattle.std.proofs.lemmas.List.{take_more, take-append-drop, length-append}
use Rattle.tokens.specs.Bytes.{quote, same}
use Rattle.writing.specs.Writing.{all, doubled}

pub all_listed : (f : ℕ → Bool) (xs : List ℕ) → all f xs ≡ list_all f xs
all_listed f [] = refl
all_listed f (x ∷ xs) = ap (λ b. f x && b) (all_listed f xs)

pub doubled_append : (xs ys : List ℕ) → doubled (xs ++ ys) ≡ doubled xs ++ doubled ys
doubled_append [] ys = refl
doubled_append (x ∷ xs) ys =
    ap (λ s. cond (quote x) (x ∷ x ∷ s) (x ∷ s)) (doubled_append xs ys) ∙ go (quote x)
  where
    go : (b : Bool) → cond b (x ∷ x ∷ (doubled xs ++ doubled ys)) (x ∷ (doubled xs ++ doubled ys))
        ≡ cond b (x ∷ x ∷ doubled xs) (x ∷ doubled xs) ++ doubled ys
    go true = refl
    go false = refl

pub doubled_more : (xs : List ℕ) (i : ℕ) → i < length xs
    → doubled (take i xs) ++ doubled (get_or xs i 0 ∷ []) ≡ doubled (take (i + 1) xs)
doubled_more xs i l = sym (ap doubled (take_more xs i 0 l) ∙ doubled_append (take i xs) (get_or xs i 0 ∷ []))

pub doubled_front : (xs : List ℕ) (i : ℕ) → i < length xs
    → length (doubled (take i xs) ++ doubled (get_or xs i 0 ∷ [])) ≤ length (doubled xs)
doubled_front xs i l =
    let a = ap length (doubled_more xs i l) in
    let b = ap (λ s. length (doubled s)) (take-append-drop (i + 1) xs) in
    let c = ap length (doubled_append (take (i + 1) xs) (drop (i + 1) xs)) in
    let d = length-append (doubled (take (i + 1) xs)) (doubled (drop (i + 1) xs)) in
    omega arith

-- texts of different lengths differ
pub same_of_lengths : (xs ys : List ℕ) → length xs ≢ length ys → same xs ys ≡ false
same_of_lengths [] [] n = absurd (n refl)
same_of_lengths [] (y ∷ ys) n = refl
same_of_lengths (x ∷ xs) [] n = refl
same_of_lengths (x ∷ xs) (y ∷ ys) n =
    ap (λ b. eqb x y && b) (same_of_lengths xs ys (λ e. n (ap suc e))) ∙ and-false (eqb x y)
