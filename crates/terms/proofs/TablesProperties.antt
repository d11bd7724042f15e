-- In a table of names a known name is told by its place.
use Rattle.std.proofs.Common.{◌≡◌, ℕ, ◌<◌, ◌≤◌, Bool, true, false, not, ◌||◌, eqb, List, [], ◌∷◌, length, get_or, sym}
use Rattle.std.proofs.Common.{refl, ap, ◌∙◌, inl, inr, arith, lit<}
use Rattle.std.proofs.lemmas.List.{length-take, get_or-take, get_or_past}
use Rattle.std.proofs.lemmas.Bool.{eqb-true, eq-eqb, ne_eqb, and_parts, and_from, or_from, or_cases, not-true}
use Rattle.std.proofs.lemmas.Bool.{both_ways, cases_Bool, cases_lt, cases_eq}
use Rattle.terms.specs.Known.{known, semicolon_name}
use Rattle.terms.specs.Goals.{same, is_control}
use Rattle.terms.specs.Copies.{Standard}
use Rattle.terms.specs.Tables.{Tabled}
use Rattle.terms.proofs.Every.{every, every_at}

pub same_true : (xs ys : List ℕ) → same xs ys ≡ true → xs ≡ ys
same_true [] [] e = refl
same_true [] (y ∷ ys) e = let z : ◌≡◌ {A = ℕ} 0 1 = cc in absurd (omega arith)
same_true (x ∷ xs) [] e = let z : ◌≡◌ {A = ℕ} 0 1 = cc in absurd (omega arith)
same_true (x ∷ xs) (y ∷ ys) e =
    let two = and_parts (eqb x y) (same xs ys) e in
    ap (λ n. n ∷ xs) (eqb-true x y two.0) ∙ ap (λ l. y ∷ l) (same_true xs ys two.1)

pub same_refl : (xs : List ℕ) → same xs xs ≡ true
same_refl [] = refl
same_refl (x ∷ xs) = and_from (eqb x x) (same xs xs) (eq-eqb x x refl) (same_refl xs)

pub same_eq : (xs ys : List ℕ) → xs ≡ ys → same xs ys ≡ true
same_eq xs ys e = ap (same xs) (sym e) ∙ same_refl xs

pub tabled_length : (ns : List (List ℕ)) → Tabled ns → 48 ≤ length ns
tabled_length ns t = let a = ap length t.begins in let b = length-take 48 ns in omega arith

pub tabled_known : (ns : List (List ℕ)) → Tabled ns → (k : ℕ) → k < 48 → get_or ns k [] ≡ get_or known k []
tabled_known ns t k l = sym (get_or-take 48 ns k [] l) ∙ ap (λ l. get_or l k []) t.begins

-- a name of the table is a known one only at its place
pub tabled_same : (ns : List (List ℕ)) → Tabled ns → (f k : ℕ) → f < length ns → k < 48
    → same (get_or ns f []) (get_or known k []) ≡ eqb f k
tabled_same ns t f k l m = elim (cases_eq f k) [ inl e ↦ here e | inr n ↦ elsewhere n ]
  where
    here : f ≡ k → same (get_or ns f []) (get_or known k []) ≡ eqb f k
    here e =
        same_eq (get_or ns f []) (get_or known k []) (ap (λ i. get_or ns i []) e ∙ tabled_known ns t k m)
        ∙ sym (eq-eqb f k e)

    elsewhere : (f ≡ k → ⊥) → same (get_or ns f []) (get_or known k []) ≡ eqb f k
    elsewhere n =
        let far = tabled_length ns t in
        elim (cases_Bool (same (get_or ns f []) (get_or known k []))) [
          | inl e ↦ absurd (n (t.once f k l (omega arith) (same_true (get_or ns f []) (get_or known k []) e
              ∙ sym (tabled_known ns t k m))))
          | inr e ↦ e ∙ sym (ne_eqb f k n)
        ]

pub tabled_standard : (ns : List (List ℕ)) → Tabled ns → Standard ns
tabled_standard ns t = record { call = tabled_known ns t 6 (lit< tt); control = control }
  where
    past : (f : ℕ) → length ns ≤ f → (eqb f 3 || eqb f 4) ≡ false
    past f m =
        let far = tabled_length ns t in
        or_from (eqb f 3) (eqb f 4) (ne_eqb f 3 (λ e. omega arith)) (ne_eqb f 4 (λ e. omega arith))

    control : (f : ℕ) → is_control (get_or ns f []) ≡ (eqb f 3 || eqb f 4)
    control f =
        elim (cases_lt f (length ns)) [
          | inl l ↦ ap (λ b. b || same (get_or ns f []) semicolon_name) (tabled_same ns t f 3 l (lit< tt))
              ∙ ap (λ b. eqb f 3 || b) (tabled_same ns t f 4 l (lit< tt))
          | inr m ↦ ap is_control (get_or_past ns f [] m) ∙ sym (past f m)
        ]

abbrev apart : ℕ → ℕ → Bool
apart i j = eqb i j || not (same (get_or known i []) (get_or known j []))

all_apart : every 48 (λ i. every 48 (apart i)) ≡ true
all_apart = refl

-- the known names alone are a table
pub known_tabled : Tabled known
known_tabled = record { begins = refl; once = once }
  where
    once : (i j : ℕ) → i < 48 → j < 48 → get_or known i [] ≡ get_or known j [] → i ≡ j
    once i j l m e =
        let a = get_or known i [] in
        let b = get_or known j [] in
        let here = every_at 48 (apart i) (every_at 48 (λ k. every 48 (apart k)) all_apart i l) j m in
        elim (or_cases (eqb i j) (not (same a b)) here) [
          | inl eq ↦ eqb-true i j eq
          | inr ne ↦ absurd (both_ways (same a b) (not-true (same a b) ne) (same_eq a b e))
        ]
