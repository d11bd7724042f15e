-- Terms that differ in the numbers of variables alone have one copy; sizes, widths and shifts of copies.
use Rattle.std.proofs.Common.{◌≡◌, ℕ, suc, ◌+◌, ◌<◌, ◌≤◌, Bool, true, false, cond, eqb, List, [], ◌∷◌, map, length}
use Rattle.std.proofs.Common.{get_or, sym, refl, ap, ◌∙◌, ap₂, inl, inr, zero-add, arith}
use lib.ListN.{length-map}
use Rattle.std.proofs.lemmas.Bool.{eq-eqb, ne_eqb, cases_eq}
use Rattle.terms.specs.Term.{Term, Terms, var, int, app, nil, cons, size, sizes}
use Rattle.unification.specs.Substitution.{Sub, inst, insts, All, Alls, In, vars}
use Rattle.unification.specs.Copies.{place, meet, seen, seens, width, numbered, copy_from, copy, later, shift}
use Rattle.unification.proofs.VariablesProperties.{all_in, all_any, all_map}
use Rattle.unification.proofs.InstProperties.{all_inst, inst_inst, inst_var}
use Rattle.unification.proofs.SeenProperties.{seen_all, Within, seen_within, place_below, place_at, place_own}

-- a renaming, as a substitution
abbrev renaming : (ℕ → ℕ) → Sub
renaming f x = var (f x)

eqb_renamed : (f : ℕ → ℕ) (x y : ℕ) → (f x ≡ f y → x ≡ y) → eqb (f x) (f y) ≡ eqb x y
eqb_renamed f x y h =
    elim (cases_eq x y) [
      | inl e ↦ eq-eqb (f x) (f y) (ap f e) ∙ sym (eq-eqb x y e)
      | inr n ↦ ne_eqb (f x) (f y) (λ e. n (h e)) ∙ sym (ne_eqb x y n)
    ]

-- f makes no two variables of the kind P one
module _ (P : ℕ → Type 0) (f : ℕ → ℕ) (own : (x y : ℕ) → P x → P y → f x ≡ f y → x ≡ y) where
  meet_map : (ys : List ℕ) (x : ℕ) → Within P ys → P x → meet (map f ys) (f x) ≡ map f (meet ys x)
  meet_map [] x h p = refl
  meet_map (y ∷ ys) x h p =
      rw (eqb_renamed f y x (own y x (h y (inl refl)) p)) (go (eqb y x) (meet_map ys x (λ z i. h z (inr i)) p))
    where
      go : (b : Bool) → meet (map f ys) (f x) ≡ map f (meet ys x)
          → cond b (f y ∷ map f ys) (f y ∷ meet (map f ys) (f x)) ≡ map f (cond b (y ∷ ys) (y ∷ meet ys x))
      go true e = refl
      go false e = ap (λ zs. f y ∷ zs) e

  place_map : (ys : List ℕ) (x : ℕ) → Within P ys → P x → place (map f ys) (f x) ≡ place ys x
  place_map [] x h p = refl
  place_map (y ∷ ys) x h p =
      rw (eqb_renamed f y x (own y x (h y (inl refl)) p), place_map ys x (λ z i. h z (inr i)) p)

  mutual
    seen_map : (ys : List ℕ) (t : Term) → Within P ys → All P t
        → seen (map f ys) (inst (renaming f) t) ≡ map f (seen ys t)
    seen_map ys (var x) h a = meet_map ys x h a
    seen_map ys (int n) h a = refl
    seen_map ys (app g ts) h a = seens_map ys ts h a

    seens_map : (ys : List ℕ) (ts : Terms) → Within P ys → Alls P ts
        → seens (map f ys) (insts (renaming f) ts) ≡ map f (seens ys ts)
    seens_map ys nil h a = refl
    seens_map ys (cons t ts) h a =
        ap (λ zs. seens zs (insts (renaming f) ts)) (seen_map ys t h a.0)
        ∙ seens_map (seen ys t) ts (seen_within P ys t h a.0) a.1

  nothing_within : Within P []
  nothing_within y i = elim i [ ]

  copy_renaming : (n : ℕ) (t : Term) → All P t → copy_from n (inst (renaming f) t) ≡ copy_from n t
  copy_renaming n t a =
      let ys = seen [] t in
      let within = seen_within P [] t nothing_within a in
      let same : All (λ x. numbered n (map f ys) (f x) ≡ numbered n ys x) t =
      all_map P (λ x. numbered n (map f ys) (f x) ≡ numbered n ys x)
      (λ x p. ap (λ k. var (n + k)) (place_map ys x within p)) t a in
      ap (λ zs. inst (numbered n zs) (inst (renaming f) t)) (seen_map [] t nothing_within a)
      ∙ inst_inst (numbered n (map f ys)) (renaming f) (numbered n ys) t same

  width_renaming : (t : Term) → All P t → width (inst (renaming f) t) ≡ width t
  width_renaming t a = ap length (seen_map [] t nothing_within a) ∙ length-map (seen [] t) f

-- over the variables of the term
pub copy_from_renamed : (n : ℕ) (f : ℕ → ℕ) (t : Term)
    → ((x y : ℕ) → In (vars t) x → In (vars t) y → f x ≡ f y → x ≡ y)
    → copy_from n (inst (λ x. var (f x)) t) ≡ copy_from n t
copy_from_renamed n f t own = copy_renaming (In (vars t)) f own n t (all_in (In (vars t)) t (λ y i. i))

numbered_own : (n : ℕ) (ys : List ℕ) (x y : ℕ) → In ys x → In ys y → n + place ys x ≡ n + place ys y → x ≡ y
numbered_own n ys x y i j e = place_own ys x y i j (omega arith)

pub copy_from_copy_from : (m n : ℕ) (t : Term) → copy_from m (copy_from n t) ≡ copy_from m t
copy_from_copy_from m n t =
    let ys = seen [] t in
    copy_renaming (In ys) (λ x. n + place ys x) (numbered_own n ys) m t (seen_all [] t)

pub copy_copy : (t : Term) → copy (copy t) ≡ copy t
copy_copy = copy_from_copy_from 0 0

pub copy_shift : (n : ℕ) (t : Term) → copy (shift n t) ≡ copy t
copy_shift n t = copy_from_renamed 0 (λ x. n + x) t (λ x y i j e. omega arith)

pub copy_recovered : (t : Term) → inst (λ x. var (get_or (seen [] t) x 0)) (copy t) ≡ t
copy_recovered t =
    let ys = seen [] t in
    let back : Sub = λ x. var (get_or ys x 0) in
    let same : All (λ y. back (0 + place ys y) ≡ var y) t =
    all_map (In ys) (λ y. back (0 + place ys y) ≡ var y)
    (λ y i. ap back (zero-add (place ys y)) ∙ ap var (place_at ys y i)) t (seen_all [] t) in
    inst_inst back (numbered 0 ys) var t same ∙ inst_var t

pub copy_from_width : (n : ℕ) (t : Term) → width (copy_from n t) ≡ width t
copy_from_width n t =
    let ys = seen [] t in
    width_renaming (In ys) (λ x. n + place ys x) (numbered_own n ys) t (seen_all [] t)

pub copy_from_shift : (n : ℕ) (t : Term) → copy_from n t ≡ shift n (copy t)
copy_from_shift n t =
    let ys = seen [] t in
    let moved : ℕ → Type 0 = λ y. inst (later n) (numbered 0 ys y) ≡ numbered n ys y in
    sym (inst_inst (later n) (numbered 0 ys) (numbered n ys) t
    (all_any moved (λ y. ap (λ k. var (n + k)) (zero-add (place ys y))) t))

mutual
  size_renaming : (f : ℕ → ℕ) (t : Term) → size (inst (renaming f) t) ≡ size t
  size_renaming f (var x) = refl
  size_renaming f (int i) = refl
  size_renaming f (app g ts) = ap suc (sizes_renaming f ts)

  sizes_renaming : (f : ℕ → ℕ) (ts : Terms) → sizes (insts (renaming f) ts) ≡ sizes ts
  sizes_renaming f nil = refl
  sizes_renaming f (cons t ts) = ap₂ ◌+◌ (size_renaming f t) (sizes_renaming f ts)

pub copy_from_size : (n : ℕ) (t : Term) → size (copy_from n t) ≡ size t
copy_from_size n t = size_renaming (λ x. n + place (seen [] t) x) t

pub shift_size : (n : ℕ) (t : Term) → size (shift n t) ≡ size t
shift_size n t = size_renaming (λ x. n + x) t

pub copy_from_vars : (n : ℕ) (t : Term) → All (λ x. (n ≤ x) × (x < n + width t)) (copy_from n t)
copy_from_vars n t =
    let ys = seen [] t in
    let P : ℕ → Type 0 = λ x. (n ≤ x) × (x < n + length ys) in
    all_inst P (numbered n ys) t
    (all_map (In ys) (λ y. P (n + place ys y)) (λ y i. let l = place_below ys y i in (omega arith, omega arith)) t
    (seen_all [] t))
