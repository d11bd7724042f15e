-- Membership in a list of variables, a list without a variable, and what holds of every variable of a term.
use Rattle.std.proofs.Common.{◌≡◌, ℕ, ◌<◌, ◌≤◌, false, eqb, List, [], ◌∷◌, ◌++◌, length, sym, refl, ◌∙◌, subst, inl}
use Rattle.std.proofs.Common.{inr, arith}
use Rattle.std.proofs.lemmas.Bool.{eqb-true, eqb-false, ne_eqb, cond_both}
use Rattle.terms.specs.Term.{Term, Terms, var, int, app, nil, cons}
use Rattle.unification.specs.Substitution.{All, Alls, In, vars, varss}
use Rattle.unification.specs.Chain.{without}

pub in_left : (xs ys : List ℕ) (y : ℕ) → In xs y → In (xs ++ ys) y
in_left [] ys y i = elim i [ ]
in_left (x ∷ xs) ys y (inl p) = inl p
in_left (x ∷ xs) ys y (inr i) = inr (in_left xs ys y i)

pub in_right : (xs ys : List ℕ) (y : ℕ) → In ys y → In (xs ++ ys) y
in_right [] ys y i = i
in_right (x ∷ xs) ys y i = inr (in_right xs ys y i)

pub in_append : (xs ys : List ℕ) (P : ℕ → Type 0) → ((y : ℕ) → In xs y → P y) → ((y : ℕ) → In ys y → P y)
    → (y : ℕ) → In (xs ++ ys) y → P y
in_append [] ys P h k y i = k y i
in_append (x ∷ xs) ys P h k y (inl p) = h y (inl p)
in_append (x ∷ xs) ys P h k y (inr i) = in_append xs ys P (λ z j. h z (inr j)) k y i

-- a list without x keeps the others, has lost x, has nothing new, and is shorter
pub without_keeps : (x y : ℕ) (vs : List ℕ) → eqb x y ≡ false → In vs y → In (without x vs) y
without_keeps x y [] n i = elim i [ ]
without_keeps x y (v ∷ vs) n i =
    cond_both (eqb x v) (without x vs) (v ∷ without x vs) (λ ws. In ws y)
    (λ e. elim i [ inl p ↦ absurd (eqb-false x y n (eqb-true x v e ∙ p)) | inr j ↦ without_keeps x y vs n j ])
    (λ e. elim i [ inl p ↦ inl p | inr j ↦ inr (without_keeps x y vs n j) ])

pub without_lost : (x : ℕ) (vs : List ℕ) → In (without x vs) x → ⊥
without_lost x [] i = i
without_lost x (v ∷ vs) i =
    cond_both (eqb x v) (without x vs) (v ∷ without x vs) (λ ws. In ws x → ⊥) (λ e. without_lost x vs)
    (λ e j. elim j [ inl p ↦ eqb-false x v e (sym p) | inr k ↦ without_lost x vs k ]) i

pub without_old : (x y : ℕ) (vs : List ℕ) → In (without x vs) y → In vs y
without_old x y [] i = elim i [ ]
without_old x y (v ∷ vs) i =
    cond_both (eqb x v) (without x vs) (v ∷ without x vs) (λ ws. In ws y → In (v ∷ vs) y)
    (λ e j. inr (without_old x y vs j))
    (λ e j. elim j [ inl p ↦ inl p | inr k ↦ inr (without_old x y vs k) ]) i

without_no_longer : (x : ℕ) (vs : List ℕ) → length (without x vs) ≤ length vs
without_no_longer x [] = omega arith
without_no_longer x (v ∷ vs) =
    let l = without_no_longer x vs in
    cond_both (eqb x v) (without x vs) (v ∷ without x vs) (λ ws. length ws ≤ length (v ∷ vs))
    (λ e. omega arith) (λ e. omega arith)

pub without_shorter : (x : ℕ) (vs : List ℕ) → In vs x → length (without x vs) < length vs
without_shorter x [] i = elim i [ ]
without_shorter x (v ∷ vs) i =
    let l = without_no_longer x vs in
    cond_both (eqb x v) (without x vs) (v ∷ without x vs) (λ ws. length ws < length (v ∷ vs)) (λ e. omega arith)
    (λ e. elim i [
      | inl p ↦ absurd (eqb-false x v e (sym p))
      | inr j ↦ let k = without_shorter x vs j in omega arith
    ])

pub without_within : (x : ℕ) (vs ws : List ℕ) → ((y : ℕ) → In vs y → In ws y)
    → (y : ℕ) → In (without x vs) y → In (without x ws) y
without_within x vs ws h y i =
    without_keeps x y ws (ne_eqb x y (λ e. without_lost x vs (subst (In (without x vs)) (sym e) i)))
    (h y (without_old x y vs i))

-- what holds of every variable of a term holds of each in the list of its variables, and the other way round
mutual
  pub all_in : (P : ℕ → Type 0) (t : Term) → ((y : ℕ) → In (vars t) y → P y) → All P t
  all_in P (var x) h = h x (inl refl)
  all_in P (int i) h = tt
  all_in P (app f ts) h = alls_in P ts h

  alls_in : (P : ℕ → Type 0) (ts : Terms) → ((y : ℕ) → In (varss ts) y → P y) → Alls P ts
  alls_in P nil h = tt
  alls_in P (cons t ts) h = (
    all_in P t (λ y i. h y (in_left (vars t) (varss ts) y i)),
    alls_in P ts (λ y i. h y (in_right (vars t) (varss ts) y i)),
  )

mutual
  pub all_at : (P : ℕ → Type 0) (t : Term) → All P t → (y : ℕ) → In (vars t) y → P y
  all_at P (var x) a y (inl p) = subst P p a
  all_at P (var x) a y (inr i) = elim i [ ]
  all_at P (int j) a y i = elim i [ ]
  all_at P (app f ts) a y i = alls_at P ts a y i

  alls_at : (P : ℕ → Type 0) (ts : Terms) → Alls P ts → (y : ℕ) → In (varss ts) y → P y
  alls_at P nil a y i = elim i [ ]
  alls_at P (cons t ts) a y i = in_append (vars t) (varss ts) P (all_at P t a.0) (alls_at P ts a.1) y i

pub all_any : (P : ℕ → Type 0) → ((y : ℕ) → P y) → (t : Term) → All P t
all_any P h t = all_in P t (λ y i. h y)

pub all_map : (P Q : ℕ → Type 0) → ((y : ℕ) → P y → Q y) → (t : Term) → All P t → All Q t
all_map P Q h t a = all_in Q t (λ y i. h y (all_at P t a y i))

pub all_left : (s t : Term) → All (In (vars s ++ vars t)) s
all_left s t = all_in (In (vars s ++ vars t)) s (in_left (vars s) (vars t))

pub all_right : (s t : Term) → All (In (vars s ++ vars t)) t
all_right s t = all_in (In (vars s ++ vars t)) t (in_right (vars s) (vars t))
