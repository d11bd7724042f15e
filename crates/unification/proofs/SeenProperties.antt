-- The variables seen in a term: each of the term's own is among them, nothing else is, and each has its own place.
use Rattle.std.proofs.Common.{◌≡◌, ℕ, suc, ◌<◌, false, eqb, List, [], ◌∷◌, length, get_or, sym, refl, ap, ◌∙◌, subst}
use Rattle.std.proofs.Common.{inl, inr, arith}
use Rattle.std.proofs.lemmas.Bool.{eqb-true, eqb-false, cond_both}
use Rattle.terms.specs.Term.{Term, Terms, var, int, app, nil, cons}
use Rattle.unification.specs.Substitution.{All, Alls, In}
use Rattle.unification.specs.Copies.{place, meet, seen, seens}
use Rattle.unification.proofs.VariablesProperties.{all_map}

-- what is met is there, and what was there stays
meet_here : (ys : List ℕ) (x : ℕ) → In (meet ys x) x
meet_here [] x = inl refl
meet_here (y ∷ ys) x =
    cond_both (eqb y x) (y ∷ ys) (y ∷ meet ys x) (λ zs. In zs x) (λ e. inl (eqb-true y x e))
    (λ e. inr (meet_here ys x))

meet_keeps : (ys : List ℕ) (x z : ℕ) → In ys z → In (meet ys x) z
meet_keeps [] x z i = elim i [ ]
meet_keeps (y ∷ ys) x z i =
    cond_both (eqb y x) (y ∷ ys) (y ∷ meet ys x) (λ zs. In zs z) (λ e. i)
    (λ e. elim i [ inl p ↦ inl p | inr j ↦ inr (meet_keeps ys x z j) ])

mutual
  seen_keeps : (ys : List ℕ) (z : ℕ) (t : Term) → In ys z → In (seen ys t) z
  seen_keeps ys z (var x) i = meet_keeps ys x z i
  seen_keeps ys z (int n) i = i
  seen_keeps ys z (app f ts) i = seens_keeps ys z ts i

  seens_keeps : (ys : List ℕ) (z : ℕ) (ts : Terms) → In ys z → In (seens ys ts) z
  seens_keeps ys z nil i = i
  seens_keeps ys z (cons t ts) i = seens_keeps (seen ys t) z ts (seen_keeps ys z t i)

mutual
  pub seen_all : (ys : List ℕ) (t : Term) → All (In (seen ys t)) t
  seen_all ys (var x) = meet_here ys x
  seen_all ys (int n) = tt
  seen_all ys (app f ts) = seens_alls ys ts

  seens_alls : (ys : List ℕ) (ts : Terms) → Alls (In (seens ys ts)) ts
  seens_alls ys nil = tt
  seens_alls ys (cons t ts) =
      let zs = seen ys t in (
        all_map (In zs) (In (seens zs ts)) (λ z. seens_keeps zs z ts) t (seen_all ys t),
        seens_alls zs ts,
      )

-- all of the list are such
abbrev pub Within : (ℕ → Type 0) → List ℕ → Type 0
Within P ys = (y : ℕ) → In ys y → P y

meet_within : (P : ℕ → Type 0) (ys : List ℕ) (x : ℕ) → Within P ys → P x → Within P (meet ys x)
meet_within P [] x h p = λ z i. elim i [ inl e ↦ subst P e p | inr j ↦ elim j [ ] ]
meet_within P (y ∷ ys) x h p =
    cond_both (eqb y x) (y ∷ ys) (y ∷ meet ys x) (Within P) (λ e. h)
    (λ e z i. elim i [ inl q ↦ h z (inl q) | inr j ↦ meet_within P ys x (λ w k. h w (inr k)) p z j ])

mutual
  pub seen_within : (P : ℕ → Type 0) (ys : List ℕ) (t : Term) → Within P ys → All P t → Within P (seen ys t)
  seen_within P ys (var x) h a = meet_within P ys x h a
  seen_within P ys (int n) h a = h
  seen_within P ys (app f ts) h a = seens_within P ys ts h a

  seens_within : (P : ℕ → Type 0) (ys : List ℕ) (ts : Terms) → Within P ys → Alls P ts → Within P (seens ys ts)
  seens_within P ys nil h a = h
  seens_within P ys (cons t ts) h a = seens_within P (seen ys t) ts (seen_within P ys t h a.0) a.1

-- each has a place of its own
behind : (y x : ℕ) (ys : List ℕ) → eqb y x ≡ false → In (y ∷ ys) x → In ys x
behind y x ys e (inl p) = absurd (eqb-false y x e p)
behind y x ys e (inr i) = i

pub place_below : (ys : List ℕ) (x : ℕ) → In ys x → place ys x < length ys
place_below [] x i = elim i [ ]
place_below (y ∷ ys) x i =
    cond_both (eqb y x) 0 (suc (place ys x)) (λ k. k < length (y ∷ ys)) (λ e. omega arith)
    (λ e. let k = place_below ys x (behind y x ys e i) in omega arith)

pub place_at : (ys : List ℕ) (x : ℕ) → In ys x → get_or ys (place ys x) 0 ≡ x
place_at [] x i = elim i [ ]
place_at (y ∷ ys) x i =
    cond_both (eqb y x) 0 (suc (place ys x)) (λ k. get_or (y ∷ ys) k 0 ≡ x) (eqb-true y x)
    (λ e. place_at ys x (behind y x ys e i))

pub place_own : (ys : List ℕ) (x z : ℕ) → In ys x → In ys z → place ys x ≡ place ys z → x ≡ z
place_own ys x z i j e = sym (place_at ys x i) ∙ ap (λ k. get_or ys k 0) e ∙ place_at ys z j
