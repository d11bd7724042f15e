-- Well-formed bindings: together and in parts, what they leave unbound, and that they agree with themselves.
use Rattle.std.proofs.Common.{◌≡◌, ℕ, ◌+◌, ◌≤◌, true, cond, eqb, List, [], ◌∷◌, ◌++◌, length, sym, refl, ap, ◌∙◌, subst}
use Rattle.std.proofs.Common.{inl, inr, arith}
use Rattle.std.proofs.lemmas.Bool.{eq-eqb, ne_eqb, cond_both}
use Rattle.terms.specs.Term.{Term, Terms, var, app}
use Rattle.unification.specs.Substitution.{Sub, inst, one, bind, Bindings, apply, applys, domain, All, Alls, In, lacks}
use Rattle.unification.specs.Chain.{without, Chain, left, Follows}
use Rattle.unification.proofs.VariablesProperties.{without_keeps, without_lost, without_old, without_shorter}
use Rattle.unification.proofs.VariablesProperties.{without_within, all_map}
use Rattle.unification.proofs.InstProperties.{all_inst, inst_same}
use Rattle.unification.proofs.BindingsProperties.{as_sub, apply_inst, apply_app, follows_apply}
use Rattle.unification.proofs.OccursProperties.{all_lacks}

pub chain_append : (vs : List ℕ) (σ τ : Bindings) → Chain vs σ → Chain (left vs σ) τ → Chain vs (σ ++ τ)
chain_append vs [] τ c d = d
chain_append vs (bind x u ∷ σ) τ c d = (c.0, c.1, chain_append (without x vs) σ τ c.2 d)

pub chain_front : (vs : List ℕ) (σ τ : Bindings) → Chain vs (σ ++ τ) → Chain vs σ
chain_front vs [] τ c = tt
chain_front vs (bind x u ∷ σ) τ c = (c.0, c.1, chain_front (without x vs) σ τ c.2)

-- with more variables
pub chain_widen : (vs ws : List ℕ) (σ : Bindings) → ((y : ℕ) → In vs y → In ws y) → Chain vs σ → Chain ws σ
chain_widen vs ws [] h c = tt
chain_widen vs ws (bind x u ∷ σ) h c =
    let within = without_within x vs ws h in (
      h x c.0,
      all_map (In (without x vs)) (In (without x ws)) within u c.1,
      chain_widen (without x vs) (without x ws) σ within c.2,
    )

-- each binding takes a variable
pub chain_length : (vs : List ℕ) (σ : Bindings) → Chain vs σ → length (left vs σ) + length σ ≤ length vs
chain_length vs [] c = omega arith
chain_length vs (bind x u ∷ σ) c =
    let k = without_shorter x vs c.0 in
    let h = chain_length (without x vs) σ c.2 in
    omega arith

-- a term has only unbound variables under the bindings
one_all : (x : ℕ) (u : Term) (vs : List ℕ) → All (In (without x vs)) u
    → (y : ℕ) → In vs y → All (In (without x vs)) (one x u y)
one_all x u vs a y i =
    cond_both (eqb x y) u (var y) (All (In (without x vs))) (λ e. a) (λ e. without_keeps x y vs e i)

pub chain_all : (vs : List ℕ) (σ : Bindings) → Chain vs σ
    → (t : Term) → All (In vs) t → All (In (left vs σ)) (apply σ t)
chain_all vs [] c t a = a
chain_all vs (bind x u ∷ σ) c t a =
    let ws = without x vs in
    let fresh = all_map (In vs) (λ y. All (In ws) (one x u y)) (one_all x u vs c.1) t a in
    chain_all ws σ c.2 (inst (one x u) t) (all_inst (In ws) (one x u) t fresh)

pub chain_alls : (vs : List ℕ) (σ : Bindings) → Chain vs σ
    → (ts : Terms) → Alls (In vs) ts → Alls (In (left vs σ)) (applys σ ts)
chain_alls vs σ c ts a = subst (All (In (left vs σ))) (apply_app σ [] ts) (chain_all vs σ c (app [] ts) a)

pub left_old : (vs : List ℕ) (σ : Bindings) (y : ℕ) → In (left vs σ) y → In vs y
left_old vs [] y i = i
left_old vs (bind x u ∷ σ) y i = without_old x y vs (left_old (without x vs) σ y i)

pub bound_not_left : (vs : List ℕ) (σ : Bindings) (x : ℕ) → In (domain σ) x → In (left vs σ) x → ⊥
bound_not_left vs [] x d i = elim d [ ]
bound_not_left vs (bind y u ∷ σ) x (inl p) i =
    let ws = without y vs in
    without_lost y vs (subst (In ws) (sym p) (left_old ws σ x i))
bound_not_left vs (bind y u ∷ σ) x (inr d) i = bound_not_left (without y vs) σ x d i

pub chain_resolved : (vs : List ℕ) (σ : Bindings) → Chain vs σ → (x : ℕ) → In (domain σ) x
    → (t : Term) → All (In vs) t → lacks x (apply σ t) ≡ true
chain_resolved vs σ c x d t a =
    all_lacks x (left vs σ) (bound_not_left vs σ x d) (apply σ t) (chain_all vs σ c t a)

-- whether a substitution agrees depends on these variables alone
follows_same : (θ φ : Sub) (vs : List ℕ) (σ : Bindings) → Chain vs σ → ((y : ℕ) → In vs y → θ y ≡ φ y)
    → Follows θ σ → Follows φ σ
follows_same θ φ vs [] c h f = tt
follows_same θ φ vs (bind x u ∷ σ) c h f =
    let ws = without x vs in
    let k : (y : ℕ) → In ws y → θ y ≡ φ y = λ y i. h y (without_old x y vs i) in (
      sym (h x c.0) ∙ f.0 ∙ inst_same θ φ u (all_map (In ws) (λ y. θ y ≡ φ y) k u c.1),
      follows_same θ φ ws σ c.2 k f.1,
    )

-- bindings, as a substitution, agree with themselves
pub chain_follows : (vs : List ℕ) (σ : Bindings) → Chain vs σ → Follows (as_sub σ) σ
chain_follows vs [] c = tt
chain_follows vs (bind x u ∷ σ) c = (
  ap (λ b. apply σ (cond b u (var x))) (eq-eqb x x refl)
      ∙ apply_inst σ u
      ∙ inst_same (as_sub σ) θ u (all_map (In ws) (λ y. as_sub σ y ≡ θ y) agree u c.1),
  follows_same (as_sub σ) θ ws σ c.2 agree (chain_follows ws σ c.2),
)
  where
    ws : List ℕ
    ws = without x vs

    θ : Sub
    θ = as_sub (bind x u ∷ σ)

    agree : (y : ℕ) → In ws y → as_sub σ y ≡ θ y
    agree y i =
        ap (λ b. apply σ (cond b u (var y)))
        (sym (ne_eqb x y (λ e. without_lost x vs (subst (In ws) (sym e) i))))

-- so applying them twice changes nothing
pub apply_apply : (vs : List ℕ) (σ : Bindings) → Chain vs σ → (t : Term) → apply σ (apply σ t) ≡ apply σ t
apply_apply vs σ c t =
    apply_inst σ (apply σ t) ∙ follows_apply (as_sub σ) σ (chain_follows vs σ c) t ∙ sym (apply_inst σ t)
