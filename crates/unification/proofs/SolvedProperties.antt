-- What an answer of unification says of all substitutions: one indexed type for terms and argument lists.
use Rattle.std.proofs.Common.{◌≡◌, ℕ, true, false, cond, eqb, List, [], ◌∷◌, sym, refl, ap, ◌∙◌, subst, arith}
use mathlib.Core.Option.{none, some}
use Rattle.std.proofs.lemmas.Bool.{eq-eqb}
use Rattle.terms.specs.Term.{Term, Terms, var, app}
use Rattle.unification.specs.Substitution.{Sub, inst, one, bind, Bindings, All, In, lacks}
use Rattle.unification.specs.Unifying.{Answer}
use Rattle.unification.specs.Chain.{without, Chain, Follows}
use Rattle.unification.proofs.VariablesProperties.{without_keeps, all_in, all_at}
use Rattle.unification.proofs.InstProperties.{inst_identity}
use Rattle.unification.proofs.BindingsProperties.{as_sub}
use Rattle.unification.proofs.OccursProperties.{lacks_all}

-- an argument list as a term
abbrev pub tuple : Terms → Term
tuple ts = app [] ts

-- θ unifies s and t
abbrev pub Unifies : Term → Term → Sub → Type 0
Unifies s t θ = inst θ s ≡ inst θ t

-- an answer to the question U: bindings that are well-formed, do what is asked and follow from it; or nothing does it
pub data Solved (vs : List ℕ) (U : Sub → Type 0) : Answer → Type 0 where
  joined : {σ : Bindings} → Chain vs σ → U (as_sub σ) → ((θ : Sub) → U θ → Follows θ σ) → Solved vs U (some σ)
  apart : ((θ : Sub) → U θ → ⊥) → Solved vs U none

pub record Found (vs : List ℕ) (U : Sub → Type 0) (σ : Bindings) : Type 0 where
  pub chain : Chain vs σ
  pub joins : U (as_sub σ)
  pub forced : (θ : Sub) → U θ → Follows θ σ

pub solved_some : {vs : List ℕ} {U : Sub → Type 0} {o : Answer} → Solved vs U o
    → (σ : Bindings) → o ≡ some σ → Found vs U σ
solved_some {vs} {U} (joined {σ = τ} c j g) σ e =
    let p : τ ≡ σ = cc in
    subst (Found vs U) p (record { chain = c; joins = j; forced = g })
solved_some (apart h) σ e = let z : ◌≡◌ {A = ℕ} 0 1 = cc in absurd (omega arith)

pub solved_none : {vs : List ℕ} {U : Sub → Type 0} {o : Answer} → Solved vs U o → o ≡ none → (θ : Sub) → U θ → ⊥
solved_none (joined c j g) e θ u = let z : ◌≡◌ {A = ℕ} 0 1 = cc in absurd (omega arith)
solved_none (apart h) e θ u = h θ u

-- the same question in other words
pub solved_iff : {vs : List ℕ} (U V : Sub → Type 0) {o : Answer}
    → ((θ : Sub) → U θ → V θ) → ((θ : Sub) → V θ → U θ) → Solved vs U o → Solved vs V o
solved_iff U V to from (joined {σ} c j g) = joined c (to (as_sub σ) j) (λ θ e. g θ (from θ e))
solved_iff U V to from (apart h) = apart (λ θ e. h θ (from θ e))

pub solved_sym : {vs : List ℕ} (s t : Term) {o : Answer} → Solved vs (Unifies s t) o → Solved vs (Unifies t s) o
solved_sym s t = solved_iff (Unifies s t) (Unifies t s) (λ θ e. sym e) (λ θ e. sym e)

-- one binding
pub bind_solved : (vs : List ℕ) (x : ℕ) (u : Term) → In vs x → lacks x u ≡ true → All (In vs) u
    → Solved vs (Unifies (var x) u) (some (bind x u ∷ []))
bind_solved vs x u i l a =
    let others = all_at (λ y. eqb x y ≡ false) u (lacks_all x u l) in
    let here : one x u x ≡ u = ap (λ b. cond b u (var x)) (eq-eqb x x refl) in
    let away : inst (one x u) u ≡ u =
    inst_identity (one x u) u
    (all_in (λ y. one x u y ≡ var y) u (λ y j. ap (λ b. cond b u (var y)) (others y j))) in
    let free = all_in (In (without x vs)) u (λ y j. without_keeps x y vs (others y j) (all_at (In vs) u a y j)) in
    joined (i, free, tt) (here ∙ sym away) (λ θ e. (e, tt))
