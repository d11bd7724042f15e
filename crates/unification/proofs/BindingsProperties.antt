-- Bindings as one substitution, and how they pass into the parts of a term.
use Rattle.std.proofs.Common.{◌≡◌, ℕ, eqb, List, [], ◌∷◌, ◌++◌, ℤ, sym, refl, ap, ◌∙◌}
use Rattle.std.proofs.lemmas.Bool.{eqb-true, cond_both}
use Rattle.terms.specs.Term.{Term, Terms, var, int, app, nil, cons}
use Rattle.unification.specs.Substitution.{Sub, inst, insts, one, bind, Bindings, apply, applys}
use Rattle.unification.specs.Chain.{Follows}
use Rattle.unification.proofs.VariablesProperties.{all_any}
use Rattle.unification.proofs.InstProperties.{inst_inst, inst_var}

-- bindings as a substitution
abbrev pub as_sub : Bindings → Sub
as_sub σ x = apply σ (var x)

pub apply_inst : (σ : Bindings) (t : Term) → apply σ t ≡ inst (as_sub σ) t
apply_inst [] t = sym (inst_var t)
apply_inst (bind x u ∷ σ) t =
    let first : ℕ → Type 0 = λ y. inst (as_sub σ) (one x u y) ≡ as_sub (bind x u ∷ σ) y in
    apply_inst σ (inst (one x u) t)
    ∙ inst_inst (as_sub σ) (one x u) (as_sub (bind x u ∷ σ)) t (all_any first (λ y. sym (apply_inst σ (one x u y))) t)

pub apply_append : (σ τ : Bindings) (t : Term) → apply (σ ++ τ) t ≡ apply τ (apply σ t)
apply_append [] τ t = refl
apply_append (bind x u ∷ σ) τ t = apply_append σ τ (inst (one x u) t)

pub inst_append : (σ τ : Bindings) (t : Term) → inst (as_sub (σ ++ τ)) t ≡ inst (as_sub τ) (apply σ t)
inst_append σ τ t = sym (apply_inst (σ ++ τ) t) ∙ apply_append σ τ t ∙ apply_inst τ (apply σ t)

-- integers, names and argument lists stay what they are
pub apply_int : (σ : Bindings) (i : ℤ) → apply σ (int i) ≡ int i
apply_int [] i = refl
apply_int (bind x u ∷ σ) i = apply_int σ i

pub apply_app : (σ : Bindings) (f : List ℕ) (ts : Terms) → apply σ (app f ts) ≡ app f (applys σ ts)
apply_app [] f ts = refl
apply_app (bind x u ∷ σ) f ts = apply_app σ f (insts (one x u) ts)

pub applys_nil : (σ : Bindings) → applys σ nil ≡ nil
applys_nil [] = refl
applys_nil (bind x u ∷ σ) = applys_nil σ

pub applys_cons : (σ : Bindings) (t : Term) (ts : Terms) → applys σ (cons t ts) ≡ cons (apply σ t) (applys σ ts)
applys_cons [] t ts = refl
applys_cons (bind x u ∷ σ) t ts = applys_cons σ (inst (one x u) t) (insts (one x u) ts)

pub applys_append : (σ τ : Bindings) (ts : Terms) → applys (σ ++ τ) ts ≡ applys τ (applys σ ts)
applys_append [] τ ts = refl
applys_append (bind x u ∷ σ) τ ts = applys_append σ τ (insts (one x u) ts)

-- a substitution that agrees with every binding has nothing left to gain from them
one_agrees : (θ : Sub) (x : ℕ) (u : Term) → θ x ≡ inst θ u → (y : ℕ) → inst θ (one x u y) ≡ θ y
one_agrees θ x u h y =
    cond_both (eqb x y) u (var y) (λ t. inst θ t ≡ θ y) (λ e. sym h ∙ ap θ (eqb-true x y e)) (λ e. refl)

pub follows_apply : (θ : Sub) (σ : Bindings) → Follows θ σ → (t : Term) → inst θ (apply σ t) ≡ inst θ t
follows_apply θ [] f t = refl
follows_apply θ (bind x u ∷ σ) f t =
    follows_apply θ σ f.1 (inst (one x u) t)
    ∙ inst_inst θ (one x u) θ t (all_any (λ y. inst θ (one x u y) ≡ θ y) (one_agrees θ x u f.0) t)

pub follows_append : (θ : Sub) (σ τ : Bindings) → Follows θ σ → Follows θ τ → Follows θ (σ ++ τ)
follows_append θ [] τ f g = g
follows_append θ (bind x u ∷ σ) τ f g = (f.0, follows_append θ σ τ f.1 g)

pub follows_front : (θ : Sub) (σ τ : Bindings) → Follows θ (σ ++ τ) → Follows θ σ
follows_front θ [] τ f = tt
follows_front θ (bind x u ∷ σ) τ f = (f.0, follows_front θ σ τ f.1)

pub follows_back : (θ : Sub) (σ τ : Bindings) → Follows θ (σ ++ τ) → Follows θ τ
follows_back θ [] τ f = f
follows_back θ (bind x u ∷ σ) τ f = follows_back θ σ τ f.1
