-- Unification under bindings, step by step: no count of variables is left in these laws.
use Rattle.std.proofs.Common.{◌≡◌, ℕ, suc, Bool, true, false, cond, List, [], ◌∷◌, ◌++◌, length, ℤ, sym, refl, ap, ◌∙◌}
use Rattle.std.proofs.Common.{ap₂, append_assoc, append-nil, arith}
use mathlib.Core.Option.{none, some}
use Rattle.terms.specs.Term.{Term, Terms, int, app, nil, cons, count}
use Rattle.terms.specs.Goals.{same}
use Rattle.unification.specs.Substitution.{Sub, insts, Bindings, apply, applys, All, In, vars}
use Rattle.unification.specs.Unifying.{same_int, Answer, before, after, unify_terms, rest, unify_at, unify, unifys}
use Rattle.unification.specs.Under.{and_then, under, unders}
use Rattle.unification.specs.Chain.{left}
use Rattle.unification.proofs.VariablesProperties.{all_left, all_right}
use Rattle.unification.proofs.BindingsProperties.{as_sub, apply_int, apply_app, applys_nil, applys_cons, applys_append}
use Rattle.unification.proofs.ChainProperties.{chain_length, chain_alls}
use Rattle.unification.proofs.SolvedProperties.{tuple, Unifies, Solved, joined, apart}
use Rattle.unification.proofs.UnifyingProperties.{unify_term_solved, rest_solved}
use Rattle.unification.proofs.CountProperties.{unify_at_enough, rest_enough, unify_solved}

before_nothing : (o : Answer) → before [] o ≡ o
before_nothing none = refl
before_nothing (some σ) = refl

before_before : (σ τ : Bindings) (o : Answer) → before σ (before τ o) ≡ before (σ ++ τ) o
before_before σ τ none = refl
before_before σ τ (some ρ) = ap some (sym (append_assoc σ τ ρ))

-- the first arguments, and then the others under what these bound
pub unifys_cons : (p q : Term) (ps qs : Terms)
    → unifys (cons p ps) (cons q qs) ≡ and_then (unify p q) (λ σ. before σ (unifys (applys σ ps) (applys σ qs)))
unifys_cons p q ps qs =
    go (unify_at n p q) (unify_term_solved vs (rest n) (rest_solved n) p q a.0 b.0)
    ∙ ap (λ o. and_then o (λ σ. before σ (unifys (applys σ ps) (applys σ qs))))
    (unify_at_enough p q vs n a.0 b.0 (omega arith))
  where
    vs : List ℕ
    vs = vars (tuple (cons p ps)) ++ vars (tuple (cons q qs))

    n : ℕ
    n = length vs

    a : All (In vs) (tuple (cons p ps))
    a = all_left (tuple (cons p ps)) (tuple (cons q qs))

    b : All (In vs) (tuple (cons q qs))
    b = all_right (tuple (cons p ps)) (tuple (cons q qs))

    go : (o : Answer) → Solved vs (Unifies p q) o → after (rest n) ps qs (unify_terms (rest n) ps qs) o
        ≡ and_then o (λ σ. before σ (unifys (applys σ ps) (applys σ qs)))
    go none s = refl
    go (some []) s =
        unify_at_enough (tuple ps) (tuple qs) vs n a.1 b.1 (omega arith) ∙ sym (before_nothing (unifys ps qs))
    go (some (x ∷ σ)) (joined c j g) =
        let τ : Bindings = x ∷ σ in
        let l = chain_length vs τ c in
        ap (before τ)
        (rest_enough n (left vs τ) (applys τ ps) (applys τ qs) (omega arith)
        (chain_alls vs τ c ps a.1) (chain_alls vs τ c qs b.1))

pub unders_cons : (σ : Bindings) (p q : Term) (ps qs : Terms)
    → unders σ (cons p ps) (cons q qs) ≡ and_then (under σ p q) (λ τ. unders τ ps qs)
unders_cons σ p q ps qs =
    ap₂ (λ us vs. before σ (unifys us vs)) (applys_cons σ p ps) (applys_cons σ q qs)
    ∙ ap (before σ) (unifys_cons (apply σ p) (apply σ q) (applys σ ps) (applys σ qs))
    ∙ go (unify (apply σ p) (apply σ q))
  where
    others : Bindings → Answer
    others τ = unifys (applys τ (applys σ ps)) (applys τ (applys σ qs))

    go : (o : Answer) → before σ (and_then o (λ τ. before τ (others τ))) ≡ and_then (before σ o) (λ τ. unders τ ps qs)
    go none = refl
    go (some τ) =
        before_before σ τ (others τ)
        ∙ ap₂ (λ us vs. before (σ ++ τ) (unifys us vs)) (sym (applys_append σ τ ps)) (sym (applys_append σ τ qs))

pub unders_nil : (σ : Bindings) → unders σ nil nil ≡ some σ
unders_nil σ = ap₂ (λ us vs. before σ (unifys us vs)) (applys_nil σ) (applys_nil σ) ∙ ap some (append-nil σ)

pub under_app : (σ : Bindings) (f g : List ℕ) (ps qs : Terms)
    → under σ (app f ps) (app g qs) ≡ cond (same f g) (unders σ ps qs) none
under_app σ f g ps qs = ap₂ (λ s t. before σ (unify s t)) (apply_app σ f ps) (apply_app σ g qs) ∙ go (same f g)
  where
    go : (b : Bool) → before σ (cond b (unifys (applys σ ps) (applys σ qs)) none) ≡ cond b (unders σ ps qs) none
    go true = refl
    go false = refl

pub under_int : (σ : Bindings) (i j : ℤ) → under σ (int i) (int j) ≡ cond (same_int i j) (some σ) none
under_int σ i j = ap₂ (λ s t. before σ (unify s t)) (apply_int σ i) (apply_int σ j) ∙ go (same_int i j)
  where
    go : (b : Bool) → before σ (cond b (some []) none) ≡ cond b (some σ) none
    go true = ap some (append-nil σ)
    go false = refl

-- argument lists of different lengths are never unified
count_insts : (θ : Sub) (ts : Terms) → count (insts θ ts) ≡ count ts
count_insts θ nil = refl
count_insts θ (cons t ts) = ap suc (count_insts θ ts)

pub unifys_counts : (ps qs : Terms) → (count ps ≡ count qs → ⊥) → unifys ps qs ≡ none
unifys_counts ps qs d = go (unify_solved (tuple ps) (tuple qs))
  where
    go : {o : Answer} → Solved (vars (tuple ps) ++ vars (tuple qs)) (Unifies (tuple ps) (tuple qs)) o → o ≡ none
    go (joined {σ} c j g) =
        let e : insts (as_sub σ) ps ≡ insts (as_sub σ) qs = cc in
        absurd (d (sym (count_insts (as_sub σ) ps) ∙ ap count e ∙ count_insts (as_sub σ) qs))
    go (apart h) = refl
