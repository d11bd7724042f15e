-- Any count of variables that suffices gives the same answer.
use Rattle.std.proofs.Common.{◌≡◌, ℕ, zero, suc, ◌<◌, ◌≤◌, cond, List, [], ◌∷◌, ◌++◌, length, refl, ap, ◌∙◌, ap₂, inl}
use Rattle.std.proofs.Common.{inr, arith}
use mathlib.Core.Option.{none}
use Rattle.std.proofs.lemmas.Bool.{cases_lt}
use Rattle.terms.specs.Term.{Term, Terms, var, int, app, nil, cons}
use Rattle.terms.specs.Goals.{same}
use Rattle.unification.specs.Substitution.{Sub, Bindings, applys, All, Alls, In, vars}
use Rattle.unification.specs.Unifying.{Answer, before, Rest, after, unify_term, unify_terms, rest, unify_at, unify}
use Rattle.unification.specs.Unifying.{unifys}
use Rattle.unification.specs.Chain.{left}
use Rattle.unification.proofs.VariablesProperties.{all_left, all_right}
use Rattle.unification.proofs.ChainProperties.{chain_length, chain_alls}
use Rattle.unification.proofs.SolvedProperties.{tuple, Unifies, Solved, joined, apart}
use Rattle.unification.proofs.UnifyingProperties.{Solves, unify_term_solved, rest_solved}

-- two ways to go on agree with fewer variables
abbrev Agree : List ℕ → Rest → Rest → Type 0
Agree vs R S =
    (ws : List ℕ) (ps qs : Terms) → length ws < length vs → Alls (In ws) ps → Alls (In ws) qs → R ps qs ≡ S ps qs

module _ (vs : List ℕ) (R S : Rest) (good : Solves vs R) (agree : Agree vs R S) where
  after_same : {U : Sub → Type 0} (ps qs : Terms) (r : Answer) {o : Answer} → Solved vs U o
      → Alls (In vs) ps → Alls (In vs) qs → after R ps qs r o ≡ after S ps qs r o
  after_same ps qs r (apart h) a b = refl
  after_same ps qs r (joined {σ = []} c j g) a b = refl
  after_same ps qs r (joined {σ = x ∷ σ} c j g) a b =
      let τ : Bindings = x ∷ σ in
      let l = chain_length vs τ c in
      ap (before τ)
      (agree (left vs τ) (applys τ ps) (applys τ qs) (omega arith) (chain_alls vs τ c ps a) (chain_alls vs τ c qs b))

  mutual
    unify_term_same : (s t : Term) → All (In vs) s → All (In vs) t → unify_term R s t ≡ unify_term S s t
    unify_term_same (var x) t a b = refl
    unify_term_same (int i) (var y) a b = refl
    unify_term_same (int i) (int j) a b = refl
    unify_term_same (int i) (app g qs) a b = refl
    unify_term_same (app f ps) (var y) a b = refl
    unify_term_same (app f ps) (int j) a b = refl
    unify_term_same (app f ps) (app g qs) a b = ap (λ r. cond (same f g) r none) (unify_terms_same ps qs a b)

    unify_terms_same : (ps qs : Terms) → Alls (In vs) ps → Alls (In vs) qs → unify_terms R ps qs ≡ unify_terms S ps qs
    unify_terms_same nil nil a b = refl
    unify_terms_same nil (cons q qs) a b = refl
    unify_terms_same (cons p ps) nil a b = refl
    unify_terms_same (cons p ps) (cons q qs) a b =
        after_same ps qs (unify_terms R ps qs) (unify_term_solved vs R good p q a.0 b.0) a.1 b.1
        ∙ ap₂ (after S ps qs) (unify_terms_same ps qs a.1 b.1) (unify_term_same p q a.0 b.0)

rest_same : (m n : ℕ) (vs : List ℕ) (ps qs : Terms) → length vs < m → length vs < n
    → Alls (In vs) ps → Alls (In vs) qs → rest m ps qs ≡ rest n ps qs
rest_same zero n vs ps qs k l a b = absurd (omega arith)
rest_same (suc m) zero vs ps qs k l a b = absurd (omega arith)
rest_same (suc m) (suc n) vs ps qs k l a b =
    unify_terms_same vs (rest m) (rest n) (λ ws ps' qs' h. rest_solved m ws ps' qs' (omega arith))
    (λ ws ps' qs' h. rest_same m n ws ps' qs' (omega arith) (omega arith)) ps qs a b

unify_at_same : (m n : ℕ) (vs : List ℕ) (s t : Term) → length vs ≤ m → length vs ≤ n
    → All (In vs) s → All (In vs) t → unify_at m s t ≡ unify_at n s t
unify_at_same m n vs s t k l a b =
    unify_term_same vs (rest m) (rest n) (λ ws ps qs h. rest_solved m ws ps qs (omega arith))
    (λ ws ps qs h. rest_same m n ws ps qs (omega arith) (omega arith)) s t a b

pub unify_at_enough : (s t : Term) (vs : List ℕ) (n : ℕ) → All (In vs) s → All (In vs) t → length vs ≤ n
    → unify_at n s t ≡ unify s t
unify_at_enough s t vs n a b l =
    let us = vars s ++ vars t in
    elim (cases_lt (length us) (length vs)) [
      | inl h ↦ unify_at_same n (length us) us s t (omega arith) (omega arith) (all_left s t) (all_right s t)
      | inr h ↦ unify_at_same n (length us) vs s t l h a b
    ]

pub rest_enough : (n : ℕ) (vs : List ℕ) (ps qs : Terms) → length vs < n → Alls (In vs) ps → Alls (In vs) qs
    → rest n ps qs ≡ unifys ps qs
rest_enough zero vs ps qs l a b = absurd (omega arith)
rest_enough (suc n) vs ps qs l a b = unify_at_enough (tuple ps) (tuple qs) vs n a b (omega arith)

pub unify_solved : (s t : Term) → Solved (vars s ++ vars t) (Unifies s t) (unify s t)
unify_solved s t =
    let n = length (vars s ++ vars t) in
    unify_term_solved (vars s ++ vars t) (rest n) (rest_solved n) s t (all_left s t) (all_right s t)
