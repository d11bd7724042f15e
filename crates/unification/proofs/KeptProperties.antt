-- Bindings stay well-formed, and follow from what was asked.
use Rattle.std.proofs.Common.{◌≡◌, ℕ, List, ◌++◌, sym, ◌∙◌, subst, arith}
use mathlib.Core.Option.{none, some}
use Rattle.terms.specs.Term.{Term}
use Rattle.unification.specs.Substitution.{Sub, inst, Bindings, apply, All, In, vars}
use Rattle.unification.specs.Unifying.{Answer, before}
use Rattle.unification.specs.Under.{under}
use Rattle.unification.specs.Chain.{Chain, left, Follows}
use Rattle.unification.specs.Theorem.{Kept}
use Rattle.unification.proofs.VariablesProperties.{in_append, all_at}
use Rattle.unification.proofs.BindingsProperties.{apply_inst, apply_append, follows_apply, follows_append}
use Rattle.unification.proofs.ChainProperties.{chain_append, chain_all, chain_widen}
use Rattle.unification.proofs.SolvedProperties.{Unifies, Solved, joined, apart}
use Rattle.unification.proofs.CountProperties.{unify_solved}

module _ (σ : Bindings) (s t : Term) where
  follows_both : (θ : Sub) → Follows θ σ → inst θ s ≡ inst θ t → Unifies (apply σ s) (apply σ t) θ
  follows_both θ f e = follows_apply θ σ f s ∙ e ∙ sym (follows_apply θ σ f t)

  pub under_none : under σ s t ≡ none → (θ : Sub) → Follows θ σ → inst θ s ≡ inst θ t → ⊥
  under_none e θ f k = go (unify_solved (apply σ s) (apply σ t)) e
    where
      go : {o : Answer} → Solved (vars (apply σ s) ++ vars (apply σ t)) (Unifies (apply σ s) (apply σ t)) o
          → before σ o ≡ none → ⊥
      go (joined d j g) p = let z : ◌≡◌ {A = ℕ} 0 1 = cc in absurd (omega arith)
      go (apart h) p = h θ (follows_both θ f k)

  pub under_kept : (vs : List ℕ) → Chain vs σ → All (In vs) s → All (In vs) t
      → (σ' : Bindings) → under σ s t ≡ some σ' → Kept vs σ s t σ'
  under_kept vs c a b σ' e = go (unify_solved (apply σ s) (apply σ t)) e
    where
      us : List ℕ
      us = vars (apply σ s) ++ vars (apply σ t)

      ws : List ℕ
      ws = left vs σ

      within : (y : ℕ) → In us y → In ws y
      within =
          in_append (vars (apply σ s)) (vars (apply σ t)) (In ws)
          (all_at (In ws) (apply σ s) (chain_all vs σ c s a)) (all_at (In ws) (apply σ t) (chain_all vs σ c t b))

      go : {o : Answer} → Solved us (Unifies (apply σ s) (apply σ t)) o → before σ o ≡ some σ' → Kept vs σ s t σ'
      go (joined {σ = τ} d j g) p =
          let q : σ ++ τ ≡ σ' = cc in
          subst (Kept vs σ s t) q (record {
            chain = chain_append vs σ τ c (chain_widen us ws τ within d);
            joins = apply_append σ τ s ∙ apply_inst τ (apply σ s) ∙ j
                ∙ sym (apply_inst τ (apply σ t)) ∙ sym (apply_append σ τ t);
            forced = λ θ f k. follows_append θ σ τ f (g θ (follows_both θ f k));
          })
      go (apart h) p = let z : ◌≡◌ {A = ℕ} 0 1 = cc in absurd (omega arith)
