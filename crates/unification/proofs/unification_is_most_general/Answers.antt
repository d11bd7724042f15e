-- Unification is sound, resolved, most general and complete.
use Rattle.std.proofs.Common.{◌++◌, sym, ◌∙◌}
use Rattle.unification.specs.Substitution.{In, vars}
use Rattle.unification.proofs.VariablesProperties.{in_left, in_right, all_in}
use Rattle.unification.proofs.BindingsProperties.{apply_inst, follows_apply}
use Rattle.unification.proofs.ChainProperties.{chain_widen, chain_resolved}
use Rattle.unification.proofs.SolvedProperties.{solved_some, solved_none}
use Rattle.unification.proofs.CountProperties.{unify_at_enough, unify_solved}
use Rattle.unification.proofs.unification_is_most_general.Goals as goal

pub returns : goal.returns
returns c =
    record {
      sound = λ s t σ e. apply_inst σ s ∙ (solved_some (unify_solved s t) σ e).joins ∙ sym (apply_inst σ t);
      resolved = λ s t σ e x d r.
          let us = vars s ++ vars t in
          let ws = vars r ++ us in
          let chain = chain_widen us ws σ (in_right (vars r) us) (solved_some (unify_solved s t) σ e).chain in
          chain_resolved ws σ chain x d r (all_in (In ws) r (in_left (vars r) us));
      enough = unify_at_enough;
      general = λ s t σ e θ u. follows_apply θ σ ((solved_some (unify_solved s t) σ e).forced θ u);
      complete = λ s t. solved_none (unify_solved s t);
    }
