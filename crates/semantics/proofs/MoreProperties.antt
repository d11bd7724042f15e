-- Steps until something is told are counted exactly.
use Rattle.std.proofs.Common.{◌≡◌, ℕ, zero, suc, ◌+◌, ◌≤◌, [], ◌∷◌, refl, ap, suc-add, zero-add, one-add, arith}
use Rattle.semantics.specs.Rules.{Rules}
use Rattle.semantics.specs.Language.{Language}
use Rattle.semantics.specs.Steps.{Element, State, Outcome, goes, tells, fails, step_at}
use Rattle.semantics.specs.Runs.{error, answered, over, spent, Made, made, one_more, run, more}
use Rattle.semantics.specs.Theorem.{onward, Counted}

-- what is shown of the steps m from r and s on, of which there may be n
record Exact (l : Language) (n : ℕ) (r : Rules) (s : State) (m : Made) : Type 0 where
  within : m.steps ≤ n
  used : m.stop ≡ spent → m.steps ≡ n
  goes_on : (j : ℕ) → run l (m.steps + j) r s ≡ onward m (run l j m.rules m.state)

module _ (l : Language) where
  -- by what the first step does
  exact_step : (n : ℕ) (x : Element) (r : Rules) (s : State) (o : Outcome) → step_at l x r s ≡ o →
      ((r' : Rules) (s' : State) → Exact l n r' s' (more l n r' s')) →
      Exact l (suc n) r (x ∷ s) (elim o [
        | goes r' s' ↦ one_more (more l n r' s')
        | tells a r' s' ↦ made 1 (answered a) r' s'
        | fails e r' ↦ made 1 (over (error e)) r' []
      ])
  exact_step n x r s (goes r' s') e ih = record {
    within = let d : (more l n r' s').steps ≤ n = (ih r' s').within in omega arith;
    used = λ z. ap suc ((ih r' s').used z);
    goes_on = λ j. rw (suc-add, e, run) ((ih r' s').goes_on j);
  }
  exact_step n x r s (tells a r' s') e ih = record {
    within = omega arith;
    used = λ z. let q : ◌≡◌ {A = ℕ} 0 1 = cc in absurd (omega arith);
    goes_on = λ j. rw (one-add, e, run);
  }
  exact_step n x r s (fails t r') e ih = record {
    within = omega arith;
    used = λ z. let q : ◌≡◌ {A = ℕ} 0 1 = cc in absurd (omega arith);
    goes_on = λ j. rw (one-add, e, run);
  }

  exact : (n : ℕ) (r : Rules) (s : State) → Exact l n r s (more l n r s)
  exact n r [] = record {
    within = omega arith;
    used = λ z. let q : ◌≡◌ {A = ℕ} 0 1 = cc in absurd (omega arith);
    goes_on = λ j. refl;
  }
  exact zero r (x ∷ s) = record { within = omega arith; used = λ z. refl; goes_on = λ j. rw zero-add }
  exact (suc n) r (x ∷ s) = exact_step n x r s (step_at l x r s) refl (exact n)

  pub counted : Counted l
  counted = record {
    few = λ n r s. (exact n r s).within;
    all_spent = λ n r s z. (exact n r s).used z;
    exact = λ n j r s. (exact n r s).goes_on j;
  }
