-- What the steps and the tree share about terms: what a goal does, and how rules, balls and results meet bindings.
-- The theorems hold for every such language; Prolog is the one of the classifier.
use Rattle.std.specs.Prelude.{◌≡◌, List}
use Rattle.std.proofs.Math.Option.{Option}
use Rattle.terms.specs.Term.{Term}
use Rattle.semantics.specs.Rules.{Clause}
use Rattle.semantics.specs.Environment.{Env}
use Rattle.semantics.specs.Actions.{Action, leaves, calls, raises, call_of, fail_goal}

-- an action that calls, or that raises an error
pub data Calls : Action → Type 0 where
  does : (t : Term) → Calls (calls t)
  errs : (e : Term) → Calls (raises e)

pub record Language : Type 0 where
  pub action : Env → Term → Action
  -- the bindings and the body, if a goal fits a rule
  pub enter : Env → Term → Clause → Option (Env × Term)
  -- the bindings, if a head and a body fit a rule
  pub matches : Env → Term → Term → Clause → Option Env
  -- the bindings, if a ball fits a catcher
  pub accept : Env → Term → Term → Option Env
  -- what a template leaves as its result
  pub copy_of : Env → Term → Term
  -- the bindings, if the list of the results fits a term
  pub gather : Env → List Term → Term → Option Env
  pub call_calls : (b : Env) (t : Term) → Calls (action b (call_of t))
  pub fail_leaves : (b : Env) → action b fail_goal ≡ leaves
