-- What a selected goal does, as data. The steps and the search tree are both defined over these actions.
use Rattle.std.specs.Prelude.{ℕ, List, codes}
use Rattle.terms.specs.Term.{Term, app, nil, cons}
use Rattle.terms.specs.Known.{call_name}
use Rattle.rules.specs.Meaning.{End}
use Rattle.semantics.specs.Rules.{Clause}
use Rattle.semantics.specs.Environment.{Env}

pub data Action : Type 0 where
  -- goes on with these bindings
  go_on : Env → Action
  -- the goal leaves
  leaves : Action
  -- a conjunction, a disjunction
  both : Term → Term → Action
  either : Term → Term → Action
  -- cuts to the marker that it bears
  cuts : Action
  -- calls a goal whose cuts are its own
  calls : Term → Action
  -- is replaced by the call of a term with more arguments
  calling : Term → Action
  -- a negation
  nots : Term → Action
  -- a goal, a catcher and a recovery
  catches : Term → Term → Term → Action
  -- throws a ball
  throws : Term → Action
  -- an error: is replaced by the throw of its ball
  raises : Term → Action
  -- a template, a goal, and what the list of its results is unified with
  finds : Term → Term → Term → Action
  -- a predicate with this name and number of arguments
  invokes : List ℕ → ℕ → Action
  -- takes back a rule with this head and body
  retracts : Term → Term → Action
  -- adds a rule at an end of its row
  stores : End → Clause → Action

abbrev pub call_of : Term → Term
call_of t = app call_name (cons t nil)

abbrev pub cut_goal : Term
cut_goal = app (codes "!") nil

abbrev pub fail_goal : Term
fail_goal = app (codes "fail") nil
