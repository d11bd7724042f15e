-- A call calls or raises an error, and `fail` leaves.
use Rattle.std.specs.Prelude.{◌≡◌, refl}
use Rattle.terms.specs.Term.{Term, var, int, app}
use Rattle.terms.specs.Goals.{goal_form}
use Rattle.semantics.specs.Environment.{Env, resolve}
use Rattle.semantics.specs.Actions.{leaves, calls, call_of, fail_goal}
use Rattle.semantics.specs.Classifier.{action_of, uncallable, unless}
use Rattle.terms.specs.Known.{call_name}
use Rattle.semantics.specs.Language.{Calls, does, errs}

resolved_calls : (u : Term) → Calls (unless call_name 1 (uncallable u) (calls (goal_form u)))
resolved_calls (var v) = errs _
resolved_calls (int i) = errs _
resolved_calls (app f ts) = does _

pub call_calls : (b : Env) (t : Term) → Calls (action_of b (call_of t))
call_calls b t = resolved_calls (resolve b t)

pub fail_leaves : (b : Env) → action_of b fail_goal ≡ leaves
fail_leaves b = refl
