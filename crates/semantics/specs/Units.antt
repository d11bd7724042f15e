-- What a step needs of the memory: units, elements, nodes of results, and room for a rule that it adds.
use Rattle.std.specs.Prelude.{ℕ, ◌+◌, ◌*◌, max, Bool, false, cond, ◌||◌, List, [], ◌∷◌, length, ◌==◌, nat_le, nat_lt}
use Rattle.terms.specs.Term.{Term, size}
use Rattle.semantics.specs.Rules.{Clause, Rules, live, clause_size, arity_of}
use Rattle.semantics.specs.Errors.{error_at, no_procedure}
use Rattle.semantics.specs.Actions.{Action, go_on, leaves, both, either, cuts, calls, calling, nots, catches, throws}
use Rattle.semantics.specs.Actions.{raises, finds, invokes, retracts, stores}
use Rattle.semantics.specs.Language.{Language}
use Rattle.semantics.specs.Positions.{positions}
use Rattle.semantics.specs.Steps.{on, throw, context, Contexts, Moment, Element, goal, try, retry, mark, collector}
use Rattle.semantics.specs.Steps.{State, Outcome, goes, tells, fails, list_size, step_at}

-- so many units, elements and nodes of results; so many labels of rules, and nodes of all rules
pub record Room : Type 0 where
  pub units : ℕ
  pub results : ℕ
  pub elements : ℕ
  pub labels : ℕ
  pub nodes : ℕ

-- the units in use at the marker m
abbrev pub units_at : ℕ → State → ℕ
units_at m [] = 0
units_at m (goal q c p ∷ k) = units_at m k
units_at m (try g x q c p ∷ k) = units_at m k
units_at m (retry h t x q c p ∷ k) = units_at m k
units_at m (mark n p ∷ k) = cond (m == n) p.units (units_at m k)
units_at m (collector t s q c xs p ∷ k) = units_at m k

-- the units of a throw are taken at the marker of the catch, or here if there is none
abbrev pub thrown_units : Term → Contexts → Moment → State → ℕ
thrown_units e [] p k = p.units + (size e + 2)
thrown_units e (context m d u q ∷ c) p k = units_at m k + (size e + 2)

-- the units in use once a goal's step has taken its own, before any test
abbrev pub action_units : Action → Contexts → Moment → Rules → State → ℕ
action_units (go_on b) c p r k = p.units
action_units leaves c p r k = p.units
action_units (both s t) c p r k = p.units + 2
action_units (either s t) c p r k = p.units + 2
action_units cuts c p r k = p.units
action_units (calls t) c p r k = p.units + (1 + 2 * positions t)
action_units (calling t) c p r k = p.units + (3 + arity_of t)
action_units (nots t) c p r k = p.units + 4
action_units (catches t d u) c p r k = p.units + 2
action_units (throws e) c p r k = thrown_units e c p k
action_units (raises e) c p r k = p.units + (size e + 2)
action_units (finds t g s) c p r k = p.units + 2
action_units (invokes f n) c p r k =
    cond (r.known f n) p.units (p.units + (size (error_at (no_procedure f n) f n) + 2))
action_units (retracts h t) c p r k = p.units
action_units (stores e x) c p r k = p.units

-- the nodes of the ball that a goal throws
abbrev pub ball_of : Action → ℕ
ball_of (go_on b) = 0
ball_of leaves = 0
ball_of (both s t) = 0
ball_of (either s t) = 0
ball_of cuts = 0
ball_of (calls t) = 0
ball_of (calling t) = 0
ball_of (nots t) = 0
ball_of (catches t d u) = 0
ball_of (throws e) = size e
ball_of (raises e) = 0
ball_of (finds t g s) = 0
ball_of (invokes f n) = 0
ball_of (retracts h t) = 0
ball_of (stores e x) = 0

-- the nodes of all results
abbrev pub sizes : List Term → ℕ
sizes [] = 0
sizes (t ∷ ts) = size t + sizes ts

abbrev pub result_nodes : State → ℕ
result_nodes [] = 0
result_nodes (goal q c p ∷ k) = result_nodes k
result_nodes (try g x q c p ∷ k) = result_nodes k
result_nodes (retry h t x q c p ∷ k) = result_nodes k
result_nodes (mark n p ∷ k) = result_nodes k
result_nodes (collector t s q c xs p ∷ k) = sizes xs + result_nodes k

abbrev pub state_after : Outcome → State
state_after (goes r s) = s
state_after (tells a r s) = s
state_after (fails e r) = []

-- the nodes of all rules ever added
abbrev pub rule_nodes : List Clause → ℕ
rule_nodes [] = 0
rule_nodes (x ∷ xs) = clause_size x + rule_nodes xs

-- a rule of more than 256 nodes, no label left, or no nodes left
abbrev pub adds_too_much : Room → Rules → Clause → Bool
adds_too_much room r x =
    nat_lt 256 (clause_size x)
    || (nat_le room.labels (length r.clauses) || nat_lt room.nodes (rule_nodes r.clauses + clause_size x))

abbrev pub action_adds : Room → Rules → Action → Bool
action_adds room r (go_on b) = false
action_adds room r leaves = false
action_adds room r (both s t) = false
action_adds room r (either s t) = false
action_adds room r cuts = false
action_adds room r (calls t) = false
action_adds room r (calling t) = false
action_adds room r (nots t) = false
action_adds room r (catches t d u) = false
action_adds room r (throws e) = false
action_adds room r (raises e) = false
action_adds room r (finds t g s) = false
action_adds room r (invokes f n) = false
action_adds room r (retracts h t) = false
action_adds room r (stores e x) = adds_too_much room r x

module _ (l : Language) where
  -- the units in use once the step at this element has taken its own
  abbrev pub units_needed : Element → Rules → State → ℕ
  units_needed (goal [] c p) r k = p.units
  units_needed (goal (on g m ∷ q) c p) r k = action_units (l.action p.env g) c p r k
  units_needed (goal (throw e ∷ q) c p) r k = thrown_units e c p k
  units_needed (try g x q c p) r k = p.units + (clause_size x + 1)
  units_needed (retry h t (live n x) q c p) r k = p.units + clause_size x
  units_needed (mark n p) r k = p.units
  units_needed (collector t s q c xs p) r k = p.units + list_size xs

  -- the nodes of a thrown ball, which need room among the results before anything leaves
  abbrev pub ball_nodes : Element → ℕ
  ball_nodes (goal [] c p) = 0
  ball_nodes (goal (on g m ∷ q) c p) = ball_of (l.action p.env g)
  ball_nodes (goal (throw e ∷ q) c p) = size e
  ball_nodes (try g x q c p) = 0
  ball_nodes (retry h t x q c p) = 0
  ball_nodes (mark n p) = 0
  ball_nodes (collector t s q c xs p) = 0

  abbrev pub adds_beyond : Room → Element → Rules → Bool
  adds_beyond room (goal [] c p) r = false
  adds_beyond room (goal (on g m ∷ q) c p) r = action_adds room r (l.action p.env g)
  adds_beyond room (goal (throw e ∷ q) c p) r = false
  adds_beyond room (try g x q c p) r = false
  adds_beyond room (retry h t x q c p) r = false
  adds_beyond room (mark n p) r = false
  adds_beyond room (collector t s q c xs p) r = false

  -- whether the next step would pass the room
  abbrev pub refused : Room → Rules → State → Bool
  refused room r [] = false
  refused room r (x ∷ k) =
      let s = state_after (step_at l x r k) in
      nat_lt room.units (units_needed x r k)
      || (nat_lt room.elements (length s)
      || (nat_lt room.results (max (result_nodes (x ∷ k) + ball_nodes x) (result_nodes s))
      || adds_beyond room x r))
