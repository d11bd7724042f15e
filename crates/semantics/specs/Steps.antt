-- The steps: the state is a list of elements, and a step is made at the first of them. Nothing here is limited.
use Rattle.std.specs.Prelude.{ℕ, suc, ◌+◌, ◌*◌, Bool, true, false, cond, List, [], ◌∷◌, ◌++◌, ◌==◌}
use Rattle.std.proofs.Math.Option.{Option, none, some}
use Rattle.terms.specs.Term.{Term, size}
use Rattle.semantics.specs.Rules.{Clause, Rules, Live, live, live_rules, add_rule, erase_rule, clause_size, name_of}
use Rattle.semantics.specs.Rules.{arity_of}
use Rattle.semantics.specs.Environment.{Env}
use Rattle.semantics.specs.Errors.{error_at, no_procedure}
use Rattle.semantics.specs.Actions.{Action, go_on, leaves, both, either, cuts, calls, calling, nots, catches, throws}
use Rattle.semantics.specs.Actions.{raises, finds, invokes, retracts, stores, call_of, cut_goal, fail_goal}
use Rattle.semantics.specs.Language.{Language}
use Rattle.semantics.specs.Positions.{positions}

-- an entry of a query: a goal with the marker that its cuts bear, or the throw of a ball
pub data Entry : Type 0 where
  on : Term → ℕ → Entry
  throw : Term → Entry

abbrev pub Query : Type 0
Query = List Entry

-- a catch that is open: its marker, the catcher, the recovery, and the query that goes on behind it
pub data Context : Type 0 where
  context : ℕ → Term → Term → Query → Context

-- the last catch first
abbrev pub Contexts : Type 0
Contexts = List Context

-- what every element keeps from its making: the bindings, the next unused marker, and the units in use
pub record Moment : Type 0 where
  pub env : Env
  pub marker : ℕ
  pub units : ℕ

pub data Element : Type 0 where
  -- a query under its contexts
  goal : Query → Contexts → Moment → Element
  -- a goal against one rule of its predicate; if it fits, the body goes on before the query
  try : Term → Clause → Query → Contexts → Moment → Element
  -- a head and a body against one rule, which is erased if they fit
  retry : Term → Term → Live → Query → Contexts → Moment → Element
  -- a marker
  mark : ℕ → Moment → Element
  -- a template and its results so far, and the term and the query that wait for their list
  collector : Term → Term → Query → Contexts → List Term → Moment → Element

-- the first element is the one that the next step is made at
abbrev pub State : Type 0
State = List Element

-- all elements before the marker m leave
abbrev pub back : ℕ → State → State
back m [] = []
back m (goal q c p ∷ k) = back m k
back m (try g x q c p ∷ k) = back m k
back m (retry h t x q c p ∷ k) = back m k
back m (mark n p ∷ k) = cond (m == n) (mark n p ∷ k) (back m k)
back m (collector t s q c xs p ∷ k) = back m k

-- whether the marker m stands before every collector
abbrev pub before : ℕ → State → Bool
before m [] = false
before m (goal q c p ∷ k) = before m k
before m (try g x q c p ∷ k) = before m k
before m (retry h t x q c p ∷ k) = before m k
before m (mark n p ∷ k) = cond (m == n) true (before m k)
before m (collector t s q c xs p ∷ k) = false

-- whether there is a collector
abbrev pub collects : State → Bool
collects [] = false
collects (goal q c p ∷ k) = collects k
collects (try g x q c p ∷ k) = collects k
collects (retry h t x q c p ∷ k) = collects k
collects (mark n p ∷ k) = collects k
collects (collector t s q c xs p ∷ k) = true

-- what a step makes of the rules and the state; it may tell an answer, or an error that nothing catches
pub data Outcome : Type 0 where
  goes : Rules → State → Outcome
  tells : Env → Rules → State → Outcome
  fails : Term → Rules → Outcome

-- other bindings; so many units more; the next marker, and so many units more
abbrev pub rebound : Env → Moment → Moment
rebound b p = record { env = b; marker = p.marker; units = p.units }

abbrev pub taking : ℕ → Moment → Moment
taking u p = record { env = p.env; marker = p.marker; units = p.units + u }

abbrev pub marking : ℕ → Moment → Moment
marking u p = record { env = p.env; marker = suc p.marker; units = p.units + u }

-- a try for each rule, and a retract try for each rule
abbrev pub tries : Term → List Live → Query → Contexts → Moment → State → State
tries g [] q c p k = k
tries g (live l x ∷ xs) q c p k = try g x q c p ∷ tries g xs q c p k

abbrev pub retries : Term → Term → List Live → Query → Contexts → Moment → State → State
retries h t [] q c p k = k
retries h t (x ∷ xs) q c p k = retry h t x q c p ∷ retries h t xs q c p k

-- the goal is replaced by the throw of an error
abbrev pub raise : Term → Query → Contexts → Moment → Rules → State → Outcome
raise e q c p r k = goes r (goal (throw e ∷ q) c (taking (size e + 2) p) ∷ k)

-- the nodes of the list of these terms
abbrev pub list_size : List Term → ℕ
list_size [] = 1
list_size (t ∷ ts) = 1 + size t + list_size ts

module _ (l : Language) where
  -- a copy of the template joins the results of the first collector
  abbrev pub put : Env → State → State
  put b [] = []
  put b (goal q c p ∷ k) = goal q c p ∷ put b k
  put b (try g x q c p ∷ k) = try g x q c p ∷ put b k
  put b (retry h t x q c p ∷ k) = retry h t x q c p ∷ put b k
  put b (mark n p ∷ k) = mark n p ∷ put b k
  put b (collector t s q c xs p ∷ k) = collector t s q c (xs ++ l.copy_of b t ∷ []) p ∷ k

  -- the ball e at its marker, which stands first: the recovery, or the throw of the ball to the contexts that are left
  abbrev pub land : Term → Term → Term → Query → Contexts → State → State
  land e d u q c [] = []
  land e d u q c (goal q' c' p ∷ k) = k
  land e d u q c (try g x q' c' p ∷ k) = k
  land e d u q c (retry h t x q' c' p ∷ k) = k
  land e d u q c (mark n p ∷ k) =
      elim (l.accept p.env e d) [
        | none ↦ goal (throw e ∷ []) c (record { env = p.env; marker = n; units = p.units + (size e + 2) }) ∷ k
        | some b ↦ goal (on (call_of u) 0 ∷ q) c (record { env = b; marker = n; units = p.units + (size e + 2) }) ∷ k
      ]
  land e d u q c (collector t s q' c' xs p ∷ k) = k

  abbrev pub throw_to : Term → Contexts → Rules → State → Outcome
  throw_to e [] r k = fails e r
  throw_to e (context m d u q ∷ c) r k = goes r (land e d u q c (back m k))

  -- the step of a goal that does this and bears m, before q and under c, from p on, above k
  abbrev pub act : Action → Term → ℕ → Query → Contexts → Moment → Rules → State → Outcome
  act (go_on b) g m q c p r k = goes r (goal q c (rebound b p) ∷ k)
  act leaves g m q c p r k = goes r k
  act (both s t) g m q c p r k = goes r (goal (on s m ∷ on t m ∷ q) c (taking 2 p) ∷ k)
  act (either s t) g m q c p r k = goes r (goal (on s m ∷ q) c (taking 2 p) ∷ goal (on t m ∷ q) c (taking 2 p) ∷ k)
  act cuts g m q c p r k = goes r (goal q c p ∷ back m k)
  act (calls t) g m q c p r k =
      let u = 1 + 2 * positions t in
      goes r (goal (on t p.marker ∷ q) c (marking u p) ∷ mark p.marker (taking u p) ∷ k)
  act (calling t) g m q c p r k = goes r (goal (on (call_of t) m ∷ q) c (taking (3 + arity_of t) p) ∷ k)
  act (nots t) g m q c p r k =
      let n = p.marker in
      goes r (goal (on (call_of t) n ∷ on cut_goal n ∷ on fail_goal n ∷ []) c (marking 4 p)
      ∷ goal q c (marking 4 p) ∷ mark n (taking 4 p) ∷ k)
  act (catches t d u) g m q c p r k =
      let n = p.marker in
      goes r (goal (on (call_of t) 0 ∷ []) (context n d u q ∷ c) (marking 2 p) ∷ mark n (taking 2 p) ∷ k)
  act (throws e) g m q c p r k = throw_to e c r k
  act (raises e) g m q c p r k = raise e q c p r k
  act (finds t g' s) g m q c p r k =
      goes r (goal (on (call_of g') 0 ∷ []) c (taking 2 p) ∷ collector t s q c [] (taking 2 p) ∷ k)
  act (invokes f n) g m q c p r k =
      cond (r.known f n) (goes r (tries g (live_rules r f n) q c p (mark p.marker p ∷ k)))
      (raise (error_at (no_procedure f n) f n) q c p r k)
  act (retracts h t) g m q c p r k = goes r (retries h t (live_rules r (name_of h) (arity_of h)) q c p k)
  act (stores e x) g m q c p r k = goes (add_rule e x r) (goal q c p ∷ k)

  -- an empty query: the last catch is left, if its marker stands before every collector;
  -- else it is a result or an answer
  abbrev pub answer : Env → Rules → State → Outcome
  answer b r k = cond (collects k) (goes r (put b k)) (tells b r k)

  abbrev pub finish : Contexts → Moment → Rules → State → Outcome
  finish [] p r k = answer p.env r k
  finish (context m d u q ∷ c) p r k = cond (before m k) (goes r (goal q c p ∷ k)) (answer p.env r k)

  -- the step at the first element, above the others
  abbrev pub step_at : Element → Rules → State → Outcome
  step_at (goal [] c p) r k = finish c p r k
  step_at (goal (on g m ∷ q) c p) r k = act (l.action p.env g) g m q c p r k
  step_at (goal (throw e ∷ q) c p) r k = throw_to e c r k
  step_at (try g x q c p) r k =
      elim (l.enter p.env g x) [
        | none ↦ goes r k
        | some y ↦ goes r (goal (on y.1 p.marker ∷ q) c (rebound y.0 (marking (clause_size x + 1) p)) ∷ k)
      ]
  step_at (retry h t (live l' x) q c p) r k =
      elim (l.matches p.env h t x) [
        | none ↦ goes r k
        | some b ↦ goes (erase_rule l' r) (goal q c (rebound b (taking (clause_size x) p)) ∷ k)
      ]
  step_at (mark n p) r k = goes r k
  step_at (collector t s q c xs p) r k =
      elim (l.gather p.env xs s) [
        | none ↦ goes r k
        | some b ↦ goes r (goal q c (rebound b (taking (list_size xs) p)) ∷ k)
      ]

  -- one step; an empty list has none, and tells "no"
  abbrev pub step : Rules → State → Option Outcome
  step r [] = none
  step r (x ∷ k) = some (step_at x r k)

-- where a query begins, over so many variables; its cuts bear 0
abbrev pub asked : Term → Env → State
asked g b =
    let u = size g + 1 in
    goal (on g 0 ∷ []) [] (record { env = b; marker = 1; units = u })
    ∷ mark 0 (record { env = b; marker = 0; units = u }) ∷ []
