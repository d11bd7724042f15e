-- The classifier: the 29 built-in predicates by name and number of arguments; every other goal invokes a predicate.
use Rattle.std.specs.Prelude.{ℕ, ◌+◌, Bool, true, false, cond, ◌&&◌, ◌||◌, List, codes, ◌==◌, nat_lt}
use Rattle.std.proofs.Math.Option.{Option, none, some}
use Rattle.arithmetic.specs.declared.comparison.Comparison.{Comparison}
use Rattle.arithmetic.specs.declared.comparison.Comparison.TheVariants.{Equal, Different, Less, AtMost, Greater}
use Rattle.arithmetic.specs.declared.comparison.Comparison.TheVariants.{AtLeast}
use Rattle.arithmetic.specs.Integers.{compared}
use Rattle.terms.specs.Term.{Term, Terms, var, int, app, nil, cons, count, join}
use Rattle.terms.specs.Known.{call_name, comma_name, semicolon_name, true_name, empty_name, dot_name}
use Rattle.terms.specs.Goals.{same, goal_form}
use Rattle.terms.specs.BuiltIns.{is_built_in}
use Rattle.rules.specs.Meaning.{End, front, back}
use Rattle.unification.specs.Copies.{copy, width}
use Rattle.semantics.specs.Environment.{Env, resolve, unify_in}
use Rattle.semantics.specs.Evaluation.{Value, number, fault, evaluate}
use Rattle.semantics.specs.Errors.{constant, error_at, instantiation, not_callable, not_list, too_many_arguments}
use Rattle.semantics.specs.Errors.{not_modified}
use Rattle.semantics.specs.Actions.{Action, go_on, leaves, both, either, cuts, calls, calling, nots, catches, throws}
use Rattle.semantics.specs.Actions.{raises, finds, invokes, retracts, stores}

-- the error of a term that cannot be called
abbrev pub uncallable : Term → Option Term
uncallable (var v) = some instantiation
uncallable (int i) = some (not_callable (int i))
uncallable (app f ts) = none

-- an error of a goal with this name and number of arguments
abbrev pub erring : Term → List ℕ → ℕ → Action
erring e f n = raises (copy (error_at e f n))

-- the error of the goal with this name and number of arguments, or else the action
abbrev pub unless : List ℕ → ℕ → Option Term → Action → Action
unless f n none a = a
unless f n (some e) a = erring e f n

-- the goal goes on, or leaves
abbrev pub onward : Option Env → Action
onward none = leaves
onward (some b) = go_on b

-- call/1: the resolved term, in the form of a goal
abbrev pub call : Env → Term → Action
call b t = let u = resolve b t in unless call_name 1 (uncallable u) (calls (goal_form u))

-- call/2 to call/8: the arguments are appended to those of the first
abbrev pub extended : ℕ → Term → Terms → Action
extended n (var v) ts = erring instantiation call_name n
extended n (int i) ts = erring (not_callable (int i)) call_name n
extended n (app f us) ts =
    let vs = join us ts in
    cond (nat_lt 8 (count vs)) (erring too_many_arguments call_name n) (calling (app f vs))

-- findall/3: the third argument is a variable, a list or a partial list
abbrev mutual
  pub is_partial_list : Term → Bool
  is_partial_list (var v) = true
  is_partial_list (int i) = false
  is_partial_list (app f ts) =
      (same f empty_name && count ts == 0) || ((same f dot_name && count ts == 2) && is_partial_tail ts)

  -- of the last of these terms
  pub is_partial_tail : Terms → Bool
  is_partial_tail nil = false
  is_partial_tail (cons t ts) = cond (count ts == 0) (is_partial_list t) (is_partial_tail ts)

abbrev pub findall : Env → Term → Term → Term → Action
findall b t g s =
    let u = resolve b s in
    cond (is_partial_list u) (finds t g s) (erring (not_list u) (codes "findall") 3)

-- throw/1
abbrev pub throwing : Term → Action
throwing (var v) = erring instantiation (codes "throw") 1
throwing (int i) = throws (int i)
throwing (app f ts) = throws (copy (app f ts))

-- is/2 and the comparisons, of which the left side is evaluated first
abbrev pub assigned : Env → Term → Value → Action
assigned b t (number z) = onward (unify_in b t (int z))
assigned b t (fault e) = erring e (codes "is") 2

abbrev pub weighed : Env → List ℕ → Comparison → Value → Value → Action
weighed b f k (fault e) y = erring e f 2
weighed b f k (number x) (fault e) = erring e f 2
weighed b f k (number x) (number y) = cond (compared k x y) (go_on b) leaves

abbrev pub comparison_of : List ℕ → Option Comparison
comparison_of f =
    cond (same f (codes "=:=")) (some Equal)
    (cond (same f (codes "=\\=")) (some Different)
    (cond (same f (codes "<")) (some Less)
    (cond (same f (codes "=<")) (some AtMost)
    (cond (same f (codes ">")) (some Greater)
    (cond (same f (codes ">=")) (some AtLeast) none)))))

-- a rule given as a term: ':-'(head, body), or a fact, whose body is `true`
pub record Given : Type 0 where
  pub head : Term
  pub body : Term

abbrev pub fact : Term → Given
fact t = record { head = t; body = constant true_name }

abbrev pub given : Term → Given
given (var v) = fact (var v)
given (int i) = fact (int i)
given (app f nil) = fact (app f nil)
given (app f (cons h nil)) = fact (app f (cons h nil))
given (app f (cons h (cons t nil))) =
    cond (same f (codes ":-")) (record { head = h; body = t }) (fact (app f (cons h (cons t nil))))
given (app f (cons h (cons t (cons u ts)))) = fact (app f (cons h (cons t (cons u ts))))

-- built-in predicates cannot be changed
abbrev pub fixed : Term → Option Term
fixed (var v) = none
fixed (int i) = none
fixed (app f ts) = cond (is_built_in f (count ts)) (some (not_modified f (count ts))) none

abbrev pub integer_body : Term → Option Term
integer_body (var v) = none
integer_body (int i) = some (not_callable (int i))
integer_body (app f ts) = none

abbrev pub or_else : Option Term → Option Term → Option Term
or_else none e = e
or_else (some e) f = some e

-- asserta/1 and assertz/1: the head, the body and the built-in are tested in turn
abbrev pub asserting : End → List ℕ → Term → Action
asserting e f t =
    let x = given (copy t) in
    unless f 1 (or_else (uncallable (given t).head) (or_else (integer_body (given t).body) (fixed (given t).head)))
    (stores e (record { head = x.head; body = goal_form x.body; variables = width t }))

-- retract/1: the head and the built-in are tested in turn
abbrev pub retracting : Term → Action
retracting t =
    unless (codes "retract") 1 (or_else (uncallable (given t).head) (fixed (given t).head))
    (retracts (given t).head (given t).body)

abbrev pub with_none : Env → List ℕ → Action
with_none b f =
    cond (same f true_name) (go_on b)
    (cond (same f (codes "fail") || same f (codes "false")) leaves
    (cond (same f (codes "!")) cuts
    (invokes f 0)))

abbrev pub with_one : Env → List ℕ → Term → Action
with_one b f s =
    cond (same f call_name) (call b s)
    (cond (same f (codes "\\+")) (unless f 1 (uncallable (resolve b s)) (nots s))
    (cond (same f (codes "throw")) (throwing (resolve b s))
    (cond (same f (codes "asserta")) (asserting front f (resolve b s))
    (cond (same f (codes "assertz")) (asserting back f (resolve b s))
    (cond (same f (codes "retract")) (retracting (resolve b s))
    (invokes f 1))))))

abbrev pub comparing : Env → List ℕ → Term → Term → Option Comparison → Action
comparing b f s t none = invokes f 2
comparing b f s t (some k) = weighed b f k (evaluate (resolve b s)) (evaluate (resolve b t))

abbrev pub with_two : Env → List ℕ → Term → Term → Action
with_two b f s t =
    cond (same f comma_name) (both s t)
    (cond (same f semicolon_name) (either s t)
    (cond (same f (codes "=")) (onward (unify_in b s t))
    (cond (same f (codes "is")) (assigned b s (evaluate (resolve b t)))
    (cond (same f call_name) (extended 2 (resolve b s) (cons t nil))
    (comparing b f s t (comparison_of f))))))

abbrev pub with_three : Env → List ℕ → Term → Term → Term → Action
with_three b f s t u =
    cond (same f (codes "catch")) (unless f 3 (uncallable (resolve b s)) (catches s t u))
    (cond (same f (codes "findall")) (findall b s t u)
    (cond (same f call_name) (extended 3 (resolve b s) (cons t (cons u nil)))
    (invokes f 3)))

abbrev pub with_more : Env → List ℕ → Term → Terms → ℕ → Action
with_more b f s ts n = cond (same f call_name && nat_lt n 9) (extended n (resolve b s) ts) (invokes f n)

-- what a goal does under these bindings
abbrev pub action_of : Env → Term → Action
action_of b (var v) = call b (var v)
action_of b (int i) = call b (int i)
action_of b (app f nil) = with_none b f
action_of b (app f (cons s nil)) = with_one b f s
action_of b (app f (cons s (cons t nil))) = with_two b f s t
action_of b (app f (cons s (cons t (cons u nil)))) = with_three b f s t u
action_of b (app f (cons s (cons t (cons u (cons v ts))))) =
    with_more b f s (cons t (cons u (cons v ts))) (4 + count ts)
