-- Goal positions: a term itself and both arguments of a `,`/2 or `;`/2 at a goal position.
-- A variable or integer V at one becomes call(V).
use Rattle.std.specs.Prelude.{ℕ, Bool, true, false, cond, ◌&&◌, ◌||◌, List, [], ◌∷◌, ◌==◌}
use Rattle.terms.specs.Term.{Term, Terms, var, int, app, nil, cons, count}
use Rattle.terms.specs.Known.{call_name, comma_name, semicolon_name}

abbrev pub same : List ℕ → List ℕ → Bool
same [] [] = true
same [] (y ∷ ys) = false
same (x ∷ xs) [] = false
same (x ∷ xs) (y ∷ ys) = x == y && same xs ys

-- the names whose two arguments are goals where they are one
abbrev pub is_control : List ℕ → Bool
is_control f = same f comma_name || same f semicolon_name

abbrev mutual
  pub goal_form : Term → Term
  goal_form (var v) = app call_name (cons (var v) nil)
  goal_form (int i) = app call_name (cons (int i) nil)
  goal_form (app f ts) = app f (goal_forms (is_control f && count ts == 2) ts)

  -- the arguments, each at a goal position or none
  pub goal_forms : Bool → Terms → Terms
  goal_forms b nil = nil
  goal_forms b (cons t ts) = cons (cond b (goal_form t) t) (goal_forms b ts)
