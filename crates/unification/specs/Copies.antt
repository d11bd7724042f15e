-- The canonical copy of a term: its variables renamed in the order of their first appearance.
use Rattle.std.specs.Prelude.{ℕ, suc, ◌+◌, cond, List, [], ◌∷◌, length, ◌==◌}
use Rattle.terms.specs.Term.{Term, Terms, var, int, app, nil, cons}
use Rattle.unification.specs.Substitution.{Sub, inst, insts}

-- the place of x in a list, its length if x is not in it
abbrev pub place : List ℕ → ℕ → ℕ
place [] x = 0
place (y ∷ ys) x = cond (y == x) 0 (suc (place ys x))

-- a variable that was not seen before joins the list
abbrev pub meet : List ℕ → ℕ → List ℕ
meet [] x = x ∷ []
meet (y ∷ ys) x = cond (y == x) (y ∷ ys) (y ∷ meet ys x)

-- the variables seen after a term, each once
abbrev mutual
  pub seen : List ℕ → Term → List ℕ
  seen ys (var x) = meet ys x
  seen ys (int i) = ys
  seen ys (app f ts) = seens ys ts

  pub seens : List ℕ → Terms → List ℕ
  seens ys nil = ys
  seens ys (cons t ts) = seens (seen ys t) ts

-- how many different variables
abbrev pub width : Term → ℕ
width t = length (seen [] t)

-- each variable by its place, from n on
abbrev pub numbered : ℕ → List ℕ → Sub
numbered n ys x = var (n + place ys x)

abbrev pub copy_from : ℕ → Term → Term
copy_from n t = inst (numbered n (seen [] t)) t

abbrev pub copy : Term → Term
copy t = copy_from 0 t

-- n added to every variable
abbrev pub later : ℕ → Sub
later n x = var (n + x)

abbrev pub shift : ℕ → Term → Term
shift n t = inst (later n) t

abbrev pub shifts : ℕ → Terms → Terms
shifts n ts = insts (later n) ts
