-- Unification with the occurs check, from left to right, the younger variable bound to the older.
use Rattle.std.specs.Prelude.{ℕ, zero, suc, Bool, false, cond, [], ◌∷◌, ◌++◌, length, ℤ, pos, negsuc, ◌==◌, nat_lt}
use Rattle.std.proofs.Math.Option.{Option, none, some}
use Rattle.terms.specs.Term.{Term, Terms, var, int, app, nil, cons}
use Rattle.terms.specs.Goals.{same}
use Rattle.unification.specs.Substitution.{bind, Bindings, applys, lackss, vars, varss}

abbrev pub same_int : ℤ → ℤ → Bool
same_int (pos m) (pos n) = m == n
same_int (pos m) (negsuc n) = false
same_int (negsuc m) (pos n) = false
same_int (negsuc m) (negsuc n) = m == n

-- the bindings that make two terms the same, if some do
abbrev pub Answer : Type 0
Answer = Option Bindings

-- these bindings before those of the answer
abbrev pub before : Bindings → Answer → Answer
before σ none = none
before σ (some τ) = some (σ ++ τ)

abbrev pub unify_var : ℕ → Term → Answer
unify_var x (var y) = cond (x == y) (some []) (some (cond (nat_lt x y) (bind y (var x)) (bind x (var y)) ∷ []))
unify_var x (int i) = some (bind x (int i) ∷ [])
unify_var x (app f ts) = cond (lackss x ts) (some (bind x (app f ts) ∷ [])) none

-- how argument lists are unified after a binding was made
abbrev pub Rest : Type 0
Rest = Terms → Terms → Answer

-- the first arguments gave the last answer here, and the others as they stand would give r
abbrev pub after : Rest → Terms → Terms → Answer → Answer → Answer
after rest ps qs r none = none
after rest ps qs r (some []) = r
after rest ps qs r (some (b ∷ σ)) = before (b ∷ σ) (rest (applys (b ∷ σ) ps) (applys (b ∷ σ) qs))

abbrev mutual
  pub unify_term : Rest → Term → Term → Answer
  unify_term rest (var x) t = unify_var x t
  unify_term rest (int i) (var y) = unify_var y (int i)
  unify_term rest (int i) (int j) = cond (same_int i j) (some []) none
  unify_term rest (int i) (app g qs) = none
  unify_term rest (app f ps) (var y) = unify_var y (app f ps)
  unify_term rest (app f ps) (int j) = none
  unify_term rest (app f ps) (app g qs) = let r = unify_terms rest ps qs in cond (same f g) r none

  pub unify_terms : Rest → Terms → Terms → Answer
  unify_terms rest nil nil = some []
  unify_terms rest nil (cons q qs) = none
  unify_terms rest (cons p ps) nil = none
  unify_terms rest (cons p ps) (cons q qs) = let r = unify_terms rest ps qs in after rest ps qs r (unify_term rest p q)

-- with n variables at most, one of which has been bound
abbrev pub rest : ℕ → Rest
rest zero ps qs = none
rest (suc n) ps qs = unify_terms (rest n) ps qs

-- with n variables at most
abbrev pub unify_at : ℕ → Term → Term → Answer
unify_at n s t = unify_term (rest n) s t

abbrev pub unify : Term → Term → Answer
unify s t = unify_at (length (vars s ++ vars t)) s t

abbrev pub unifys : Terms → Terms → Answer
unifys ps qs = unify_terms (rest (length (varss ps ++ varss qs))) ps qs
