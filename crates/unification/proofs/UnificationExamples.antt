-- Unification and copies on small terms: a table of terms, and of what unification answers.
use Rattle.std.proofs.Common.{◌≡◌, List, [], ◌∷◌, pos, negsuc, codes, refl}
use mathlib.Core.Option.{none, some}
use Rattle.terms.specs.Term.{Term, var, int, app, nil, cons}
use Rattle.unification.specs.Substitution.{bind}
use Rattle.unification.specs.Unifying.{Answer, unify}
use Rattle.unification.specs.Copies.{copy}

abbrev a : Term
a = app (codes "a") nil

abbrev b : Term
b = app (codes "b") nil

abbrev x : Term
x = var 0

abbrev y : Term
y = var 1

abbrev z : Term
z = var 2

abbrev f : Term → Term
f s = app (codes "f") (cons s nil)

abbrev g : Term → Term → Term
g s t = app (codes "g") (cons s (cons t nil))

abbrev dot : Term → Term → Term
dot s t = app (codes ".") (cons s (cons t nil))

abbrev empty : Term
empty = app (codes "[]") nil

-- two terms, and the bindings that unify them
data Row : Type 0 where
  row : Term → Term → Answer → Row

abbrev table : List Row
table =
    row x y (some (bind 1 x ∷ []))
    ∷ row x x (some [])
    ∷ row x (f x) none
    ∷ row (g x (f x)) (g (f y) y) none
    ∷ row (g x y) (g y a) (some (bind 1 x ∷ bind 0 a ∷ []))
    ∷ row (g x (f x)) (g (int (pos 1)) y) (some (bind 0 (int (pos 1)) ∷ bind 1 (f (int (pos 1))) ∷ []))
    ∷ row (g x x) (g a b) none
    ∷ row (int (pos 1)) (int (negsuc 1)) none
    ∷ row (int (negsuc 4)) (int (negsuc 4)) (some [])
    ∷ row (int (pos 1)) (app (codes "1") nil) none
    ∷ row (f a) (g a a) none
    ∷ row (g a x) (app (codes "g") (cons a nil)) none
    ∷ row (dot x (dot y z)) (dot a (dot b empty)) (some (bind 0 a ∷ bind 1 b ∷ bind 2 empty ∷ []))
    ∷ row (g (f (f (f (f x)))) (g x y)) (g (f (f (f y))) (g (f z) (f (f z))))
    (some (bind 1 (f x) ∷ bind 0 (f z) ∷ []))
    ∷ []

abbrev answered : List Row → List Answer
answered [] = []
answered (row s t o ∷ rows) = unify s t ∷ answered rows

abbrev expected : List Row → List Answer
expected [] = []
expected (row s t o ∷ rows) = o ∷ expected rows

table_answered : answered table ≡ expected table
table_answered = refl

example_copied : copy (g (var 5) (g (var 3) (var 5))) ≡ g x (g y x)
example_copied = refl
