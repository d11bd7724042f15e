-- The error terms. A ball of the engine is error(E, Name/Arity), with the name and the number of arguments of the goal.
use Rattle.std.specs.Prelude.{ℕ, List, pos, codes}
use Rattle.terms.specs.Term.{Term, int, app, nil, cons}

abbrev pub constant : List ℕ → Term
constant f = app f nil

abbrev pub one : List ℕ → Term → Term
one f a = app f (cons a nil)

abbrev pub two : List ℕ → Term → Term → Term
two f a b = app f (cons a (cons b nil))

abbrev pub indicator : List ℕ → ℕ → Term
indicator f n = two (codes "/") (constant f) (int (pos n))

-- the ball for the error e of a goal with this name and number of arguments
abbrev pub error_at : Term → List ℕ → ℕ → Term
error_at e f n = two (codes "error") e (indicator f n)

abbrev pub instantiation : Term
instantiation = constant (codes "instantiation_error")

abbrev pub not_callable : Term → Term
not_callable t = two (codes "type_error") (constant (codes "callable")) t

abbrev pub not_list : Term → Term
not_list t = two (codes "type_error") (constant (codes "list")) t

abbrev pub not_evaluable : List ℕ → ℕ → Term
not_evaluable f n = two (codes "type_error") (constant (codes "evaluable")) (indicator f n)

abbrev pub no_procedure : List ℕ → ℕ → Term
no_procedure f n = two (codes "existence_error") (constant (codes "procedure")) (indicator f n)

abbrev pub zero_divisor : Term
zero_divisor = one (codes "evaluation_error") (constant (codes "zero_divisor"))

abbrev pub int_overflow : Term
int_overflow = one (codes "evaluation_error") (constant (codes "int_overflow"))

abbrev pub too_many_arguments : Term
too_many_arguments = one (codes "representation_error") (constant (codes "max_arity"))

abbrev pub not_modified : List ℕ → ℕ → Term
not_modified f n =
    app (codes "permission_error")
    (cons (constant (codes "modify")) (cons (constant (codes "static_procedure")) (cons (indicator f n) nil)))
