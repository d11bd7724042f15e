-- Terms and what they are shown as.
use Rattle.std.proofs.Common.{◌≡◌, ℕ, List, [], pos, negsuc, codes, refl}
use Rattle.std.specs.Fmt as std
use Rattle.terms.specs.Term.{Term, var, int, app, nil, cons}
use Rattle.writer.specs.Shown.{firsts, shown}

constant : List ℕ → Term
constant f = app f nil

two : List ℕ → Term → Term → Term
two f a b = app f (cons a (cons b nil))

-- variables by the order in which they appear
variables_shown : shown [] (app (codes "f") (cons (var 5) (cons (var 2) (cons (var 5) nil)))) ≡ codes "f(_0,_1,_0)"
unfolding std.digits
variables_shown = refl

-- behind a head in which 5 appeared
variables_go_on : shown (firsts [] (var 5)) (two (codes "=") (var 7) (var 5)) ≡ codes "=(_1,_0)"
unfolding two std.digits
variables_go_on = refl

list_shown : shown [] (two (codes ".") (constant (codes "a")) (two (codes ".") (int (pos 12)) (var 9))) ≡ codes "[a,12|_0]"
unfolding constant two std.digits
list_shown = refl

conjunction_shown : shown [] (app (codes "f") (cons (two (codes ",") (int (negsuc 6)) (constant (codes "b"))) nil))
    ≡ codes "f((-7,b))"
unfolding constant two std.digits
conjunction_shown = refl

quotes_shown : shown [] (two (codes "it's") (constant (codes "[]")) (constant (codes "A"))) ≡ codes "'it''s'([],'A')"
unfolding constant two
quotes_shown = refl
