-- Worked examples of written terms, by computation.
use Rattle.std.proofs.Common.{◌≡◌, ℕ, true, false, List, [], codes, refl}
use Rattle.grammar.specs.Written.{Written, var, int, app, nil, cons, pair}
use Rattle.writing.specs.Writing.{text}
use Rattle.writing.specs.ReadBack.{readable}

abbrev atom : List ℕ → Written
atom a = app a nil

abbrev one : List ℕ → Written → Written
one f t = app f (cons t nil)

abbrev and : Written → Written → Written
and t u = pair (codes ",") t u

abbrev cell : Written → Written → Written
cell t u = pair (codes ".") t u

abbrev a : Written
a = atom (codes "a")

abbrev b : Written
b = atom (codes "b")

abbrev c : Written
c = atom (codes "c")

abbrev empty : Written
empty = atom (codes "[]")

plain_arguments :
    text (app (codes "f")
    (cons (var (codes "X")) (cons (atom (codes "it's")) (cons (cell a (cell b (var (codes "T")))) nil))))
    ≡ codes "f(X,'it''s',[a,b|T])"
plain_arguments = refl

conjunctions : text (and (and a b) (and c (atom (codes "d")))) ≡ codes "((a,b),c,d)"
conjunctions = refl

conjunction_in_list : text (cell (and a b) (cell c empty)) ≡ codes "[(a,b),c]"
conjunction_in_list = refl

list_before_conjunction : text (cell a (and b c)) ≡ codes "[a|(b,c)]"
list_before_conjunction = refl

list_in_conjunction : text (and a (cell b empty)) ≡ codes "(a,[b])"
list_in_conjunction = refl

conjunction_in_arguments : text (app (codes "f") (cons (and a b) (cons c (cons (and b c) nil))))
    ≡ codes "f((a,b),c,(b,c))"
conjunction_in_arguments = refl

nested_lists : text (cell (cell a empty) (cell empty empty)) ≡ codes "[[a],[]]"
nested_lists = refl

the_empty_list : text empty ≡ codes "[]"
the_empty_list = refl

empty_with_arguments : text (one (codes "[]") a) ≡ codes "'[]'(a)"
empty_with_arguments = refl

comma_with_one_argument : text (one (codes ",") a) ≡ codes "','(a)"
comma_with_one_argument = refl

dot_with_one_argument : text (one (codes ".") a) ≡ codes "'.'(a)"
dot_with_one_argument = refl

comma_and_dot : text (and (atom (codes ",")) (atom (codes "."))) ≡ codes "(',','.')"
comma_and_dot = refl

integers : text (pair (codes "-") (int (codes "-5")) (int (codes "5"))) ≡ codes "-(-5,5)"
integers = refl

symbols : text (one (codes "\\+") (atom (codes "\\"))) ≡ codes "\\+(\\)"
symbols = refl

neck_and_no_name : text (pair (codes ":-") (atom []) (atom (codes ";"))) ≡ codes "':-'('',;)"
neck_and_no_name = refl

cut_and_capital : text (and (atom (codes "!")) (atom (codes "Ab"))) ≡ codes "(!,'Ab')"
cut_and_capital = refl

-- one bracket for a list however long, one more for what it holds
brackets_of_a_list : readable 1 (cell a (cell b (cell c empty))) ≡ true
brackets_of_a_list = refl

brackets_inside_a_list : readable 1 (cell a (cell (one (codes "f") b) empty)) ≡ false
brackets_inside_a_list = refl
