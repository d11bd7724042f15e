-- Worked examples of what is written and of what it reads back as, by computation.
use Rattle.std.proofs.Common.{◌≡◌, ℕ, List, [], ◌∷◌, pos, negsuc, codes, refl, arith}
use Rattle.std.specs.Fmt.{digits}
use Rattle.terms.specs.Term.{Term, var, int, app, nil, cons}
use Rattle.text.specs.Numbering.{met, numbered}
use Rattle.writer.specs.Shown.{firsts, shown}
use Rattle.readback.specs.Renaming.{in_order}
use Rattle.readback.specs.ReadBack.{nesting, written_behind, Writable}

abbrev pair : List ℕ → Term → Term → Term
pair f t u = app f (cons t (cons u nil))

-- p(_0,[-12|_1]), with the variables 7 and 3
abbrev head : Term
head = pair (codes "p") (var 7) (pair (codes ".") (int (negsuc 11)) (var 3))

-- q(_2,_0), with the variables 5 and 7
abbrev body : Term
body = pair (codes "q") (var 5) (var 7)

head_variables : firsts [] head ≡ 7 ∷ 3 ∷ []
head_variables = refl

text_of_head : shown [] head ≡ codes "p(_0,[-12|_1])"
unfolding digits
text_of_head = refl

body_text : shown (firsts [] head) body ≡ codes "q(_2,_0)"
unfolding digits
body_text = refl

head_in_order : in_order head ≡ pair (codes "p") (var 0) (pair (codes ".") (int (negsuc 11)) (var 1))
head_in_order = refl

head_numbered : numbered [] (written_behind [] head) ≡ in_order head
unfolding digits
head_numbered = refl

body_numbered : numbered (met [] (written_behind [] head)) (written_behind (firsts [] head) body)
    ≡ pair (codes "q") (var 2) (var 0)
unfolding digits
body_numbered = refl

two_brackets : nesting (written_behind [] head) ≡ 2
two_brackets = refl

head_writable : Writable [] head
head_writable = record { integers = refl; variables = omega arith; nested = omega arith }

-- [1,2]
abbrev list : Term
list = pair (codes ".") (int (pos 1)) (pair (codes ".") (int (pos 2)) (app (codes "[]") nil))

one_bracket : nesting (written_behind [] list) ≡ 1
one_bracket = refl
