-- Worked examples by computation: the sentence that a text is, or the brackets still allowed and the bytes left
-- at the first byte that no text has there.
use Rattle.std.proofs.Common.{◌≡◌, ℕ, zero, suc, List, [], ◌++◌, codes, refl}
use Prim.Native.String.{String}
use Rattle.grammar.specs.Written.{Written, Writtens, var, int, app, nil, cons, conj, list_of, empty_list, Sentence}
use Rattle.grammar.specs.Written.{fact, rule, query}
use Rattle.grammar.specs.Grammar.{Goal, a_rule, a_query}
use Rattle.grammar.specs.Machine.{good, bad}
use Rattle.grammar.specs.Theorem.{judged}

abbrev Reads : Goal → String → Sentence → Type 0
Reads g s d = judged g (codes s) ≡ good d

abbrev Stops : Goal → String → ℕ → String → Type 0
Stops g s n r = judged g (codes s) ≡ bad n (codes r)

abbrev atom : String → Written
atom s = app (codes s) nil

abbrev some_var : String → Written
some_var s = var (codes s)

abbrev alone : Written → Writtens
alone t = cons t nil

abbrev two : Written → Written → Writtens
two t u = cons t (alone u)

abbrev with_argument : String → Written → Written
with_argument f t = app (codes f) (alone t)

abbrev three : Writtens
three = cons (atom "a") (two (atom "b") (atom "c"))

-- Facts, rules and queries.

one_name : Reads a_rule "a." (fact (atom "a"))
one_name = refl

rule_of_two_goals : Reads a_rule "f(X,Y):-g(X),h(Y)."
    (rule (app (codes "f") (two (some_var "X") (some_var "Y")))
    (conj (two (with_argument "g" (some_var "X")) (with_argument "h" (some_var "Y")))))
rule_of_two_goals = refl

rule_with_spaces : Reads a_rule "a :- b , c ." (rule (atom "a") (conj (two (atom "b") (atom "c"))))
rule_with_spaces = refl

query_of_two : Reads a_query "a,b." (query (conj (two (atom "a") (atom "b"))))
query_of_two = refl

query_of_one : Reads a_query "a." (query (atom "a"))
query_of_one = refl

no_comma_in_fact : Stops a_rule "a,b." 64 ",b."
no_comma_in_fact = refl

no_neck_in_query : Stops a_query "a:" 64 ":"
no_neck_in_query = refl

neck_may_come : Stops a_rule "a:" 64 ""
neck_may_come = refl

half_a_neck : Stops a_rule "a:b." 64 "b."
half_a_neck = refl

neck_parted : Stops a_rule "a : - b." 64 " - b."
neck_parted = refl

neck_not_first : Stops a_rule ":-a." 64 "a."
neck_not_first = refl

one_neck_only : Stops a_rule "a:-b:-c." 64 ":-c."
one_neck_only = refl

long_run_no_neck : Stops a_rule "q:-\\+(a)." 64 "\\+(a)."
long_run_no_neck = refl

ends_early : Stops a_rule "a" 64 ""
ends_early = refl

empty : Stops a_rule "" 64 ""
empty = refl

-- Spaces stand between tokens only.

space_first : Stops a_rule " a." 64 " a."
space_first = refl

space_last : Stops a_rule "a. " 64 " "
space_last = refl

nothing_behind_stop : Stops a_rule "a.b" 64 "b"
nothing_behind_stop = refl

-- Names with terms in round brackets.

arguments : Reads a_rule "f(a,b)." (fact (app (codes "f") (two (atom "a") (atom "b"))))
arguments = refl

symbols_with_arguments : Reads a_rule "+(a)." (fact (with_argument "+" (atom "a")))
symbols_with_arguments = refl

quoted_with_arguments : Reads a_rule "'f g'(a)." (fact (with_argument "f g" (atom "a")))
quoted_with_arguments = refl

no_empty_arguments : Stops a_rule "f()." 63 ")."
no_empty_arguments = refl

space_before_arguments : Stops a_rule "a (b)." 64 "(b)."
space_before_arguments = refl

arguments_twice : Stops a_rule "f(a)(b)." 64 "(b)."
arguments_twice = refl

comma_before_bracket : Stops a_rule "f(a,)." 63 ")."
comma_before_bracket = refl

other_bracket : Stops a_rule "f(a]." 63 "]."
other_bracket = refl

bracket_open : Stops a_rule "f(g(a)" 63 ""
bracket_open = refl

stop_in_brackets : Stops a_rule "f(a." 63 "."
stop_in_brackets = refl

unopened_bracket : Stops a_rule "a)." 64 ")."
unopened_bracket = refl

-- Conjunctions in round brackets.

conjunction : Reads a_rule "(a,b,c) ." (fact (conj three))
conjunction = refl

brackets_alone : Reads a_rule "(a)." (fact (atom "a"))
brackets_alone = refl

conjunction_as_pairs : Reads a_query "(a,b)." (query (app (codes ",") (two (atom "a") (atom "b"))))
conjunction_as_pairs = refl

no_empty_conjunction : Stops a_rule "()." 63 ")."
no_empty_conjunction = refl

-- Lists.

list_before_variable : Reads a_rule "[a,b|T]." (fact (list_of (two (atom "a") (atom "b")) (some_var "T")))
list_before_variable = refl

list_as_pairs : Reads a_rule "[a]." (fact (app (codes ".") (two (atom "a") (atom "[]"))))
list_as_pairs = refl

list_of_three : Reads a_rule "[a, b, c]." (fact (list_of three empty_list))
list_of_three = refl

list_in_list : Reads a_rule "[[],[a]]."
    (fact (list_of (two empty_list (list_of (alone (atom "a")) empty_list)) empty_list))
list_in_list = refl

no_elements : Reads a_rule "[ ]." (fact empty_list)
no_elements = refl

one_tail_only : Stops a_rule "[a|b,c]." 63 ",c]."
one_tail_only = refl

tail_of_nothing : Stops a_rule "[|a]." 63 "|a]."
tail_of_nothing = refl

no_tail : Stops a_rule "[a|]." 63 "]."
no_tail = refl

comma_before_square : Stops a_rule "[a,]." 63 "]."
comma_before_square = refl

bar_in_round : Stops a_rule "(a|b)." 63 "|b)."
bar_in_round = refl

list_is_no_name : Stops a_rule "[](a)." 64 "(a)."
list_is_no_name = refl

-- Names.

small_letter_word : Reads a_rule "aB_1." (fact (atom "aB_1"))
small_letter_word = refl

longest_run : Reads a_rule "=\\= ." (fact (atom "=\\="))
longest_run = refl

longer_than_neck : Reads a_rule ":-- ." (fact (atom ":--"))
longer_than_neck = refl

cut_and_semicolon : Reads a_rule ";(!,a)." (fact (app (codes ";") (two (atom "!") (atom "a"))))
cut_and_semicolon = refl

quote_in_quotes : Reads a_rule "'a''b'." (fact (atom "a'b"))
quote_in_quotes = refl

empty_quoted_name : Reads a_rule "''." (fact (atom ""))
empty_quoted_name = refl

quoted_neck : Reads a_rule "':-'." (fact (atom ":-"))
quoted_neck = refl

open_quote : Stops a_rule "'a" 64 ""
open_quote = refl

quoted_where_no_term : Stops a_rule "a 'b" 64 "'b"
quoted_where_no_term = refl

neck_in_brackets : Stops a_rule "f(:-)." 63 ")."
neck_in_brackets = refl

names_in_a_row : Stops a_rule "a b." 64 "b."
names_in_a_row = refl

semicolon_between : Stops a_rule "a:-b;c." 64 ";c."
semicolon_between = refl

stray_byte : Stops a_rule "f(a#b)." 63 "#b)."
stray_byte = refl

-- Variables and integers.

variables : Reads a_rule "f(X,_y1)." (fact (app (codes "f") (two (some_var "X") (some_var "_y1"))))
variables = refl

integer : Reads a_rule "007." (fact (int (codes "007")))
integer = refl

negative_integer : Reads a_rule "f(-5)." (fact (with_argument "f" (int (codes "-5"))))
negative_integer = refl

sign_parted : Stops a_rule "- 5." 64 "5."
sign_parted = refl

longer_run_no_sign : Stops a_rule "f(--5)." 63 "5)."
longer_run_no_sign = refl

minus_between : Stops a_rule "f(1-2)." 63 "-2)."
minus_between = refl

word_behind_digits : Stops a_rule "5a." 64 "a."
word_behind_digits = refl

variable_is_no_name : Stops a_rule "X(a)." 64 "(a)."
variable_is_no_name = refl

integer_is_no_name : Stops a_rule "1(a)." 64 "(a)."
integer_is_no_name = refl

-- At most 64 brackets are open at one place.

abbrev many : ℕ → List ℕ → List ℕ → List ℕ
many zero u s = s
many (suc n) u s = u ++ many n u s

all_64_brackets : judged a_rule (many 64 (codes "(") (codes "a" ++ many 64 (codes ")") (codes ".")))
    ≡ good (fact (atom "a"))
all_64_brackets = refl

the_65th_bracket : judged a_rule (many 65 (codes "(") (codes "a")) ≡ bad 0 (codes "(a")
the_65th_bracket = refl

the_65th_arguments : judged a_rule (many 64 (codes "[") (codes "f(a")) ≡ bad 0 (codes "(a")
the_65th_arguments = refl

closed_brackets_are_free : judged a_query (many 70 (codes "(a),") (codes "a")) ≡ bad 64 []
closed_brackets_are_free = refl
