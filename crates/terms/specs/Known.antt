-- The names that every table of names begins with: built-ins, functions, error terms, and `/`, `[]`, `.`, `:-`.
use Rattle.std.specs.Prelude.{ℕ, List, [], ◌∷◌, codes}

abbrev pub call_name : List ℕ
call_name = codes "call"

abbrev pub comma_name : List ℕ
comma_name = codes ","

abbrev pub semicolon_name : List ℕ
semicolon_name = codes ";"

abbrev pub true_name : List ℕ
true_name = codes "true"

abbrev pub empty_name : List ℕ
empty_name = codes "[]"

abbrev pub dot_name : List ℕ
dot_name = codes "."

abbrev pub known : List (List ℕ)
known =
    true_name ∷ codes "fail" ∷ codes "false" ∷ comma_name ∷ semicolon_name ∷ codes "!" ∷ call_name ∷ codes "\\+"
    ∷ codes "catch" ∷ codes "throw" ∷ codes "findall" ∷ codes "=" ∷ codes "is" ∷ codes "=:=" ∷ codes "=\\="
    ∷ codes "<" ∷ codes "=<" ∷ codes ">" ∷ codes ">=" ∷ codes "asserta" ∷ codes "assertz" ∷ codes "retract"
    ∷ codes "+" ∷ codes "-" ∷ codes "*" ∷ codes "//" ∷ codes "mod" ∷ codes "abs"
    ∷ codes "error" ∷ codes "instantiation_error" ∷ codes "type_error" ∷ codes "callable" ∷ codes "list" ∷ codes "evaluable"
    ∷ codes "existence_error" ∷ codes "procedure" ∷ codes "evaluation_error" ∷ codes "zero_divisor" ∷ codes "int_overflow"
    ∷ codes "representation_error" ∷ codes "max_arity" ∷ codes "permission_error" ∷ codes "modify" ∷ codes "static_procedure"
    ∷ codes "/" ∷ empty_name ∷ dot_name ∷ codes ":-" ∷ []
