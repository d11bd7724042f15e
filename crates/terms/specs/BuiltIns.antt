-- The 29 built-in predicates: by the place of their name among the known ones, and by the name itself.
use Rattle.std.specs.Prelude.{ℕ, Bool, false, cond, ◌&&◌, ◌||◌, List, [], ◌∷◌, codes, ◌==◌, nat_le, nat_lt, slice_index}
use Rattle.std.specs.Prelude.{◌≡◌, ◌≤◌, ◌++◌, Result, MatchResult, decimal}
use Rattle.terms.specs.declared.built_in.BuiltIn.{BuiltIn}
use Rattle.terms.specs.declared.built_in.BuiltIn.TheVariants.{True, Fail, False, And, Or, Cut, Call, Not, Catch, Throw}
use Rattle.terms.specs.declared.built_in.BuiltIn.TheVariants.{FindAll, Unify, Is, Equal, NotEqual, Less, AtMost, Greater}
use Rattle.terms.specs.declared.built_in.BuiltIn.TheVariants.{AtLeast, AssertA, AssertZ, Retract}
use Rattle.terms.specs.declared.built_in.NotBuiltIn.{NotBuiltIn}
use Rattle.terms.specs.Goals.{same}
use Rattle.terms.specs.Known.{call_name, comma_name, semicolon_name, true_name}

-- how many arguments the built-in of each of the first known names takes; `call`, at 6, takes one to eight
abbrev pub arities : List ℕ
arities =
    0 ∷ 0 ∷ 0 ∷ 2 ∷ 2 ∷ 0 ∷ 1 ∷ 1 ∷ 3 ∷ 1 ∷ 3
    ∷ 2 ∷ 2 ∷ 2 ∷ 2 ∷ 2 ∷ 2 ∷ 2 ∷ 2 ∷ 1 ∷ 1 ∷ 1 ∷ []

-- whether the known name at a place is a built-in predicate of so many arguments
abbrev pub built_in : ℕ → ℕ → Bool
built_in f n = cond (f == 6) (nat_le 1 n && nat_le n 8) (nat_lt f 22 && n == slice_index arities f)

-- the place of its name among the known ones
abbrev pub place : BuiltIn → ℕ
place True = 0
place Fail = 1
place False = 2
place And = 3
place Or = 4
place Cut = 5
place Call = 6
place Not = 7
place Catch = 8
place Throw = 9
place FindAll = 10
place Unify = 11
place Is = 12
place Equal = 13
place NotEqual = 14
place Less = 15
place AtMost = 16
place Greater = 17
place AtLeast = 18
place AssertA = 19
place AssertZ = 20
place Retract = 21

-- the built-in predicate whose name has this place, or the place itself where no such name has it
abbrev pub NamedBy : ℕ → Result BuiltIn NotBuiltIn → Type 0
NamedBy f r = MatchResult r (λ b. place b ≡ f) (λ e. (e.0 ≡ f) × (22 ≤ f))

-- what is said where the name at a place is none of them
abbrev pub fault_text : NotBuiltIn → List ℕ
fault_text e = codes "the name at " ++ decimal e.0 ++ codes " is not that of a built-in predicate"

-- whether a name is one of these
abbrev pub one_of : List ℕ → List (List ℕ) → Bool
one_of b [] = false
one_of b (x ∷ xs) = same b x || one_of b xs

abbrev pub with_none : List (List ℕ)
with_none = true_name ∷ codes "fail" ∷ codes "false" ∷ codes "!" ∷ []

abbrev pub with_one : List (List ℕ)
with_one = codes "\\+" ∷ codes "throw" ∷ codes "asserta" ∷ codes "assertz" ∷ codes "retract" ∷ []

abbrev pub with_two : List (List ℕ)
with_two =
    comma_name ∷ semicolon_name ∷ codes "=" ∷ codes "is" ∷ codes "=:=" ∷ codes "=\\="
    ∷ codes "<" ∷ codes "=<" ∷ codes ">" ∷ codes ">=" ∷ []

abbrev pub with_three : List (List ℕ)
with_three = codes "catch" ∷ codes "findall" ∷ []

-- whether a name and so many arguments are those of a built-in predicate
abbrev pub is_built_in : List ℕ → ℕ → Bool
is_built_in b n =
    ((nat_le 1 n && nat_le n 8) && same b call_name)
    || ((n == 0 && one_of b with_none)
    || ((n == 1 && one_of b with_one)
    || ((n == 2 && one_of b with_two)
    || (n == 3 && one_of b with_three))))
