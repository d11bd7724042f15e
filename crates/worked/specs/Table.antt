-- The worked examples: rules, a query, and what it tells with the number of steps that each answer and the end take.
use Rattle.std.specs.Prelude.{◌≡◌, ℕ, List, [], ◌∷◌, ◌++◌, map, codes}
use Rattle.worked.specs.Playing.{Reply, answer, no, failure, played, Seen, seen, told_leaves, told_end}

pub data Row : Type 0 where
  row : List (List ℕ) → List ℕ → List Reply → Row

-- texts with a tab between them
abbrev pub tabbed : List (List ℕ) → List ℕ
tabbed [] = []
tabbed (s ∷ []) = s
tabbed (s ∷ t ∷ ts) = s ++ 9 ∷ tabbed (t ∷ ts)

abbrev pub table : List Row
table =
    -- A fact that holds.
    row []
    (codes "true.")
    (answer 2 (codes "-")
    ∷ no 1
    ∷ [])
    -- The occurs check.
    ∷ row []
    (codes "=(X,f(X)).")
    (no 2
    ∷ [])
    -- A ball is caught.
    ∷ row []
    (codes "catch(throw(a),X,true).")
    (answer 6 (codes "a")
    ∷ no 2
    ∷ [])
    -- A catch does not guard what follows it.
    ∷ row []
    (codes "catch(true,_,true),throw(b).")
    (failure 6 (codes "b")
    ∷ [])
    -- A variable bound late to a cut cuts nothing but its own call.
    ∷ row []
    (codes "call((;(=(X,!),=(X,true)),X)).")
    (answer 7 (codes "!")
    ∷ answer 5 (codes "true")
    ∷ no 3
    ∷ [])
    -- `mod` has the sign of the divisor, `//` is rounded toward zero.
    ∷ row []
    (codes "is(X,mod(-7,2)),is(Y,//(-7,2)).")
    (answer 4 (tabbed (codes "1" ∷ codes "-3" ∷ []))
    ∷ no 1
    ∷ [])
    -- An overflow.
    ∷ row []
    (codes "is(X,*(65536,32768)).")
    (failure 2 (codes "error(evaluation_error(int_overflow),/(is,2))")
    ∷ [])
    -- No overflow.
    ∷ row []
    (codes "is(X,*(65536,-32768)).")
    (answer 2 (codes "-2147483648")
    ∷ no 1
    ∷ [])
    -- A rule that was erased still counts in its retract try.
    ∷ row []
    (codes "assertz(k(1)),assertz(k(2)),retract(k(X)),;(=(X,2),(retract(k(2)),fail)).")
    (answer 17 (codes "2")
    ∷ no 3
    ∷ [])
    -- Two facts.
    ∷ row (codes "v(1)." ∷ codes "v(2)." ∷ [])
    (codes "v(X).")
    (answer 4 (codes "1")
    ∷ answer 3 (codes "2")
    ∷ no 2
    ∷ [])
    -- A cut of the query.
    ∷ row (codes "v(1)." ∷ codes "v(2)." ∷ [])
    (codes "v(X),!.")
    (answer 6 (codes "1")
    ∷ no 1
    ∷ [])
    -- A call of a cut cuts nothing of its caller.
    ∷ row (codes "v(1)." ∷ codes "v(2)." ∷ [])
    (codes "v(X),=(Y,!),Y.")
    (answer 9 (tabbed (codes "1" ∷ codes "!" ∷ []))
    ∷ answer 8 (tabbed (codes "2" ∷ codes "!" ∷ []))
    ∷ no 3
    ∷ [])
    -- A cut in a rule cuts the other rules and the goals before it.
    ∷ row (codes "v(1)." ∷ codes "v(2)." ∷ codes "w(X) :- v(X),!." ∷ codes "w(9)." ∷ [])
    (codes "w(X).")
    (answer 8 (codes "1")
    ∷ no 2
    ∷ [])
    -- A ball behind a catch is not for it.
    ∷ row (codes "v(1)." ∷ codes "v(2)." ∷ [])
    (codes "catch(v(X),_,true),>(X,1),throw(late).")
    (failure 15 (codes "late")
    ∷ [])
    -- A predicate without rules stays known.
    ∷ row []
    (codes "assertz(k(1)),retract(k(1)),k(X).")
    (no 8
    ∷ [])
    -- A predicate that was never known.
    ∷ row []
    (codes "k(X).")
    (failure 2 (codes "error(existence_error(procedure,/(k,1)),/(k,1))")
    ∷ [])
    -- A ball passes through a findall.
    ∷ row (codes "v(1)." ∷ codes "v(2)." ∷ [])
    (codes "catch(findall(X,(v(X),throw(b)),L),E,true).")
    (answer 12 (tabbed (codes "_0" ∷ codes "_1" ∷ codes "b" ∷ []))
    ∷ no 2
    ∷ [])
    -- A cut inside a negation.
    ∷ row (codes "v(1)." ∷ codes "v(2)." ∷ [])
    (codes "\\+((v(X),!,fail)).")
    (answer 11 (codes "_0")
    ∷ no 2
    ∷ [])
    -- A cut inside a findall.
    ∷ row (codes "v(1)." ∷ codes "v(2)." ∷ [])
    (codes "findall(X,(v(X),!),L).")
    (answer 11 (tabbed (codes "_0" ∷ codes "[1]" ∷ []))
    ∷ no 1
    ∷ [])
    -- A cut inside a catch.
    ∷ row (codes "v(1)." ∷ codes "v(2)." ∷ [])
    (codes ";(catch((v(X),!),_,true),=(X,9)).")
    (answer 10 (codes "1")
    ∷ answer 4 (codes "9")
    ∷ no 1
    ∷ [])
    -- A rule added while its predicate is called is not tried.
    ∷ row (codes "v(1)." ∷ codes "v(2)." ∷ [])
    (codes "v(X),assertz(v(3)).")
    (answer 6 (codes "1")
    ∷ answer 4 (codes "2")
    ∷ no 2
    ∷ [])
    -- A rule erased while its predicate is called is still tried.
    ∷ row (codes "v(1)." ∷ codes "v(2)." ∷ [])
    (codes "v(X),;(retract(v(2)),true).")
    (answer 9 (codes "1")
    ∷ answer 2 (codes "1")
    ∷ answer 7 (codes "2")
    ∷ no 2
    ∷ [])
    -- Each result of a findall has new variables.
    ∷ row (codes "v(1)." ∷ codes "v(2)." ∷ [])
    (codes "findall(f(X,Y,Z,Y),v(X),L).")
    (answer 13 (tabbed (codes "_0" ∷ codes "_1" ∷ codes "_2" ∷ codes "[f(1,_3,_4,_3),f(2,_5,_6,_5)]" ∷ []))
    ∷ no 1
    ∷ [])
    -- A call with more arguments.
    ∷ row []
    (codes "call(=(X),5),call(;,fail,=(Y,6)).")
    (answer 10 (tabbed (codes "5" ∷ codes "6" ∷ []))
    ∷ no 3
    ∷ [])
    -- More than eight arguments.
    ∷ row []
    (codes "call(f(1,2,3,4,5,6,7,8),9).")
    (failure 2 (codes "error(representation_error(max_arity),/(call,2))")
    ∷ [])
    -- A ball that a catcher refuses goes to the catch around it.
    ∷ row []
    (codes "catch(catch(throw(f(X,Y,X)),g(_),true),f(A,B,C),true).")
    (answer 9 (tabbed (codes "_0" ∷ codes "_1" ∷ codes "_2" ∷ codes "_3" ∷ codes "_2" ∷ []))
    ∷ no 2
    ∷ [])
    -- A caught error names its goal.
    ∷ row []
    (codes "catch(is(X,+(1,a)),E,true).")
    (answer 7 (tabbed (codes "_0" ∷ codes "error(type_error(evaluable,/(a,0)),/(is,2))" ∷ []))
    ∷ no 2
    ∷ [])
    -- Built-in predicates cannot be changed.
    ∷ row []
    (codes "catch(assertz(call(X)),E,true).")
    (answer 7 (tabbed (codes "_0" ∷ codes "error(permission_error(modify,static_procedure,/(call,1)),/(assertz,1))" ∷ []))
    ∷ no 2
    ∷ [])
    -- A recursion, with the second list shared.
    ∷ row (codes "app([],L,L)." ∷ codes "app([X|A],B,[X|C]) :- app(A,B,C)." ∷ [])
    (codes "app(A,B,[1,2]).")
    (answer 4 (tabbed (codes "[]" ∷ codes "[1,2]" ∷ []))
    ∷ answer 5 (tabbed (codes "[1]" ∷ codes "[2]" ∷ []))
    ∷ answer 5 (tabbed (codes "[1,2]" ∷ codes "[]" ∷ []))
    ∷ no 5
    ∷ [])
    ∷ []

abbrev pub computed : Row → List Reply
computed (row rs q xs) = played rs q

abbrev pub expected : Row → List Reply
expected (row rs q xs) = xs

abbrev pub seen_in : Row → Seen
seen_in (row rs q xs) = seen rs q

abbrev pub told_in : Row → Seen
told_in (row rs q xs) = record { leaves = told_leaves xs; end = told_end xs }

-- the steps tell just this, and the tree holds just this
pub record Worked : Type 0 where
  pub steps_tell : map computed table ≡ map expected table
  pub trees_hold : map seen_in table ≡ map told_in table
