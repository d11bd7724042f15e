-- The limits of a text, and the names that it brings into the table.
use Rattle.std.specs.Prelude.{ℕ, ◌+◌, Bool, true, ◌&&◌, List, [], ◌∷◌, length, is_ok, nat_le}
use Rattle.names.specs.Interned.{interned, list_after}
use Rattle.terms.specs.Term as term
use Rattle.terms.specs.Goals.{goal_form}
use Rattle.grammar.specs.Written.{Written, Writtens, var, int, app, nil, cons, size}
use Rattle.text.specs.Integers.{fits_integer}
use Rattle.text.specs.Numbering.{met, numbered, met_stack}

-- integers of 32 bits, names of 64 bytes, 8 arguments
abbrev mutual
  pub small : Written → Bool
  small (var a) = true
  small (int a) = fits_integer a
  small (app f ts) = small_all ts && (nat_le (length f) 64 && nat_le (size ts) 8)

  pub small_all : Writtens → Bool
  small_all nil = true
  small_all (cons t ts) = small t && small_all ts

-- the list of names behind a term: those of its arguments enter first, and then its own
abbrev mutual
  pub entered : List (List ℕ) → Written → List (List ℕ)
  entered ns (var a) = ns
  entered ns (int a) = ns
  entered ns (app f ts) = list_after (entered_all ns ts) f

  pub entered_all : List (List ℕ) → Writtens → List (List ℕ)
  entered_all ns nil = ns
  entered_all ns (cons t ts) = entered_all (entered ns t) ts

-- whether the table has room for all of them
abbrev mutual
  pub room_for : List (List ℕ) → Written → Bool
  room_for ns (var a) = true
  room_for ns (int a) = true
  room_for ns (app f ts) = room_for_all ns ts && is_ok (interned (entered_all ns ts) f)

  pub room_for_all : List (List ℕ) → Writtens → Bool
  room_for_all ns nil = true
  room_for_all ns (cons t ts) = room_for ns t && room_for_all (entered ns t) ts

-- a rule: at most 32 variables, 256 nodes in head and body, the body's counted in the form of a goal
abbrev pub rule_fits : List (List ℕ) → Written → Written → Bool
rule_fits ns h b =
    small h && small b && nat_le (length (met (met [] h) b)) 32
    && nat_le (term.size (numbered [] h) + term.size (goal_form (numbered (met [] h) b))) 256
    && room_for ns h && room_for (entered ns h) b

abbrev pub query_fits : List (List ℕ) → Written → Bool
query_fits ns g =
    small g && nat_le (length (met [] g)) 32 && nat_le (term.size (goal_form (numbered [] g))) 256 && room_for ns g

-- the same of a stack of terms, of which the last stands on top; names enter from the bottom to the top
abbrev pub small_stack : List Written → Bool
small_stack [] = true
small_stack (t ∷ st) = small_stack st && small t

abbrev pub nodes_stack : List Written → ℕ
nodes_stack [] = 0
nodes_stack (t ∷ st) = nodes_stack st + term.size (numbered (met_stack st) t)

abbrev pub entered_stack : List (List ℕ) → List Written → List (List ℕ)
entered_stack ns [] = ns
entered_stack ns (t ∷ st) = entered (entered_stack ns st) t

abbrev pub room_for_stack : List (List ℕ) → List Written → Bool
room_for_stack ns [] = true
room_for_stack ns (t ∷ st) = room_for_stack ns st && room_for (entered_stack ns st) t

-- the terms as they stand are within all limits
abbrev pub stack_fits : List (List ℕ) → List Written → Bool
stack_fits ns st =
    small_stack st && (nat_le (length (met_stack st)) 32 && (nat_le (nodes_stack st) 256 && room_for_stack ns st))
