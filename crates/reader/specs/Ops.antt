-- What a row of building steps builds: a stack of terms, the last one on top.
use Rattle.std.specs.Prelude.{ℕ, zero, suc, ◌-◌, false, List, [], ◌∷◌, take, drop}
use Rattle.tokens.specs.Scanning.{undouble}
use Rattle.terms.specs.Known.{comma_name, dot_name}
use Rattle.grammar.specs.Written.{Written, Writtens, var, int, app, nil, cons, pair, empty_list}
use Rattle.reader.specs.declared.op.Op.{Op}
use Rattle.reader.specs.declared.op.Op.TheVariants as op

abbrev pub Stack : Type 0
Stack = List Written

-- a part of the line
abbrev pub part : List ℕ → ℕ → ℕ → List ℕ
part line a b = take (b - a) (drop a line)

-- a stack, and the arguments that were taken from it
pub record Taken : Type 0 where
  pub stack : Stack
  pub terms : Writtens

abbrev pub take_one : Stack → Writtens → Taken
take_one [] ts = record { stack = []; terms = ts }
take_one (t ∷ st) ts = record { stack = st; terms = cons t ts }

abbrev pub take_many : ℕ → Stack → Taken
take_many zero st = record { stack = st; terms = nil }
take_many (suc n) st = take_one (take_many n st).stack (take_many n st).terms

abbrev pub named : List ℕ → Taken → Stack
named a x = app a x.terms ∷ x.stack

-- the two terms on top, as arguments of a name
abbrev pub joined : List ℕ → Stack → Stack
joined f [] = []
joined f (b ∷ []) = b ∷ []
joined f (b ∷ a ∷ st) = pair f a b ∷ st

abbrev pub apply : List ℕ → Op → Stack → Stack
apply line (op.Variable s) st = var (part line s.start s.end) ∷ st
apply line (op.Integer s) st = int (part line s.start s.end) ∷ st
apply line (op.Name s n) st = named (part line s.start s.end) (take_many n st)
apply line (op.Quoted s n) st = named (undouble false (part line s.start s.end)) (take_many n st)
apply line op.EmptyList st = empty_list ∷ st
apply line op.ListCell st = joined dot_name st
apply line op.Conjunction st = joined comma_name st

abbrev pub run_from : List ℕ → Stack → List Op → Stack
run_from line st [] = st
run_from line st (o ∷ os) = run_from line (apply line o st) os

abbrev pub run : List ℕ → List Op → Stack
run line os = run_from line [] os

-- these terms put on a stack, one after another
abbrev pub pushed : Writtens → Stack → Stack
pushed nil st = st
pushed (cons t ts) st = pushed ts (t ∷ st)
