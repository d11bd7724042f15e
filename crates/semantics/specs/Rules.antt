-- Rules as a value: every rule ever added, by label; for each name and number of arguments the row of labels of
-- the live rules; and which of these are known.
use Rattle.std.specs.Prelude.{ℕ, zero, suc, ◌+◌, Bool, false, cond, ◌&&◌, ◌||◌, List, [], ◌∷◌, ◌++◌, length, ◌==◌}
use Rattle.std.proofs.Math.Option.{Option, none, some}
use Rattle.terms.specs.Term.{Term, var, int, app, count, size}
use Rattle.terms.specs.Goals.{same}
use Rattle.rules.specs.Meaning.{End, placed, without}

-- a head and a body over so many variables, which are numbered from 0
pub record Clause : Type 0 where
  pub head : Term
  pub body : Term
  pub variables : ℕ

pub record Rules : Type 0 where
  pub clauses : List Clause
  pub row : List ℕ → ℕ → List ℕ
  pub known : List ℕ → ℕ → Bool

abbrev pub no_rules : Rules
no_rules = record { clauses = []; row = λ f n. []; known = λ f n. false }

-- the nodes of a rule
abbrev pub clause_size : Clause → ℕ
clause_size x = size x.head + size x.body

abbrev pub name_of : Term → List ℕ
name_of (var v) = []
name_of (int i) = []
name_of (app f ts) = f

abbrev pub arity_of : Term → ℕ
arity_of (var v) = 0
arity_of (int i) = 0
arity_of (app f ts) = count ts

abbrev pub is_of : Clause → List ℕ → ℕ → Bool
is_of x f n = same (name_of x.head) f && arity_of x.head == n

abbrev pub clause_at : List Clause → ℕ → Option Clause
clause_at [] l = none
clause_at (x ∷ xs) zero = some x
clause_at (x ∷ xs) (suc l) = clause_at xs l

-- a live rule: its label and the clause
pub data Live : Type 0 where
  live : ℕ → Clause → Live

abbrev pub live_of : List Clause → List ℕ → List Live
live_of xs [] = []
live_of xs (l ∷ ls) = elim (clause_at xs l) [ none ↦ live_of xs ls | some x ↦ live l x ∷ live_of xs ls ]

-- the live rules of a predicate, in their order
abbrev pub live_rules : Rules → List ℕ → ℕ → List Live
live_rules r f n = live_of r.clauses (r.row f n)

-- the rule gets the next label, stands at this end of its row, and makes its predicate known
abbrev pub add_rule : End → Clause → Rules → Rules
add_rule e x r = record {
  clauses = r.clauses ++ x ∷ [];
  row = λ f n. cond (is_of x f n) (placed e (length r.clauses) (r.row f n)) (r.row f n);
  known = λ f n. is_of x f n || r.known f n;
}

-- the label leaves its row, if it is there
abbrev pub erase_rule : ℕ → Rules → Rules
erase_rule l r = record { clauses = r.clauses; row = λ f n. without l (r.row f n); known = r.known }
