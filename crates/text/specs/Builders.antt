-- What the steps of a builder make of it.
use Rattle.std.specs.Prelude.{◌≡◌, ℕ, true, List, [], ◌∷◌, is_ok, Some, vec_items, Result}
use Rattle.names.specs.Interned.{interned, list_after}
use Rattle.names.specs.Listed.{Extends, name_at}
use Rattle.terms.specs.declared.node.Node.{Node}
use Rattle.terms.specs.RowViews.{row_nodes}
use Rattle.grammar.specs.Written.{Written}
use Rattle.reader.specs.declared.op.Op.{Op}
use Rattle.reader.specs.Ops.{Stack, take_many, named, joined, apply}
use Rattle.text.specs.declared.fault.LimitFault.{LimitFault}
use Rattle.text.specs.declared.builder.Builder.{Builder}
use Rattle.text.specs.Building.{Built, Pushed, Ends}

-- nothing is built
pub record Empty (b : Builder) : Type 0 where
  pub no_nodes : row_nodes b.row ≡ []
  pub no_places : vec_items b.stack ≡ []
  pub no_variables : vec_items b.variables ≡ []

-- the builder has these terms, where names were entered from `first` on and are now `ns`
abbrev pub BuiltIn : List ℕ → List (List ℕ) → Stack → List (List ℕ) → Builder → Type 0
BuiltIn text first st ns b =
    Built text first st ns (row_nodes b.row) (vec_items b.stack) (vec_items b.variables)

-- the builder has these terms, or they pass a limit
abbrev pub Outcome : List ℕ → List (List ℕ) → Stack → List (List ℕ) → Builder → Result (Unit {0}) LimitFault → Type 0
Outcome text first st ns b r =
    Ends text first st ns (row_nodes b.row) (vec_items b.stack) (vec_items b.variables) r

abbrev pub PushedIn : Builder → Node → Builder → Result (Unit {0}) LimitFault → Type 0
PushedIn b x b' r =
    Pushed (row_nodes b.row) (vec_items b.stack) x (row_nodes b'.row) (vec_items b'.stack) r
    × (vec_items b'.variables ≡ vec_items b.variables)

-- a term more on whatever stack the builder has
abbrev pub Puts : List ℕ → Written → Builder → Builder → Result (Unit {0}) LimitFault → Type 0
Puts text t b b' r =
    (first : List (List ℕ)) (st : Stack) (ns : List (List ℕ)) → BuiltIn text first st ns b → Outcome text first (t ∷ st) ns b' r

-- the name f, which now stands at the place `name`, with the terms on top of the stack as its arguments
abbrev pub Compounds : ℕ → ℕ → Builder → Builder → Result (Unit {0}) LimitFault → Type 0
Compounds name arity b b' r =
    (text : List ℕ) (first : List (List ℕ)) (st : Stack) (ns : List (List ℕ)) (f : List ℕ)
    → BuiltIn text first st ns b → Extends ns (list_after ns f) → is_ok (interned ns f) ≡ true
    → name_at (list_after ns f) name ≡ Some f
    → Outcome text first (named f (take_many arity st)) (list_after ns f) b' r

abbrev pub Joins : ℕ → Builder → Builder → Result (Unit {0}) LimitFault → Type 0
Joins name b b' r =
    (text : List ℕ) (first : List (List ℕ)) (st : Stack) (ns : List (List ℕ)) (f : List ℕ)
    → BuiltIn text first st ns b → ns ≡ list_after ns f → is_ok (interned ns f) ≡ true → name_at ns name ≡ Some f
    → Outcome text first (joined f st) ns b' r

-- a step on whatever stack the builder has
abbrev pub Steps : List ℕ → Op → List (List ℕ) → Builder → List (List ℕ) → Builder
    → Result (Unit {0}) LimitFault → Type 0
Steps text o ns b ns' b' r =
    (first : List (List ℕ)) (st : Stack) → BuiltIn text first st ns b → Outcome text first (apply text o st) ns' b' r
