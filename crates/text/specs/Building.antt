-- Nodes, places and variables, and the written terms that they stand for.
use Rattle.std.specs.Prelude.{◌≡◌, ℕ, ◌<◌, true, false, List, [], ◌∷◌, ◌++◌, length, Ok, Err, Result}
use Rattle.names.specs.Listed.{Extends}
use Rattle.terms.specs.declared.node.Node.{Node}
use Rattle.terms.specs.Places.{takes}
use Rattle.terms.specs.Rows.{all_below, meaning}
use Rattle.terms.specs.Term.{Term}
use Rattle.reader.specs.Ops.{Stack, part}
use Rattle.text.specs.declared.fault.LimitFault.{LimitFault}
use Rattle.reader.specs.declared.span.Span.{Span}
use Rattle.text.specs.Numbering.{Met, number_of, meets, met_stack, numbered_stack}
use Rattle.text.specs.Limits.{entered_stack, nodes_stack, stack_fits}

-- the parts of a text
abbrev pub cuts : List ℕ → List Span → List (List ℕ)
cuts text [] = []
cuts text (s ∷ ss) = part text s.start s.end ∷ cuts text ss

-- the terms at these places of a row
abbrev pub meanings_at : List (List ℕ) → List Node → List ℕ → List Term
meanings_at ns nodes [] = []
meanings_at ns nodes (p ∷ ps) = meaning ns nodes p ∷ meanings_at ns nodes ps

-- the number of a variable and the variables met then, or one too many
abbrev pub Numbers : Met → List ℕ → Met → Result ℕ LimitFault → Type 0
Numbers e a e' (Ok n) = (n ≡ number_of e a) × (e' ≡ meets e a)
Numbers e a e' (Err f) = 32 < length (meets e a)

-- a node more on top of the stack, or there is no room for it
abbrev pub Pushed : List Node → List ℕ → Node → List Node → List ℕ → Result (Unit {0}) LimitFault → Type 0
Pushed nodes places x nodes' places' (Ok u) =
    (length nodes < 256) × (nodes' ≡ nodes ++ x ∷ []) × (places' ≡ places ++ length nodes ∷ [])
Pushed nodes places x nodes' places' (Err f) = takes 256 nodes x ≡ false

-- The written terms of a stack, within the limits when names are entered from `first` on, are what stands at the places:
-- the nodes are those of these terms and no others, and a name that is entered later changes nothing.
pub record Built (text : List ℕ) (first : List (List ℕ)) (st : Stack)
    (ns : List (List ℕ)) (nodes : List Node) (places : List ℕ) (spans : List Span) : Type 0 where
  pub fits : stack_fits first st ≡ true
  pub names_are : ns ≡ entered_stack first st
  pub met_are : cuts text spans ≡ met_stack st
  pub counted : length nodes ≡ nodes_stack st
  pub placed : all_below (length nodes) places ≡ true
  pub terms_are : (more : List (List ℕ)) → Extends ns more → meanings_at more nodes places ≡ numbered_stack st

-- the terms are built, or they pass a limit
abbrev pub Ends : List ℕ → List (List ℕ) → Stack → List (List ℕ) → List Node → List ℕ → List Span
    → Result (Unit {0}) LimitFault → Type 0
Ends text first st ns nodes places spans (Ok u) = Built text first st ns nodes places spans
Ends text first st ns nodes places spans (Err f) = stack_fits first st ≡ false
