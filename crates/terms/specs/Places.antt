-- Reading a row by place, and adding a node at its end.
use Rattle.std.specs.Prelude.{ℕ, Bool, true, false, cond, ◌&&◌, List, [], ◌∷◌, ◌++◌, length, Some, None, Option, nat_lt}
use Rattle.std.specs.Prelude.{slice_index_or}
use Rattle.terms.specs.declared.node.Node.{Node}
use Rattle.terms.specs.declared.node.Node.TheVariants.{Var, Int, App}
use Rattle.terms.specs.Rows.{fitting}

-- what stands past the end, where a definition has to name something
abbrev pub no_node : Node
no_node = Var 0

-- a node with no arguments and no name
abbrev pub is_leaf : Node → Bool
is_leaf (Var v) = true
is_leaf (Int i) = true
is_leaf (App f n is) = false

-- the node at a place, if the row reaches that far
abbrev pub node_at : List Node → ℕ → Option Node
node_at xs i = cond (nat_lt i (length xs)) (Some (slice_index_or xs i no_node)) None

-- whether a row of at most `limit` nodes takes this one as its next
abbrev pub takes : ℕ → List Node → Node → Bool
takes limit xs x = nat_lt (length xs) limit && fitting (length xs) x

-- where the node then stands
abbrev pub place_for : ℕ → List Node → Node → Option ℕ
place_for limit xs x = cond (takes limit xs x) (Some (length xs)) None

-- the row then
abbrev pub with_node : ℕ → List Node → Node → List Node
with_node limit xs x = cond (takes limit xs x) (xs ++ x ∷ []) xs
