-- A row of the code as the list of its nodes and their limit, and what it becomes by a call.
use Rattle.std.specs.Prelude.{◌≡◌, ℕ, List, vec_items}
use Rattle.terms.specs.declared.node.Node.{Node}
use Rattle.terms.specs.declared.row.Row.{Row}

abbrev pub row_nodes : Row → List Node
row_nodes r = vec_items r.nodes

abbrev pub row_limit : Row → ℕ
row_limit r = r.limit

-- the row may come to have as many nodes as before
abbrev pub SameLimit : Row → Row → Type 0
SameLimit old new = row_limit new ≡ row_limit old

-- the row has these nodes now, within the limit that it had
pub record Becomes (old new : Row) (nodes : List Node) : Type 0 where
  pub items : row_nodes new ≡ nodes
  pub limit : SameLimit old new
