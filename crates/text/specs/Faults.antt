-- Why a rule cannot be stored, told by the nodes of its head and body; and the limit that a fault of a name passes.
use Rattle.std.specs.Prelude.{◌≡◌, ℕ, cond, List, length, Some, None, Option}
use Rattle.terms.specs.declared.node.Node.{Node}
use Rattle.terms.specs.declared.node.Node.TheVariants.{Var, Int, App}
use Rattle.terms.specs.BuiltIns.{built_in}
use Rattle.terms.specs.Places.{node_at}
use Rattle.names.specs.declared.fault.NameFault.{NameFault}
use Rattle.names.specs.declared.fault.NameFault.TheVariants.{TooLong, Full}
use Rattle.text.specs.declared.fault.LimitFault.{LimitFault}
use Rattle.text.specs.declared.fault.LimitFault.TheVariants.{LongName, Names}
use Rattle.text.specs.declared.fault.HeadFault.{HeadFault}
use Rattle.text.specs.declared.fault.HeadFault.TheVariants.{VariableHead, IntegerHead, BuiltInHead, IntegerBody}

abbrev pub head_node_fault : Option Node → Option HeadFault
head_node_fault None = Some VariableHead
head_node_fault (Some (Var v)) = Some VariableHead
head_node_fault (Some (Int i)) = Some IntegerHead
head_node_fault (Some (App f n is)) = cond (built_in f n) (Some BuiltInHead) None

abbrev pub body_node_fault : Option Node → Option HeadFault
body_node_fault None = None
body_node_fault (Some (Var v)) = None
body_node_fault (Some (Int i)) = Some IntegerBody
body_node_fault (Some (App f n is)) = None

-- the first of two faults
abbrev pub first_of : Option HeadFault → Option HeadFault → Option HeadFault
first_of None o = o
first_of (Some f) o = Some f

abbrev pub nodes_fault : List Node → ℕ → ℕ → Option HeadFault
nodes_fault nodes head body = first_of (head_node_fault (node_at nodes head)) (body_node_fault (node_at nodes body))

-- a name that is too long, or no room for it in the table
abbrev pub limit_of : NameFault → LimitFault
limit_of TooLong = LongName
limit_of Full = Names

-- a node has eight places for its arguments
abbrev pub Eight : Option Node → Type 0
Eight None = Unit {0}
Eight (Some (Var v)) = Unit {0}
Eight (Some (Int i)) = Unit {0}
Eight (Some (App f n is)) = length is ≡ 8
