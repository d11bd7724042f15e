-- The list of all names of a table.
use Rattle.std.specs.Prelude.{ℕ, List, vec_items}
use Rattle.names.specs.declared.names.Names.{Names}
use Rattle.names.specs.Table.{names_of}

abbrev pub list : Names → List (List ℕ)
list t = names_of (vec_items t.bytes) (vec_items t.bounds)
