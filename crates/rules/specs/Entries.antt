-- What the entries of a table mean: the rule of each, with its part of the nodes, and its note.
use Rattle.std.specs.Prelude.{◌≡◌, ℕ, ◌+◌, ◌≤◌, Bool, true, ◌&&◌, ◌==◌, List, [], ◌∷◌, take, drop, length, map}
use Rattle.terms.specs.declared.node.Node.{Node}
use Rattle.rules.specs.declared.entry.Entry.{Entry}
use Rattle.rules.specs.Meaning.{Value}
use Rattle.rules.specs.Tables.{Kept}

module _ {T : Type 0} where
  -- the rule of an entry, with these nodes
  abbrev pub rule_with : List Node → Entry T → Value
  rule_with ns e = record {
    nodes = ns;
    head = e.head;
    body = e.body;
    variables = e.variables;
    name = e.indicator.name;
    arity = e.indicator.arity;
  }

  -- an entry with its part of all nodes
  abbrev pub kept_at : List Node → Entry T → Kept T
  kept_at ns e = record { rule = rule_with (take e.size (drop e.start ns)) e; note = e.note }

  abbrev pub kept_of : List Node → List (Entry T) → List (Kept T)
  kept_of ns es = map (kept_at ns) es

  -- the nodes of the entries stand one behind the other from s up to n
  abbrev pub laid : ℕ → List (Entry T) → ℕ → Bool
  laid s [] n = s == n
  laid s (e ∷ es) n = e.start == s && laid (s + e.size) es n

  -- what holds of every table: its nodes and entries, for how many there is memory, and for how many it was made
  pub record IsSound (ns : List Node) (es : List (Entry T)) (node_room entry_room labels space : ℕ) : Type 0 where
    pub few : length es ≤ labels
    pub filled : length ns ≤ space
    pub labels_reserved : labels ≤ entry_room
    pub space_reserved : space ≤ node_room
    pub small : labels ≤ 1024
    pub short : space ≤ 65536
    pub ordered : laid 0 es (length ns) ≡ true
