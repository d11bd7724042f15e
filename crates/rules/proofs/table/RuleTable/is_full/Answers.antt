-- What is left of the space is too little for the rule's nodes exactly if all nodes would pass it.
use Rattle.std.proofs.Common.{arith}
use Rattle.rules.specs.Calls.{value_of}
use Rattle.rules.proofs.EntriesProperties.{full_space}
use Rattle.rules.proofs.table.RuleTable.is_full.Goals as goal

pub returns-else-self-len : goal.returns-else-self-len
returns-else-self-len g c =
    let t = c.self.inside in
    rw (← c.self.view_is) (full_space t.nodes.items t.entries.items t.labels t.space c.len-else-self-len.result
    (value_of c.args.rule) c.self.invariant.ordered c.self.invariant.filled (omega arith) (omega arith))
