-- x
use Rattle.std.proofs.Common.{rules}
use Rattle.rules.proofs.EntriesProperties.{is_of_there, rule_past}
use Rattle.rules.proofs.table.RuleTable.is_of.Goals as goal

pub returns : goal.returns
returns g c = rw (← c.self.view_is) (search (rules, is_of_there, rule_past))
