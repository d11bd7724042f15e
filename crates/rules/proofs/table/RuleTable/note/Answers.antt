-- x
use Rattle.std.proofs.Common.{rules}
use Rattle.rules.proofs.EntriesProperties.{note_there, note_past}
use Rattle.rules.proofs.table.RuleTable.note.Goals as goal

pub returns : goal.returns
returns g c = rw (← c.self.view_is) (search (rules, note_there, note_past))
