-- The bytes are those of the names.
use Rattle.std.proofs.Common.{arith}
use Rattle.names.proofs.ViewProperties.{total_list}
use Rattle.names.proofs.names.Names.used.Goals as goal

pub returns-clause-value : goal.returns-clause-value
returns-clause-value c = let n = total_list c.args.self.now in omega arith
