-- There is one bound more than there are names.
use Rattle.std.proofs.Common.{arith}
use Rattle.names.proofs.ViewProperties.{length_list, known_le_list, lawful_list}
use Rattle.names.proofs.names.Names.len.Goals as goal

pub returns : goal.returns
returns c =
    let t = c.args.self.now in
    let n = length_list t in
    let k = known_le_list t in
    record {
      value = omega arith;
      bound = (omega arith, omega (arith, t.few));
      lawful = lawful_list t;
    }
