use Rattle.std.proofs.Common.{arith}
use Rattle.checking.proofs.LinesProperties.{kept_with_room, kept_when_full}
use Rattle.checking.proofs.line.LineBuffer.push.Goals as goal

pub returns-then-len-le-MAX_LINE : goal.returns-then-len-le-MAX_LINE
returns-then-len-le-MAX_LINE c = λ s k.
    let b = c.self.inside in
    let old = kept_with_room b.bytes.items b.first c.first_after-self-inside.result s c.args.byte (omega arith) c.first_after-self-inside.ensures (rw (← c.self.view_is) at k) in
    rw (← c.push_reserved.ensures.items) at old

pub returns-else-len-le-MAX_LINE : goal.returns-else-len-le-MAX_LINE
returns-else-len-le-MAX_LINE c = λ s k.
    let b = c.self.inside in
    kept_when_full b.bytes.items b.first c.first_after-self-inside.result s c.args.byte (omega arith) c.first_after-self-inside.ensures (rw (← c.self.view_is) at k)
