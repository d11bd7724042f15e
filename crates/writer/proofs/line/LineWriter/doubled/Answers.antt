-- One byte more, with its quote doubled.
use Rattle.std.proofs.Common.{refl}
use Rattle.writing.specs.Writing.{doubled}
use Rattle.writer.specs.Lines.{line_seen}
use Rattle.writer.proofs.PutProperties.{puts_then, puts_next, puts_longer, puts_same}
use Rattle.writer.proofs.RunProperties.{doubled_more, doubled_front}
use Rattle.writer.proofs.line.LineWriter.doubled.Goals as goal

pub returns-in_err-quoted_byte : goal.returns-in_err-quoted_byte
returns-in_err-quoted_byte c =
    puts_longer (doubled c.args.name.now) (line_seen c.args.self.now) c.from_residual.result
    c.from_residual.ensures.0 (doubled_front c.args.name.now c.loop-byte.byte-index c.loop-byte-test.true)
    (puts_then c.loop-byte.invariant c.in_err-quoted_byte.ensures)

pub loop-byte-preserved : goal.loop-byte-preserved
loop-byte-preserved c =
    puts_same (doubled_more c.args.name.now c.loop-byte.byte-index c.loop-byte-test.true) refl
    (puts_next c.loop-byte.invariant c.in_ok-quoted_byte.ensures)
