-- After i turns the first i bytes are written, with their quotes doubled.
use Rattle.std.proofs.Common.{take, Ok}
use Rattle.writing.specs.Writing.{doubled}
use Rattle.writer.specs.Lines.{line_seen, Puts}
use Rattle.writer.proofs.line.LineWriter.doubled.Given as goal

abbrev pub invariant-loop-byte : goal.invariant-loop-byte
invariant-loop-byte l = Puts l.initial.self l.self (doubled (take l.byte-index l.name)) (line_seen l.initial.self) (Ok tt)
