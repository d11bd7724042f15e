use Rattle.std.proofs.Common.{drop}
use Rattle.tokens.proofs.QuoteProperties.{Reading}
use Rattle.tokens.proofs.scan.quote_end.Given as goal

abbrev pub invariant-loop-i : goal.invariant-loop-i
invariant-loop-i l = Reading (drop l.pos l.line) l.i l.closed
