-- Outside the row stands the number 0; inside it, variables are numbered as they come.
use Rattle.std.proofs.Common.{sym, refl, ap, arith}
use Rattle.names.specs.View.{list}
use Rattle.terms.specs.Rows.{meaning}
use Rattle.terms.specs.RowViews.{row_nodes}
use Rattle.writer.specs.Lines.{line_seen}
use Rattle.writer.specs.Shown.{shown, firsts}
use Rattle.writer.proofs.PutProperties.{puts_same}
use Rattle.writer.proofs.ShownProperties.{numbered_shown}
use Rattle.writer.proofs.NodeProperties.{meaning_past}
use Rattle.writer.proofs.line.LineWriter.whole.Goals as goal

pub returns-then-len-at : goal.returns-then-len-at
returns-then-len-at c =
    let seen = line_seen c.args.self.now in
    let len = c.len.ensures in
    let e = meaning_past (list c.args.names.now) (row_nodes c.args.row.now) c.args.at (omega arith) in
    puts_same (ap (shown seen) (sym e)) (ap (firsts seen) (sym e)) c.number.ensures

pub returns-else-len-at : goal.returns-else-len-at
returns-else-len-at c =
    puts_same
    (numbered_shown (line_seen c.args.self.now)
    (meaning (list c.args.names.now) (row_nodes c.args.row.now) c.args.at))
    refl c.node.ensures
