-- An argument stands before its node, so that the places fall; after k turns what stands before the arguments
-- and the first k of them are written.
use Rattle.std.proofs.Common.{Ok}
use Rattle.names.specs.View.{list}
use Rattle.terms.specs.Rows.{meanings}
use Rattle.terms.specs.RowViews.{row_nodes}
use Rattle.writer.specs.Lines.{line_seen, Puts}
use Rattle.writer.proofs.NumberedProperties.{part_text, part_seen}
use Rattle.writer.proofs.line.LineWriter.+node.Given as goal

abbrev pub decreases-node : goal.decreases-node
decreases-node l = l.at

abbrev pub invariant-loop-k : goal.invariant-loop-k
invariant-loop-k l =
    Puts l.initial.self l.self
    (part_text l.form (line_seen l.initial.self) (meanings (list l.names) (row_nodes l.row)) l.args l.k)
    (part_seen (line_seen l.initial.self) (meanings (list l.names) (row_nodes l.row)) l.args l.k) (Ok tt)
