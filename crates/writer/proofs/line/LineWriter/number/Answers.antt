-- The sign and the digits stand between what the spot asks for.
use Rattle.std.proofs.Common.{refl, ◌∙◌}
use Rattle.writer.proofs.PutProperties.{puts_next, puts_same}
use Rattle.writer.proofs.PiecesProperties.{number_parts}
use Rattle.writer.proofs.line.LineWriter.number.Goals as goal

pub returns : goal.returns
returns g c =
    puts_same (number_parts c.args.spot c.args.sign.now (g.I.Integer.text c.args.number)) refl
    (puts_next
    (puts_next
    (puts_next (puts_same c.before-2.ensures refl c.in_ok-put.ensures) c.in_ok-put-2.ensures)
    (puts_same (c.as_bytes.ensures.value ∙ c.format.ensures.text) refl c.in_ok-put-3.ensures))
    (puts_same c.after.ensures refl c.put-4.ensures))
