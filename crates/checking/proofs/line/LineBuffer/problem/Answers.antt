use Rattle.std.proofs.Common.{ap, ◌∙◌, arith}
use Rattle.checking.specs.Lines.{bad_from}
use Rattle.checking.proofs.LinesProperties.{problem_of_kept}
use Rattle.checking.proofs.line.LineBuffer.problem.Goals as goal

pub returns : goal.returns
returns c = λ s k.
    let b = c.self.inside in
    c.bad_byte.ensures ∙ ap (bad_from 0) c.deref.ensures.value ∙ problem_of_kept b.bytes.items b.first s (omega arith) (rw (← c.self.view_is) at k)
