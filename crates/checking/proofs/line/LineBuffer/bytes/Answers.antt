use Rattle.std.proofs.Common.{ap, ◌∙◌, arith}
use Rattle.checking.specs.Kept.{Kept}
use Rattle.checking.proofs.LinesProperties.{front_kept}
use Rattle.checking.proofs.line.LineBuffer.bytes.Goals as goal

pub returns-clause-value : goal.returns-clause-value
returns-clause-value c =
    front_kept c.self.inside.bytes.items c.deref.result.now c.min.result c.len.result c.deref.ensures.value (omega arith)
    c.min.ensures
    ∙ ap (λ (k : Kept). k.bytes) c.self.view_is
