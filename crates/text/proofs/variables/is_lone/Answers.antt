-- The name is `_`.
use Rattle.std.proofs.Common.{ap, ◌∙◌}
use Rattle.tokens.specs.Bytes.{same}
use Rattle.text.proofs.NumberingProperties.{same_slices}
use Rattle.text.proofs.variables.is_lone.Goals as goal

pub returns : goal.returns
returns c =
    c.eq.ensures ∙ same_slices c.args.name.now c.as_slice.result.now ∙ ap (same c.args.name.now) c.as_slice.ensures
