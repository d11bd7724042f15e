-- The bounds are cut down to the text.
use Rattle.reader.proofs.PartsProperties.{part_within}
use Rattle.reader.proofs.span.part.Goals as goal

pub returns : goal.returns
returns c =
    part_within c.args.text.now c.args.span.start c.args.span.end c.min-first.result c.min-last.result
    c.min-last.ensures c.min-first.ensures
