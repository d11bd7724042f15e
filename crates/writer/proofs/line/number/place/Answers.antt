-- The position that the search answers, or the number of variables.
use Rattle.std.proofs.Common.{rules, tests, ◌==◌, ◌∙◌}
use Rattle.std.proofs.lemmas.Iterator.{YieldsList-from_slice}
use Rattle.std.proofs.lemmas.Iterator.Search.{position_from_yields_List}
use Rattle.writer.proofs.ShownProperties.{place_found}
use Rattle.writer.proofs.line.number.place.Goals as goal

pub returns-clause-value : goal.returns-clause-value
returns-clause-value c =
    c.unwrap_or.ensures
    ∙ place_found c.args.seen.now c.args.variable c.position.result
    (position_from_yields_List (λ x. x == c.args.variable) _ _ c.position.result c.position.ensures.ran
    (YieldsList-from_slice c.args.seen.now cc) (λ x b q k. search (rules, tests)))
