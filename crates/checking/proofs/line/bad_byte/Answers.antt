use Rattle.std.proofs.Common.{rules, tests, ap, ◌∙◌}
use Rattle.std.proofs.lemmas.Iterator.{YieldsList-from_slice}
use Rattle.std.proofs.lemmas.Iterator.Search.{position_from_yields_List}
use Rattle.std.proofs.lemmas.Iterator.Adapters.{position_from-zero}
use Rattle.std.specs.Option.{option_map}
use Rattle.checking.specs.declared.line.LineProblem.TheVariants.{BadByte}
use Rattle.checking.specs.Lines.{is_bad}
use Rattle.checking.proofs.LinesProperties.{bad_found, mapped}
use Rattle.checking.proofs.line.bad_byte.Goals as goal

pub returns : goal.returns
returns c =
    mapped c.position.result c.map.result _ (λ x p h. search rules) c.map.ensures.cases
    ∙ ap (option_map BadByte)
    (position_from_yields_List is_bad _ _ c.position.result c.position.ensures.ran (YieldsList-from_slice c.args.bytes.now cc)
    (λ x b q k. search (rules, tests)) ∙ position_from-zero is_bad c.args.bytes.now)
    ∙ bad_found 0 c.args.bytes.now
