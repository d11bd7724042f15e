use Rattle.std.proofs.Common.{rules, sym, ◌∙◌, tests}
use Rattle.tokens.specs.Bytes.{in_run}
use Rattle.std.proofs.lemmas.Iterator.{YieldsList-from_slice}
use Rattle.std.proofs.lemmas.Iterator.Search.{all_from_yields_List}
use Rattle.writer.proofs.RunProperties.{all_listed}
use Rattle.writer.proofs.line.name.all_in.Goals as goal

pub returns : goal.returns
returns c =
    all_from_yields_List (in_run c.args.run) _ _ _ c.all.ensures.ran (YieldsList-from_slice c.args.bytes.now cc) (λ x b q k. search (rules, tests))
    ∙ sym (all_listed (in_run c.args.run) c.args.bytes.now)
