use Rattle.std.proofs.Common.{length, take, drop, min, ◌-◌, sym, ap, ◌∙◌, rules, tests, drop-drop}
use Rattle.std.proofs.lemmas.Iterator.{YieldsList-from_slice}
use Rattle.std.proofs.lemmas.Iterator.Consumers.{count_from_yields_List}
use Rattle.std.proofs.lemmas.Iterator.Search.{YieldsList-from_take_while}
use Rattle.std.proofs.lemmas.List.{take_rest, drop_min}
use Rattle.std.proofs.lemmas.List.Folds.{length-prefix_len}
use Rattle.std.specs.List.{prefix_len}
use Rattle.tokens.specs.Bytes.{in_run}
use Rattle.tokens.proofs.BytesProperties.{past_by_drop}
use Rattle.tokens.proofs.scan.run_end.Goals as goal

pub returns-clause-value : goal.returns-clause-value
returns-clause-value c =
    let f = in_run c.args.run in
    let line = c.args.line.now in
    let start = min c.args.pos (length line) in
    let rest = take (length line - start) (drop start line) in
    sym (drop-drop c.count.result c.args.pos line)
    ∙ ap (λ n. drop n (drop c.args.pos line)) (
    count_from_yields_List c.take_while.result _ c.count.ensures.ran
    (YieldsList-from_take_while _ f (YieldsList-from_slice rest cc)
    c.take_while.ensures.closure c.take_while.ensures.done (λ x b q k. search (rules, tests)))
    ∙ length-prefix_len f rest
    ∙ ap (prefix_len f) (take_rest line start ∙ drop_min c.args.pos line))
    ∙ sym (past_by_drop f (drop c.args.pos line))
