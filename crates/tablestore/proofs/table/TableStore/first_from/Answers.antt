-- The first live label from there on that is found is the first one of the row.
use Rattle.std.proofs.Common.{◌-◌, ◌≤◌, length, drop, ap, ◌∙◌, arith, rules, tests}
use Rattle.std.proofs.lemmas.List.{length-drop, take_all}
use Rattle.std.proofs.lemmas.Iterator.{YieldsList-from_slice}
use Rattle.std.proofs.lemmas.Iterator.Search.{find_from_yields_List}
use Rattle.rules.specs.Meaning.{rule_at, is_of_rule}
use Rattle.tablestore.specs.Views.{rules_of, live_of}
use Rattle.tablestore.proofs.RowsProperties.{find_own}
use Rattle.tablestore.proofs.table.TableStore.first_from.Goals as goal

pub returns : goal.returns
returns c =
    let i = c.args.indicator in
    let s = c.args.self.now in
    let d = c.deref.result.now in
    let all : length (drop c.args.from d) ≤ length d - c.args.from = omega (arith, length-drop c.args.from d) in
    let part = c.iter.ensures.rest ∙ take_all (length d - c.args.from) (drop c.args.from d) all
    ∙ ap (drop c.args.from) c.deref.ensures.value in
    let found = find_from_yields_List (λ l. is_of_rule (rule_at (rules_of s) l) i.name i.arity) _ _ _
    c.find.ensures.ran (YieldsList-from_slice (drop c.args.from (live_of s)) part) (λ x b q k. search (rules, tests)) in
    c.copied.ensures ∙ found ∙ find_own (rules_of s) i.name i.arity (drop c.args.from (live_of s))
