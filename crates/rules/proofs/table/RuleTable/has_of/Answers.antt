-- An entry of the indicator is a rule of it.
use Rattle.std.proofs.Common.{◌∙◌, rules, tests}
use Rattle.std.proofs.lemmas.Iterator.{YieldsList-from_slice}
use Rattle.std.proofs.lemmas.Iterator.Search.{any_from_yields_List}
use Rattle.rules.specs.Indicators.{is_one}
use Rattle.rules.proofs.EntriesProperties.{any_of}
use Rattle.rules.proofs.table.RuleTable.has_of.Goals as goal

pub returns : goal.returns
returns g c =
    let t = c.self.inside in
    let i = c.args.indicator in
    rw (← c.self.view_is, ← any_of t.nodes.items t.entries.items i.name i.arity)
    (any_from_yields_List (λ e. is_one e.indicator.name e.indicator.arity i.name i.arity) _ _ _ c.any.ensures.ran
    (YieldsList-from_slice t.entries.items (c.iter.ensures.rest ∙ c.deref.ensures.value))
    (λ x b q k. search (rules, tests)))
