-- The parts of the entry with the label, or no such label.
use Rattle.std.proofs.Common.{◌+◌, ◌≤◌, length, rules}
use Rattle.rules.proofs.EntriesProperties.{rule_there, rule_past, laid_at}
use Rattle.rules.proofs.table.RuleTable.read.Goals as goal

pub returns-in_err-entry : goal.returns-in_err-entry
returns-in_err-entry g c =
    let past = rw c.deref.ensures.value at c.in_err-entry.ensures.lookup.3 in
    let none = rule_past c.self.inside.nodes.items c.self.inside.entries.items c.args.label past in
    rw (← c.self.view_is) (search rules)

pub slice_bounds-result-end : goal.slice_bounds-result-end
slice_bounds-result-end g c =
    let is = rw c.deref.ensures.value at c.in_ok-entry.ensures.lookup.1 in
    let less = rw c.deref.ensures.value at c.in_ok-entry.ensures.lookup.3.0 in
    let e = c.in_ok-entry.entry.now in
    let within : e.start + e.size ≤ length c.self.inside.nodes.items
    = laid_at 0 c.self.inside.entries.items (length c.self.inside.nodes.items) c.args.label e c.self.invariant.ordered
    less is in
    let long = c.as_slice.ensures.value in
    search rules

pub returns : goal.returns
returns g c =
    let is = rw c.deref.ensures.value at c.in_ok-entry.ensures.lookup.1 in
    let less = rw c.deref.ensures.value at c.in_ok-entry.ensures.lookup.3.0 in
    let e = c.in_ok-entry.entry.now in
    let there = rule_there c.self.inside.nodes.items c.self.inside.entries.items c.args.label e less is in
    rw (← c.self.view_is) (search rules)
