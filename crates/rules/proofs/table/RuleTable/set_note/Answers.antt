-- Only the note changes.
use Rattle.std.proofs.Common.{refl, ◌∙◌, rules}
use Rattle.rules.proofs.EntriesProperties.{laid_noted, kept_noted}
use Rattle.rules.proofs.table.RuleTable.set_note.Goals as goal

pub invariant_of-self : goal.invariant_of-self
invariant_of-self g c =
    let t = c.self.inside in
    let i = c.self.invariant in
    let d = c.index_mut.result.now in
    record {
      few = search (rules, i.few);
      filled = i.filled;
      labels_reserved = i.labels_reserved;
      space_reserved = i.space_reserved;
      small = i.small;
      short = i.short;
      ordered = laid_noted 0 t.entries.items c.args.label d c.args.note _ c.index_mut.ensures.value ∙ i.ordered;
    }

pub returns : goal.returns
returns g c =
    let t = c.self.inside in
    rw (
      ← c.self.view_is,
      kept_noted t.nodes.items t.entries.items c.args.label c.index_mut.result.now c.args.note
          c.index_mut.ensures.value,
    ) refl
