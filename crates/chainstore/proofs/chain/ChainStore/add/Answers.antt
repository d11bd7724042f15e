-- The rule stands at its end, and the ring has its cell.
use Rattle.std.proofs.Common.{sym, ◌∙◌, arith}
use Rattle.rules.specs.Calls.{value_of}
use Rattle.rules.proofs.EntriesProperties.{length_rules}
use Rattle.rules.proofs.TablesProperties.{entered_room, within_entered}
use Rattle.chainstore.specs.Rings.{end_of}
use Rattle.chainstore.proofs.LinksProperties.{inserted_len, inserted_labels}
use Rattle.chainstore.proofs.ViewsProperties.{rules_added, row_added, known_added, flags_added, links_added}
use Rattle.chainstore.proofs.chain.ChainStore.add.Goals as goal

pub invariant_of-self : goal.invariant_of-self
invariant_of-self c =
    let s = c.args.self.now in
    let same = c.in_err-label.ensures.1 in
    record {
      within = rw same s.within;
      cells = rw same s.cells;
      spare = rw same s.spare;
      flags = s.flags;
      noted = rw same s.noted;
      linked = rw same s.linked;
    }

pub invariant_of-self-2 : goal.invariant_of-self-2
invariant_of-self-2 c =
    let s = c.args.self.now in
    let r = c.args.rule in
    let l = c.in_ok-label.label in
    let u = c.add.new.self in
    let k = c.in_ok-label.ensures in
    let three = entered_room s.table u (value_of r) _ l k in
    let next = three.2 in
    let long = inserted_len (end_of c.args.side) s.rings c.add-2.new.self c.head_of-head.result c.add-2.ensures in
    let cells = s.cells in
    let at = c.head_of-head.ensures.value in
    record {
      within = within_entered s.table u (value_of r) _ l s.within k r.indicator.small;
      cells = omega arith;
      spare = inserted_labels (end_of c.args.side) s.rings c.add-2.new.self c.head_of-head.result c.add-2.ensures
          ∙ s.spare ∙ sym k.labels;
      flags = s.flags;
      noted = flags_added s r c.args.side l u k c.head_of-head.result at;
      linked = links_added s r c.args.side l u k c.head_of-head.result at c.add-2.new.self c.add-2.ensures;
    }

pub returns : goal.returns
returns c =
    let s = c.args.self.now in
    let r = c.args.rule in
    let l = c.in_ok-label.label in
    let u = c.add.new.self in
    let k = c.in_ok-label.ensures in
    record {
      fits = k.fits;
      label = k.label ∙ sym (length_rules s.table.kept);
      rules = rules_added s r c.args.side l u k;
      row = row_added s r c.args.side l u k;
      known = known_added s r c.args.side l u k;
      labels = k.labels;
      space = k.space;
    }
