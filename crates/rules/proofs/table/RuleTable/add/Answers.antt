-- The rule comes last, with its nodes behind all others.
use Rattle.std.proofs.Common.{◌≡◌, ◌+◌, ◌++◌, length, sym, refl, arith, rules}
use Rattle.rules.specs.Calls.{value_of}
use Rattle.rules.proofs.EntriesProperties.{room, laid_push, kept_push, length_kept}
use Rattle.rules.proofs.table.RuleTable.add.Goals as goal

pub unwrap-requires : goal.unwrap-requires
unwrap-requires g c =
    let t = c.self.inside in
    let v = value_of c.args.rule in
    let full = rw (← c.self.view_is) at c.if-is_full.ensures in
    let two = room t.nodes.items t.entries.items t.labels t.space v c.self.invariant.ordered (sym full) in
    let i = c.self.invariant in
    c.extend_from_slice.ensures.succeeds (omega arith)

pub invariant_of-self : goal.invariant_of-self
invariant_of-self g c =
    let t = c.self.inside in
    let i = c.self.invariant in
    let full = rw (← c.self.view_is) at c.if-is_full.ensures in
    let two = room t.nodes.items t.entries.items t.labels t.space (value_of c.args.rule) i.ordered (sym full) in
    let u = c.unwrap.ensures in
    let h = c.extend_from_slice.ensures.items in
    let items : c.extend_from_slice.new.self.items ≡ t.nodes.items ++ c.args.rule.nodes.now = search rules in
    let long : length c.extend_from_slice.new.self.items ≡ length t.nodes.items + length c.args.rule.nodes.now
    = search rules in
    let more = c.push_reserved.ensures.items in
    record {
      few = search rules;
      filled = omega arith;
      labels_reserved = omega arith;
      space_reserved = omega arith;
      small = i.small;
      short = i.short;
      ordered = rw more (laid_push 0 t.entries.items (length t.nodes.items) _ _ i.ordered (omega arith) long);
    }

pub returns : goal.returns
returns g c =
    let t = c.self.inside in
    let i = c.self.invariant in
    let full = rw (← c.self.view_is) at c.if-is_full.ensures in
    let u = c.unwrap.ensures in
    let h = c.extend_from_slice.ensures.items in
    let items : c.extend_from_slice.new.self.items ≡ t.nodes.items ++ c.args.rule.nodes.now = search rules in
    let more = c.push_reserved.ensures.items in
    let k = length_kept t.nodes.items t.entries.items in
    rw (← c.self.view_is) record {
      fits = sym full;
      label = omega arith;
      kept = rw (items, more) (kept_push t.nodes.items c.args.rule.nodes.now t.entries.items _ i.ordered (omega arith)
          refl);
      labels = refl;
      space = refl;
    }
