-- The new label stands at this end of the live labels.
use Rattle.std.proofs.Common.{◌≡◌, ◌+◌, ◌<◌, ◌∷◌, [], ◌++◌, is_ok, vec_items, vec_len, vec_capacity, arith}
use Rattle.rules.specs.Meaning.{back, placed}
use Rattle.rules.specs.Calls.{value_of}
use Rattle.rules.proofs.TablesProperties.{entered_room, within_entered}
use Rattle.tablestore.specs.Views.{live_of}
use Rattle.tablestore.proofs.RowsProperties.{live_placed}
use Rattle.tablestore.proofs.ViewsProperties.{when_true, added}
use Rattle.tablestore.proofs.store.TableStoreRuleStore.add_back.Goals as goal

pub invariant_of-self-2 : goal.invariant_of-self-2
invariant_of-self-2 c =
    let s = c.args.self.now in
    let u = c.add.new.self in
    let v = value_of c.args.rule in
    let l = c.in_ok-label.label in
    let k = c.in_ok-label.ensures in
    let three = entered_room s.table u v _ l k in
    let free = three.0 in
    let next = three.2 in
    let few = s.few in
    let reserved = s.reserved in
    let labels = k.labels in
    let fits : vec_len s.live < vec_capacity s.live = omega arith in
    let ok = c.push.ensures.succeeds fits in
    let items : vec_items c.push.new.self ≡ placed back l (live_of s)
    = when_true (is_ok c.push.result) (live_of s ++ l ∷ []) (live_of s) (vec_items c.push.new.self)
    c.push.ensures.items ok in
    let more : vec_len c.push.new.self ≡ vec_len s.live + 1
    = when_true (is_ok c.push.result) (vec_len s.live + 1) (vec_len s.live) (vec_len c.push.new.self)
    c.push.ensures.len ok in
    let cap = c.push.ensures.capacity in
    let two = live_placed back _ _ l (live_of s) (vec_items c.push.new.self) s.used s.once k.label next items in
    record {
      within = within_entered s.table u v _ l s.within k c.args.rule.indicator.small;
      reserved = omega arith;
      few = omega arith;
      used = two.0;
      once = two.1;
    }

pub returns : goal.returns
returns c =
    let s = c.args.self.now in
    let l = c.in_ok-label.label in
    let k = c.in_ok-label.ensures in
    let three = entered_room s.table c.add.new.self (value_of c.args.rule) _ l k in
    let free = three.0 in
    let few = s.few in
    let reserved = s.reserved in
    let fits : vec_len s.live < vec_capacity s.live = omega arith in
    let items : vec_items c.push.new.self ≡ placed back l (live_of s)
    = when_true (is_ok c.push.result) (live_of s ++ l ∷ []) (live_of s) (vec_items c.push.new.self) c.push.ensures.items
    (c.push.ensures.succeeds fits) in
    added back s.table c.add.new.self (value_of c.args.rule) l (live_of s) (vec_items c.push.new.self) s.used k items
