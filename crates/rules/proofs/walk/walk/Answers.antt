-- One label more, and the end of the row.
use Rattle.std.proofs.Common.{vec_items, vec_len, arith}
use Rattle.rules.proofs.WalkProperties.{walked_none, walked_within, walked_more, walked_all}
use Rattle.rules.proofs.walk.walk.Goals as goal

pub loop-at-init : goal.loop-at-init
loop-at-init g c =
    let row = (g.S.RuleStore.meaning c.args.store.now).row c.args.indicator.name c.args.indicator.arity in
    walked_none row (vec_items c.clear.new.self) (vec_len c.clear.new.self) c.next-at.result
    c.clear.ensures.items c.clear.ensures.len c.next-at.ensures.value

pub loop-at-smaller : goal.loop-at-smaller
loop-at-smaller g c =
    let row = (g.S.RuleStore.meaning c.args.store.now).row c.args.indicator.name c.args.indicator.arity in
    let less = walked_within row (vec_items c.loop-at.out) (vec_len c.loop-at.out) c.in-Some.label
    c.loop-at.at c.loop-at.invariant c.in-Some.is in
    let more = c.in_ok-push.ensures.len in
    omega arith

pub loop-at-preserved : goal.loop-at-preserved
loop-at-preserved g c =
    let row = (g.S.RuleStore.meaning c.args.store.now).row c.args.indicator.name c.args.indicator.arity in
    walked_more row (vec_items c.loop-at.out) (vec_items c.push.new.self) (vec_len c.loop-at.out)
    (vec_len c.push.new.self) c.in-Some.label c.loop-at.at c.next-at-in-Some.result
    (c.next-at-in-Some.ensures.lawful.once c.args.indicator.name c.args.indicator.arity)
    c.loop-at.invariant c.in-Some.is c.in_ok-push.ensures.items c.in_ok-push.ensures.len
    c.next-at-in-Some.ensures.value

pub returns : goal.returns
returns g c =
    let row = (g.S.RuleStore.meaning c.args.store.now).row c.args.indicator.name c.args.indicator.arity in
    walked_all row (vec_items c.loop-at.out) (vec_len c.loop-at.out) c.loop-at.at c.loop-at.invariant
    c.in_default.is
