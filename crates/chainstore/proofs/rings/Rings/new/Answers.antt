-- Each turn adds the next head.
use Rattle.std.proofs.Common.{◌+◌, vec_items, sym, refl, subst, arith}
use Rattle.chainstore.specs.declared.rings.Link.{Link}
use Rattle.chainstore.specs.Rings.{Alone}
use Rattle.chainstore.proofs.LinksProperties.{alone_push}
use Rattle.chainstore.proofs.rings.Rings.new.Goals as goal

pub loop-head-preserved : goal.loop-head-preserved
loop-head-preserved c =
    let n = c.loop-head.head in
    let cell : Link = record { before = n; after = n } in
    record {
      alone = subst (λ ls. Alone (n + 1) ls) (sym c.push_reserved.ensures.items)
          (alone_push n (vec_items c.loop-head.links) cell (omega arith) refl refl c.loop-head.invariant.alone);
      count = omega arith;
      room = omega arith;
    }
