-- A new store is fresh.
use Rattle.std.proofs.Common.{false, get_or, sym, ap, ◌∙◌, subst}
use Rattle.rules.specs.Meaning.{ever_added}
use Rattle.rules.specs.Tables.{rules_in}
use Rattle.rules.proofs.TablesProperties.{within_empty}
use Rattle.chainstore.specs.Linked.{Linked}
use Rattle.chainstore.specs.Rows.{row_of}
use Rattle.chainstore.proofs.LinkedProperties.{head, linked_alone}
use Rattle.chainstore.proofs.ViewsProperties.{noted_fresh}
use Rattle.chainstore.proofs.chain.ChainStore.new.Goals as goal

pub invariant_of-result : goal.invariant_of-result
invariant_of-result c =
    let t = c.in_ok-table.ensures in
    let r = c.in_ok-rings.ensures in
    let none = ap (λ x. x.kept) t.1 in
    let labels = ap (λ x. x.labels) t.1 in
    let flags = c.in_ok-known.ensures.items_if_clones_equal (λ y e. e) in
    record {
      within = within_empty c.args.labels c.args.space _ t.0 t.1;
      cells = rw none r.heads;
      spare = r.labels ∙ sym labels;
      flags = c.in_ok-known.ensures.len;
      noted = λ i. ap (λ xs. get_or xs (head i) false) flags ∙ noted_fresh i
          ∙ sym (ap (λ ks. ever_added (rules_in ks) i.name i.arity) none);
      linked = subst (λ ks. Linked ks c.in_ok-rings.rings.links) (sym none)
          (linked_alone c.in_ok-rings.rings.links r.alone);
    }

pub returns : goal.returns
returns c =
    let t = c.in_ok-table.ensures in
    let none = ap (λ x. x.kept) t.1 in (
      t.0,
      record {
        rules = ap rules_in none;
        row = λ f a. ap (λ ks. row_of ks f a) none;
        known = λ f a. ap (λ ks. ever_added (rules_in ks) f a) none;
        labels_are = ap (λ x. x.labels) t.1;
        space_is = ap (λ x. x.space) t.1;
      },
    )
