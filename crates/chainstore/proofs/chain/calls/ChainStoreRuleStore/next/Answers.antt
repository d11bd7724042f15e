-- The next label is read from the ring.
use Rattle.std.proofs.Common.{Some, None, sym, refl, ap, ◌∙◌, arith}
use Rattle.rules.specs.Meaning.{next_in}
use Rattle.chainstore.specs.Rings.{label_of, after_at}
use Rattle.chainstore.specs.Views.{kept_of, links_of}
use Rattle.chainstore.proofs.LinkedProperties.{row, cell_less}
use Rattle.rules.proofs.MeaningProperties.{behind_absent}
use Rattle.chainstore.proofs.ViewsProperties.{next_label, store_lawful}
use Rattle.chainstore.proofs.chain.calls.ChainStoreRuleStore.next.Goals as goal

pub overflow_add-label : goal.overflow_add-label
overflow_add-label c =
    let s = c.args.self.now in
    let l = cell_less (kept_of s) c.args.indicator (Some c.in-Some.label) (sym c.if-is_live.ensures) in
    let few = s.within.few in
    let small = s.within.small in
    omega arith

pub label_after-requires-in-Some : goal.label_after-requires-in-Some
label_after-requires-in-Some c =
    let s = c.args.self.now in
    let l = cell_less (kept_of s) c.args.indicator (Some c.in-Some.label) (sym c.if-is_live.ensures) in
    let cells = s.cells in
    omega arith

pub returns-in-None : goal.returns-in-None
returns-in-None c =
    let s = c.args.self.now in
    let i = c.args.indicator in
    record {
      value = c.label_after.ensures ∙ ap (λ n. label_of (after_at (links_of s) n)) c.head_of.ensures.value
          ∙ next_label s i None refl ∙ ap (next_in (row (kept_of s) i)) (sym c.in-None.is);
      lawful = store_lawful s;
    }

pub returns-in-Some : goal.returns-in-Some
returns-in-Some c =
    let s = c.args.self.now in
    let i = c.args.indicator in
    record {
      value = c.label_after-in-Some.ensures ∙ next_label s i (Some c.in-Some.label) (sym c.if-is_live.ensures)
          ∙ ap (next_in (row (kept_of s) i)) (sym c.in-Some.is);
      lawful = store_lawful s;
    }

pub returns-in-Some-2 : goal.returns-in-Some-2
returns-in-Some-2 c =
    let s = c.args.self.now in
    let i = c.args.indicator in
    record {
      value = sym (ap (next_in (row (kept_of s) i)) c.in-Some.is
          ∙ behind_absent c.in-Some.label (row (kept_of s) i) (sym c.if-is_live.ensures));
      lawful = store_lawful s;
    }
