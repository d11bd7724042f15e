-- The ring passes the erased label by.
use Rattle.std.proofs.Common.{◌≡◌, false, is_some, None, sym, refl, ap, ◌∙◌, subst, arith}
use Rattle.std.specs.Option.{option_flatten}
use Rattle.rules.specs.Meaning.{ever_added}
use Rattle.rules.specs.Tables.{rules_in, note_at}
use Rattle.rules.proofs.TablesProperties.{rules_noted, length_noted, within_noted}
use Rattle.chainstore.specs.Rows.{row_of}
use Rattle.chainstore.specs.Linked.{Linked}
use Rattle.chainstore.specs.Views.{kept_of}
use Rattle.chainstore.proofs.RowsProperties.{row_of_erased, without_dead}
use Rattle.chainstore.proofs.LinkedProperties.{linked_erased}
use Rattle.chainstore.proofs.ViewsProperties.{live_found}
use Rattle.chainstore.proofs.chain.calls.ChainStoreRuleStore.erase.Goals as goal

pub overflow_add-label : goal.overflow_add-label
overflow_add-label c =
    let s = c.args.self.now in
    let h = live_found (kept_of s) c.args.label s.within.named (cc) in
    let less = h.found.less in
    let few = s.within.few in
    let small = s.within.small in
    omega arith

pub remove-requires : goal.remove-requires
remove-requires c =
    let s = c.args.self.now in
    let h = live_found (kept_of s) c.args.label s.within.named (cc) in
    let less = h.found.less in
    let cells = s.cells in
    omega arith

pub set_note-requires : goal.set_note-requires
set_note-requires c =
    let s = c.args.self.now in
    let h = live_found (kept_of s) c.args.label s.within.named (cc) in
    h.found.less

pub invariant_of-self : goal.invariant_of-self
invariant_of-self c =
    let s = c.args.self.now in
    let ks = kept_of s in
    let l = c.args.label in
    let live = live_found ks l s.within.named (cc) in
    let h = live.found in
    let new = c.set_note.ensures in
    let kept = ap (λ t. t.kept) new in
    let long = length_noted ks l None in
    let cells = s.cells in
    let same = c.remove.ensures.len in
    record {
      within = within_noted s.table c.set_note.new.self l None s.within new;
      cells = rw kept (omega arith);
      spare = c.remove.ensures.labels ∙ s.spare ∙ sym (ap (λ t. t.labels) new);
      flags = s.flags;
      noted = λ i. s.noted i
          ∙ sym (ap (λ xs. ever_added (rules_in xs) i.name i.arity) kept
          ∙ ap (λ vs. ever_added vs i.name i.arity) (rules_noted ks l None));
      linked = subst (λ xs. Linked xs c.remove.new.self.links) (sym kept)
          (linked_erased ks l h.kept s.rings c.remove.new.self h.less h.is h.small
          (ap is_some h.note) s.linked c.remove.ensures);
    }

pub returns-then-is_some : goal.returns-then-is_some
returns-then-is_some c =
    let s = c.args.self.now in
    let ks = kept_of s in
    let l = c.args.label in
    let live = live_found ks l s.within.named (cc) in
    let new = c.set_note.ensures in
    let kept = ap (λ t. t.kept) new in
    record {
      rules = ap rules_in kept ∙ rules_noted ks l None;
      row = λ f a. ap (λ xs. row_of xs f a) kept ∙ row_of_erased ks l f a live.found.less;
      known = λ f a. ap (λ xs. ever_added (rules_in xs) f a) kept
          ∙ ap (λ vs. ever_added vs f a) (rules_noted ks l None);
      labels = ap (λ t. t.labels) new;
      space = ap (λ t. t.space) new;
    }

pub returns-else-is_some : goal.returns-else-is_some
returns-else-is_some c =
    let ks = kept_of c.args.self.now in
    let dead : is_some (option_flatten (note_at ks c.args.label)) ≡ false = cc in
    record {
      rules = refl;
      row = λ f a. without_dead ks c.args.label f a dead;
      known = λ f a. refl;
      labels = refl;
      space = refl;
    }
