-- The first label, the one behind a label of the indicator, and none behind another.
use Rattle.std.proofs.Common.{drop, suc, sym, ap, ◌∙◌, add-one, arith}
use Rattle.rules.specs.Meaning.{first_of, next_in}
use Rattle.tablestore.specs.Rows.{own, place_in}
use Rattle.tablestore.specs.Views.{rules_of, live_of}
use Rattle.tablestore.proofs.RowsProperties.{behind_own, behind_other, own_past, place_found, place_missing}
use Rattle.tablestore.proofs.ViewsProperties.{lawful}
use Rattle.tablestore.proofs.store.TableStoreRuleStore.next.Goals as goal

pub returns-in-None : goal.returns-in-None
returns-in-None c = record { value = rw c.in-None.is c.first_from.ensures; lawful = lawful c.args.self.now }

pub returns-in_ok-place-in-Some : goal.returns-in_ok-place-in-Some
returns-in_ok-place-in-Some c =
    let s = c.args.self.now in
    let i = c.args.indicator in
    let l = c.in-Some.label in
    let p = c.in_ok-place-in-Some.field-0 in
    let found = place_found l p (live_of s) (sym c.in_ok-place-in-Some.ensures) in
    record {
      value = c.first_from-in-Some.ensures
          ∙ ap (λ n. first_of (own (rules_of s) (drop n (live_of s)) i.name i.arity)) (add-one p ∙ ap suc found.0)
          ∙ sym (ap (next_in (own (rules_of s) (live_of s) i.name i.arity)) c.in-Some.is
          ∙ behind_own (rules_of s) l (live_of s) i.name i.arity (sym c.if-is_of.ensures));
      lawful = lawful s;
    }

pub returns-in_err-place-in-Some : goal.returns-in_err-place-in-Some
returns-in_err-place-in-Some c =
    let s = c.args.self.now in
    let i = c.args.indicator in
    let l = c.in-Some.label in
    let missing = place_missing l (live_of s) (sym c.in_err-place-in-Some.ensures) in
    record {
      value = c.from_residual.ensures
          ∙ sym (ap (next_in (own (rules_of s) (live_of s) i.name i.arity)) c.in-Some.is
          ∙ behind_own (rules_of s) l (live_of s) i.name i.arity (sym c.if-is_of.ensures)
          ∙ own_past (rules_of s) (live_of s) i.name i.arity (suc (place_in l (live_of s))) (omega arith));
      lawful = lawful s;
    }

pub returns-in-Some-2 : goal.returns-in-Some-2
returns-in-Some-2 c =
    let s = c.args.self.now in
    let i = c.args.indicator in
    record {
      value = sym (ap (next_in (own (rules_of s) (live_of s) i.name i.arity)) c.in-Some.is
          ∙ behind_other (rules_of s) c.in-Some.label (live_of s) i.name i.arity (sym c.if-is_of.ensures));
      lawful = lawful s;
    }
