-- The label is taken out at its place, or is not there.
use Rattle.std.proofs.Common.{◌≡◌, length, vec_items, sym, ap, ◌∙◌, arith}
use Rattle.std.specs.List.{remove}
use Rattle.rules.specs.Meaning.{without}
use Rattle.rules.proofs.MeaningProperties.{distinct_without}
use Rattle.tablestore.specs.Rows.{below}
use Rattle.tablestore.specs.Views.{live_of}
use Rattle.tablestore.proofs.RowsProperties.{removed_place, place_found, place_missing, without_past, below_without}
use Rattle.tablestore.proofs.ViewsProperties.{erased}
use Rattle.tablestore.proofs.store.TableStoreRuleStore.erase.Goals as goal

pub invariant_of-self : goal.invariant_of-self
invariant_of-self c =
    let s = c.args.self.now in
    let l = c.args.label in
    let found = place_found l c.in-Some.at (live_of s) (sym c.in-Some.ensures) in
    let items : vec_items c.remove.new.self ≡ without l (live_of s)
    = c.remove.ensures.items ∙ ap (remove (live_of s)) found.0 ∙ removed_place l (live_of s) in
    let one = c.remove.ensures.len in
    let cap = c.remove.ensures.capacity in
    let few = s.few in
    let reserved = s.reserved in
    record {
      within = s.within;
      reserved = omega arith;
      few = omega arith;
      used = ap (below (length s.table.kept)) items ∙ below_without (length s.table.kept) l (live_of s) s.used;
      once = rw items (distinct_without l (live_of s) s.once);
    }

pub returns-in-Some : goal.returns-in-Some
returns-in-Some c =
    let s = c.args.self.now in
    let l = c.args.label in
    let found = place_found l c.in-Some.at (live_of s) (sym c.in-Some.ensures) in
    erased s.table l (live_of s) (vec_items c.remove.new.self)
    (c.remove.ensures.items ∙ ap (remove (live_of s)) found.0 ∙ removed_place l (live_of s))

pub returns-in_default : goal.returns-in_default
returns-in_default c =
    let s = c.args.self.now in
    let l = c.args.label in
    erased s.table l (live_of s) (live_of s)
    (sym (without_past l (live_of s) (place_missing l (live_of s) (sym c.in_default.ensures))))
