-- Two terms on top, or nothing happens.
use Rattle.std.proofs.Common.{◌≡◌, ◌<◌, ◌≤◌, length, Ok, vec_items, vec_len, sym, refl, ap, ◌∙◌, arith}
use Rattle.names.specs.Interned.{list_after}
use Rattle.names.specs.Listed.{name_at}
use Rattle.terms.specs.RowViews.{row_nodes}
use Rattle.reader.specs.Ops.{take_many, named, joined}
use Rattle.text.proofs.EnteredProperties.{extends_same}
use Rattle.text.proofs.BuiltProperties.{built_length, joined_short, joined_long, ends_as}
use Rattle.text.proofs.builder.Builder.join.Goals as goal

pub returns-then-len-lt2 : goal.returns-then-len-lt2
returns-then-len-lt2 c text first st ns f b same ok at =
    let h = c.args.self.now in
    let n : vec_len h.stack ≡ length (vec_items h.stack) = h.stack.ok.0 in
    let m = built_length text first st ns (row_nodes h.row) (vec_items h.stack) (vec_items h.variables) b in
    let l : length st < 2 = omega arith in
    ends_as text first st (joined f st) ns ns (row_nodes h.row) (vec_items h.stack) (vec_items h.variables) (Ok tt)
    (sym (joined_short f st l)) refl b

pub returns : goal.returns
returns c text first st ns f b same ok at =
    let h = c.args.self.now in
    let h' = c.compound.new.self in
    let n : vec_len h.stack ≡ length (vec_items h.stack) = h.stack.ok.0 in
    let m = built_length text first st ns (row_nodes h.row) (vec_items h.stack) (vec_items h.variables) b in
    let l : 2 ≤ length st = omega arith in
    ends_as text first (named f (take_many 2 st)) (joined f st) (list_after ns f) ns (row_nodes h'.row) (vec_items h'.stack)
    (vec_items h'.variables) c.compound.result (joined_long f st l) (sym same)
    (c.compound.ensures text first st ns f b (extends_same ns (list_after ns f) same) ok
    (ap (λ l. name_at l c.args.name) (sym same) ∙ at))
