-- An argument stands before its node, so that the recursion goes down.
-- What stands before the arguments, the arguments, and what stands behind them make the text.
use Rattle.std.proofs.Common.{◌≡◌, ℕ, ◌+◌, ◌<◌, ◌≤◌, length, get_or, Ok, sym, refl, ap, ◌∙◌, subst, arith, w32, SFits}
use Rattle.std.proofs.Common.{to_z, of_z, rules}
use Rattle.std.proofs.lemmas.Int.{to_z-of_z}
use Rattle.names.specs.View.{list}
use Rattle.terms.specs.Rows.{meanings, meaning}
use Rattle.terms.specs.RowViews.{row_nodes}
use Rattle.writing.specs.Writing.{text_at, placed}
use Rattle.writer.specs.Lines.{line_seen, Puts}
use Rattle.writer.specs.Pieces.{spot_of, opening_text, closing_text}
use Rattle.writer.specs.Shown.{firsts, integer_text}
use Rattle.writer.specs.Numbered.{numbered}
use Rattle.writer.proofs.NodeProperties.{app_at_read, node_at_read, meaning_at, arity_at, argument_before, node_text, node_seen}
use Rattle.writer.proofs.NodeProperties.{argument_next, part_short, opening_short}
use Rattle.writer.proofs.NumberedProperties.{part_text, part_seen, part_text_longer}
use Rattle.writer.proofs.PutProperties.{puts_then, puts_next, puts_longer, puts_same}
use Rattle.writer.proofs.line.LineWriter.+node.Goals as goal

pub arguments-args-requires : goal.arguments-args-requires
arguments-args-requires t c =
    arity_at (app_at_read c.args.row.now c.nodes.result.now c.args.at c.in-App.name c.in-App.arity c.in-App.args
    c.nodes.ensures c.requires c.in-App.is)

pub returns-in_err-opening-in-App : goal.returns-in_err-opening-in-App
returns-in_err-opening-in-App t c =
    let at = app_at_read c.args.row.now c.nodes.result.now c.args.at c.in-App.name c.in-App.arity c.in-App.args
    c.nodes.ensures c.requires c.in-App.is in
    let ns = list c.args.names.now in
    let nodes = row_nodes c.args.row.now in
    let js = c.arguments-args.result.now in
    let seen = line_seen c.args.self.now in
    let k = c.form_of-form.result in
    let whole = node_text c.args.spot k ns c.name_of-name.result.now js seen seen at c.arguments-args.ensures c.name_of-name.ensures
    c.form_of-form.ensures refl in
    puts_longer (text_at (spot_of c.args.spot) (numbered seen (meaning ns nodes c.args.at)))
    (firsts seen (meaning ns nodes c.args.at)) c.from_residual.result c.from_residual.ensures.0
    (opening_short (opening_text c.args.spot k c.name_of-name.result.now)
    (part_text k seen (meanings ns nodes) js (length js)) (closing_text c.args.spot k)
    (text_at (spot_of c.args.spot) (numbered seen (meaning ns nodes c.args.at))) whole)
    c.in_err-opening-in-App.ensures

pub node-requires : goal.node-requires
node-requires t c =
    let at = app_at_read c.args.row.now c.nodes.result.now c.args.at c.in-App.name c.in-App.arity c.in-App.args
    c.nodes.ensures c.requires c.in-App.is in
    let less = argument_before c.arguments-args.result.now c.loop-k.k at c.arguments-args.ensures c.loop-k-test.true in
    let inside = c.requires in
    (omega arith, omega arith)

pub returns-in_err-node-in-App : goal.returns-in_err-node-in-App
returns-in_err-node-in-App t c =
    let at = app_at_read c.args.row.now c.nodes.result.now c.args.at c.in-App.name c.in-App.arity c.in-App.args
    c.nodes.ensures c.requires c.in-App.is in
    let ns = list c.args.names.now in
    let nodes = row_nodes c.args.row.now in
    let js = c.arguments-args.result.now in
    let old = line_seen c.args.self.now in
    let seen = line_seen c.opening.new.self in
    let ts = meanings ns nodes in
    let k = c.form_of-form.result in
    let l : c.loop-k.k < length js = c.loop-k-test.true in
    let n : c.loop-k.k + 1 ≤ length js = omega arith in
    let first = c.in_ok-opening-in-App.ensures in
    let whole = node_text c.args.spot k ns c.name_of-name.result.now js seen old at c.arguments-args.ensures c.name_of-name.ensures
    c.form_of-form.ensures first.put.told.1 in
    puts_longer (text_at (spot_of c.args.spot) (numbered old (meaning ns nodes c.args.at)))
    (firsts old (meaning ns nodes c.args.at)) c.from_residual-in_err-node-in-App.result
    c.from_residual-in_err-node-in-App.ensures.0
    (part_short (opening_text c.args.spot k c.name_of-name.result.now) (part_text k seen ts js (length js))
    (closing_text c.args.spot k) (part_text k seen ts js (c.loop-k.k + 1))
    (text_at (spot_of c.args.spot) (numbered old (meaning ns nodes c.args.at))) whole
    (part_text_longer k seen ts js (c.loop-k.k + 1) (length js) n))
    (puts_then first
    (argument_next k seen ts js c.loop-k.k (get_or js c.loop-k.k 0) c.argument_spot.result l refl
    c.argument_spot.ensures c.loop-k.invariant c.in_err-node-in-App.ensures))

pub loop-k-preserved : goal.loop-k-preserved
loop-k-preserved t c =
    let js = c.arguments-args.result.now in
    argument_next c.form_of-form.result (line_seen c.opening.new.self)
    (meanings (list c.args.names.now) (row_nodes c.args.row.now)) js c.loop-k.k
    (get_or js c.loop-k.k 0) c.argument_spot.result c.loop-k-test.true refl c.argument_spot.ensures
    c.loop-k.invariant c.in_ok-node-in-App.ensures

pub returns-in-Var : goal.returns-in-Var
returns-in-Var t c =
    let seen = line_seen c.args.self.now in
    let at = node_at_read c.args.row.now c.nodes.result.now c.args.at _ c.nodes.ensures c.requires c.in-Var.is in
    let m = meaning_at (list c.args.names.now) at in
    puts_same (ap (λ u. text_at (spot_of c.args.spot) (numbered seen u)) (sym m)) (ap (firsts seen) (sym m))
    c.variable.ensures

pub returns-in-Int : goal.returns-in-Int
returns-in-Int t c =
    let seen = line_seen c.args.self.now in
    let i = c.in-Int.i in
    let fit : SFits w32 i = search rules in
    let z : to_z w32 (of_z w32 i) ≡ i = to_z-of_z w32 i fit in
    let at = node_at_read c.args.row.now c.nodes.result.now c.args.at _ c.nodes.ensures c.requires c.in-Int.is in
    let m = meaning_at (list c.args.names.now) at in
    puts_same
    (ap (λ j. placed (spot_of c.args.spot) (integer_text j)) z
    ∙ ap (λ u. text_at (spot_of c.args.spot) (numbered seen u)) (sym m))
    (ap (firsts seen) (sym m)) c.number.ensures

pub returns-after-loop-k : goal.returns-after-loop-k
returns-after-loop-k t c =
    let at = app_at_read c.args.row.now c.nodes.result.now c.args.at c.in-App.name c.in-App.arity c.in-App.args
    c.nodes.ensures c.requires c.in-App.is in
    let ns = list c.args.names.now in
    let js = c.arguments-args.result.now in
    let old = line_seen c.args.self.now in
    let seen = line_seen c.opening.new.self in
    let ts = meanings ns (row_nodes c.args.row.now) in
    let k = c.form_of-form.result in
    let all : c.loop-k.k ≡ length js = omega arith in
    let first = c.in_ok-opening-in-App.ensures in
    let same = first.put.told.1 in
    puts_same
    (node_text c.args.spot k ns c.name_of-name.result.now js seen old at c.arguments-args.ensures c.name_of-name.ensures c.form_of-form.ensures same)
    (node_seen ns js seen old at c.arguments-args.ensures same)
    (puts_next
    (puts_then first
    (subst (λ (n : ℕ). Puts c.opening.new.self c.loop-k.self (part_text k seen ts js n)
    (part_seen seen ts js n) (Ok tt)) all c.loop-k.invariant))
    c.closing.ensures)
