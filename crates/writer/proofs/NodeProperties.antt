-- The text of a node's term by those of its arguments.
use Rattle.std.proofs.Common.{◌≡◌, ℕ, ◌+◌, ◌<◌, ◌≤◌, List, [], ◌++◌, length, get_or, take, pos, Ok, Result, sym}
use Rattle.std.proofs.Common.{ap, ◌∙◌, arith}
use Rattle.std.proofs.lemmas.List.{length-append, get_or_past, take_all}
use Rattle.terms.specs.declared.node.Node.{Node}
use Rattle.terms.specs.declared.node.Node.TheVariants.{App}
use Rattle.terms.specs.Term.{Term, int}
use Rattle.terms.specs.Rows.{terms_at, build, meanings, meaning, fitting, all_below}
use Rattle.terms.specs.Places.{no_node}
use Rattle.terms.proofs.FittingProperties.{all_below_at, fitting_args, fitting_from_at}
use Rattle.terms.proofs.RowsProperties.{app_arity, meaning_build, length_meanings}
use Rattle.terms.proofs.RowViewsProperties.{row_nodes_fitting}
use Rattle.terms.specs.declared.row.Row.{Row}
use Rattle.terms.specs.RowViews.{row_nodes}
use Rattle.grammar.specs.Written as written
use Rattle.writing.specs.Writing.{text_at, arguments_text}
use Rattle.writer.specs.declared.fault.DoesNotFit.{DoesNotFit}
use Rattle.writer.specs.declared.line.LineWriter.{LineWriter}
use Rattle.writer.specs.declared.piece.Spot.{Spot}
use Rattle.writer.specs.declared.piece.Form.{Form}
use Rattle.writer.specs.Lines.{line_seen, Puts}
use Rattle.writer.specs.Pieces.{spot_of, form_of, others_spot, argument_spot, opening_text, closing_text}
use Rattle.writer.specs.Shown.{firsts, firsts_all}
use Rattle.writer.specs.Numbered.{numbered, all_numbered}
use Rattle.writer.proofs.PutProperties.{puts_then, puts_same}
use Rattle.writer.proofs.PiecesProperties.{app_parts}
use Rattle.writer.proofs.NumberedProperties.{part_text, part_seen, part_text_more, part_seen_more, count_terms_at}
use Rattle.writer.proofs.NumberedProperties.{size_all_numbered}

pub meaning_past : (ns : List (List ℕ)) (xs : List Node) (i : ℕ) → length xs ≤ i → meaning ns xs i ≡ int (pos 0)
meaning_past ns xs i l = get_or_past (meanings ns xs) i (int (pos 0)) (omega (arith, length_meanings ns xs))

-- the node at a place within a row
pub record NodeAt (row : Row) (i : ℕ) (x : Node) : Type 0 where
  pub inside : i < length (row_nodes row)
  pub here : get_or (row_nodes row) i no_node ≡ x

-- as a slice of the row reads it
pub node_at_read : (row : Row) (ys : List Node) (i : ℕ) (x : Node) → ys ≡ row_nodes row → i < length (row_nodes row)
    → get_or ys i no_node ≡ x → NodeAt row i x
node_at_read row ys i x e l d = record { inside = l; here = ap (λ l. get_or l i no_node) (sym e) ∙ d }

pub app_at_read : (row : Row) (ys : List Node) (i f n : ℕ) (is : List ℕ) → ys ≡ row_nodes row
    → i < length (row_nodes row) → get_or ys i no_node ≡ App f n is → NodeAt row i (App f n is)
app_at_read row ys i f n is e l d = node_at_read row ys i (App f n is) e l d

pub meaning_at : {row : Row} {i : ℕ} {x : Node} (ns : List (List ℕ)) → NodeAt row i x
    → meaning ns (row_nodes row) i ≡ build ns (meanings ns (row_nodes row)) x
meaning_at {row} {i} {x} ns at =
    meaning_build ns (row_nodes row) (row_nodes_fitting row) i at.inside
    ∙ ap (build ns (meanings ns (row_nodes row))) at.here

pub arity_at : {row : Row} {i f n : ℕ} {is : List ℕ} → NodeAt row i (App f n is) → n ≤ 8
arity_at {row} {i} {f} {n} {is} at = app_arity (row_nodes row) (row_nodes_fitting row) i at.inside f n is at.here

-- the pieces of an application, and what is seen behind it
pub node_text : {row : Row} {i f n : ℕ} {is : List ℕ} (p : Spot) (k : Form) (ns : List (List ℕ))
    (a js seen old : List ℕ) → NodeAt row i (App f n is) → js ≡ take n is → a ≡ get_or ns f [] → k ≡ form_of a (length js)
    → seen ≡ old
    → (opening_text p k a ++ part_text k seen (meanings ns (row_nodes row)) js (length js)) ++ closing_text p k
    ≡ text_at (spot_of p) (numbered old (meaning ns (row_nodes row) i))
node_text {row} {i} {f} {n} {is} p k ns a js seen old at ej ea ek es =
    let ts = terms_at (meanings ns (row_nodes row)) js in
    let ws = all_numbered old ts in
    let many : written.size ws ≡ length js = size_all_numbered old ts ∙ count_terms_at (meanings ns (row_nodes row)) js in
    ap (λ s. (opening_text p k a ++ part_text k s (meanings ns (row_nodes row)) js (length js)) ++ closing_text p k) es
    ∙ ap (λ ys. (opening_text p k a
    ++ arguments_text (spot_of (others_spot k)) (all_numbered old (terms_at (meanings ns (row_nodes row)) ys)))
    ++ closing_text p k) (take_all (length js) js (omega arith))
    ∙ ap (λ h. (opening_text p h a ++ arguments_text (spot_of (others_spot h)) ws) ++ closing_text p h) ek
    ∙ app_parts p a ws (length js) many
    ∙ ap (λ g. text_at (spot_of p) (written.app g ws)) ea
    ∙ ap (λ ys. text_at (spot_of p) (written.app (get_or ns f []) (all_numbered old (terms_at (meanings ns (row_nodes row)) ys)))) ej
    ∙ ap (λ t. text_at (spot_of p) (numbered old t)) (sym (meaning_at ns at))

pub node_seen : {row : Row} {i f n : ℕ} {is : List ℕ} (ns : List (List ℕ)) (js seen old : List ℕ)
    → NodeAt row i (App f n is) → js ≡ take n is → seen ≡ old
    → part_seen seen (meanings ns (row_nodes row)) js (length js) ≡ firsts old (meaning ns (row_nodes row) i)
node_seen {row} {i} {f} {n} {is} ns js seen old at ej es =
    ap (λ s. part_seen s (meanings ns (row_nodes row)) js (length js)) es
    ∙ ap (λ ys. firsts_all old (terms_at (meanings ns (row_nodes row)) ys)) (take_all (length js) js (omega arith) ∙ ej)
    ∙ ap (firsts old) (sym (meaning_at ns at))

-- an argument stands before its node
pub argument_before : {row : Row} {i f n : ℕ} {is : List ℕ} (js : List ℕ) (k : ℕ) → NodeAt row i (App f n is)
    → js ≡ take n is → k < length js → get_or js k 0 < i
argument_before {row} {i} {f} {n} {is} js k at ej l =
    let fit = ap (fitting i) (sym at.here) ∙ fitting_from_at (row_nodes row) (row_nodes_fitting row) i at.inside in
    all_below_at i js (ap (all_below i) ej ∙ (fitting_args i f n is fit).1) k l

-- one argument more
pub argument_next : {a b c : LineWriter} {u : Unit {0}} {r : Result (Unit {0}) DoesNotFit} (k : Form) (seen : List ℕ)
    (ts : List Term) (is : List ℕ) (n i : ℕ) (p : Spot) → n < length is → i ≡ get_or is n 0 → p ≡ argument_spot k n
    → Puts a b (part_text k seen ts is n) (part_seen seen ts is n) (Ok u)
    → Puts b c (text_at (spot_of p) (numbered (line_seen b) (get_or ts i (int (pos 0)))))
    (firsts (line_seen b) (get_or ts i (int (pos 0)))) r
    → Puts a c (part_text k seen ts is (n + 1)) (part_seen seen ts is (n + 1)) r
argument_next {a} {b} {c} {u} {r} k seen ts is n i p l ei ep old new =
    let t = get_or ts i (int (pos 0)) in
    let h = old.put.told.1 in
    puts_same (sym (part_text_more k seen ts is n i l ei)) (sym (part_seen_more seen ts is n i l ei))
    (puts_then old
    (puts_same
    (ap (λ q. text_at (spot_of q) (numbered (line_seen b) t)) ep
    ∙ ap (λ s. text_at (spot_of (argument_spot k n)) (numbered s t)) h)
    (ap (λ s. firsts s t) h) new))

-- what stands before the arguments and the first of them are no longer than the whole
pub part_short : (x y z part : List ℕ) (whole : List ℕ) → (x ++ y) ++ z ≡ whole → length part ≤ length y
    → length (x ++ part) ≤ length whole
part_short x y z part whole e l =
    let a = ap length e in
    let b = length-append (x ++ y) z in
    let c = length-append x y in
    let d = length-append x part in
    omega arith

pub opening_short : (x y z whole : List ℕ) → (x ++ y) ++ z ≡ whole → length x ≤ length whole
opening_short x y z whole e =
    let a = ap length e in
    let b = length-append (x ++ y) z in
    let c = length-append x y in
    omega arith
