-- The arguments of a copy, one after another.
use Rattle.std.proofs.Common.{◌≡◌, ℕ, ◌+◌, ◌<◌, ◌≤◌, true, leb, List, [], ◌∷◌, length, get_or}
use Rattle.std.proofs.Common.{take, set, pos, None, Option, sym, ap, ◌∙◌, subst, add-zero, arith}
use Rattle.std.proofs.lemmas.List.{length-take-le, get_or-take, take-take, take_more, take_more_set}
use Rattle.std.proofs.lemmas.Bool.{and_from, le-leb}
use Rattle.terms.specs.declared.form.Form.{Form}
use Rattle.terms.specs.declared.node.Node.{Node}
use Rattle.terms.specs.declared.node.Node.TheVariants.{App}
use Rattle.terms.specs.Term.{Term, int, app, nil, cons, join, size, sizes}
use Rattle.terms.specs.Rows.{terms_at, build, meanings, meaning, all_below, fitting_from}
use Rattle.terms.specs.Places.{no_node, place_for, with_node}
use Rattle.terms.specs.Copies.{Reads, formed, passed_on, Added, NoRoom, Laid}
use Rattle.terms.proofs.FittingProperties.{all_below_more, all_below_push}
use Rattle.terms.proofs.RowsProperties.{terms_at_append, terms_at_same, meaning_front, meaning_build}
use Rattle.terms.proofs.GoalsProperties.{forms, sizes_join, forms_join, count_terms_at, formed_app, reads_passed, sizes_take}
use Rattle.terms.proofs.CopiesProperties.{front_le, front_front, laid_push}

-- the first k arguments of a node of S stand copied behind B in T, at the first k of the places
pub record Part (inner : Form) (S B T : List Node) (args places : List ℕ) (k : ℕ) : Type 0 where
  pub front : take (length B) T ≡ B
  pub below : all_below (length T) (take k places) ≡ true
  pub grown : (ns : List (List ℕ)) → Reads inner ns
      → length T ≡ length B + sizes (forms inner (terms_at (meanings ns S) (take k args)))
  pub means : (ns : List (List ℕ)) → Reads inner ns
      → terms_at (meanings ns T) (take k places) ≡ forms inner (terms_at (meanings ns S) (take k args))

-- the arguments up to k, and the one at k
forms_more : (inner : Form) (ts : List Term) (args : List ℕ) (k : ℕ) → k < length args
    → forms inner (terms_at ts (take (k + 1) args))
    ≡ join (forms inner (terms_at ts (take k args))) (cons (formed inner (get_or ts (get_or args k 0) (int (pos 0)))) nil)
forms_more inner ts args k l =
    ap (λ is. forms inner (terms_at ts is)) (take_more args k 0 l)
    ∙ ap (forms inner) (terms_at_append ts (take k args) (get_or args k 0 ∷ []))
    ∙ forms_join inner (terms_at ts (take k args)) (cons (get_or ts (get_or args k 0) (int (pos 0))) nil)

sizes_more : (inner : Form) (ts : List Term) (args : List ℕ) (k : ℕ) → k < length args
    → sizes (forms inner (terms_at ts (take (k + 1) args)))
    ≡ sizes (forms inner (terms_at ts (take k args))) + size (formed inner (get_or ts (get_or args k 0) (int (pos 0))))
sizes_more inner ts args k l =
    ap sizes (forms_more inner ts args k l)
    ∙ sizes_join (forms inner (terms_at ts (take k args)))
    (cons (formed inner (get_or ts (get_or args k 0) (int (pos 0)))) nil)
    ∙ ap (λ n. sizes (forms inner (terms_at ts (take k args))) + n)
    (add-zero (size (formed inner (get_or ts (get_or args k 0) (int (pos 0))))))

pub part_more : (inner : Form) (S B T A : List Node) (args places : List ℕ) (k i p : ℕ) → k < length args
    → k < length places → i ≡ get_or args k 0
    → Part inner S B T args places k → Added (Reads inner) (λ ns. formed inner (meaning ns S i)) T A p
    → Part inner S B A args (set places k p) (k + 1)
part_more inner S B T A args places k i p la lp ei part more =
    let le = front_le T A more.kept in
    let last = more.last in
    let e = take_more_set places k p lp in
    record {
      front = front_front B T A part.front more.kept;
      below = ap (all_below (length A)) e
          ∙ all_below_push (length A) (take k places) p
          (all_below_more (length T) (length A) le (take k places) part.below) (omega arith);
      grown = λ ns g.
          let a = part.grown ns g in
          let b = more.grown ns g in
          let s = sizes_more inner (meanings ns S) args k la in
          let d = ap (λ j. size (formed inner (meaning ns S j))) ei in
          omega arith;
      means = λ ns g.
          let old : terms_at (meanings ns A) (take k places) ≡ forms inner (terms_at (meanings ns S) (take k args))
          = terms_at_same (meanings ns A) (meanings ns T) (length T) (meaning_front ns T A more.kept)
          (take k places) part.below
          ∙ part.means ns g in
          let new : meaning ns A p ≡ formed inner (meaning ns S (get_or args k 0))
          = more.means ns g ∙ ap (λ j. formed inner (meaning ns S j)) ei in
          ap (terms_at (meanings ns A)) e
          ∙ terms_at_append (meanings ns A) (take k places) (p ∷ [])
          ∙ ap (λ us. join us (cons (meaning ns A p) nil)) old
          ∙ ap (λ t. join (forms inner (terms_at (meanings ns S) (take k args))) (cons t nil)) new
          ∙ sym (forms_more inner (meanings ns S) args k la);
    }

-- the first arguments serve as well as all of them
part_of_front : (inner : Form) (S B T : List Node) (args places : List ℕ) (n k : ℕ) → k ≤ n
    → Part inner S B T (take n args) places k → Part inner S B T args places k
part_of_front inner S B T args places n k l part =
    let e = take-take k n args l in
    record {
      front = part.front;
      below = part.below;
      grown = λ ns g. part.grown ns g ∙ ap (λ is. length B + sizes (forms inner (terms_at (meanings ns S) is))) e;
      means = λ ns g. part.means ns g ∙ ap (λ is. forms inner (terms_at (meanings ns S) is)) e;
    }

-- what stands at `at`, by its arguments
shown : (form inner : Form) (ns : List (List ℕ)) (S : List Node) (at f n : ℕ) (args : List ℕ) → Reads form ns
    → fitting_from 0 S ≡ true → at < length S
    → get_or S at no_node ≡ App f n args → n ≤ length args → inner ≡ passed_on form f n
    → formed form (meaning ns S at) ≡ app (get_or ns f []) (forms inner (terms_at (meanings ns S) (take n args)))
shown form inner ns S at f n args g fit l e m ei =
    ap (formed form) (meaning_build ns S fit at l ∙ ap (build ns (meanings ns S)) e)
    ∙ formed_app form ns g f n (terms_at (meanings ns S) (take n args))
    (count_terms_at (meanings ns S) (take n args) ∙ length-take-le n args m)
    ∙ ap (λ k. app (get_or ns f []) (forms k (terms_at (meanings ns S) (take n args)))) (sym ei)

narrowed : (form inner : Form) (ns : List (List ℕ)) (f n : ℕ) → inner ≡ passed_on form f n → Reads form ns
    → Reads inner ns
narrowed form inner ns f n e reads = subst (λ k. Reads k ns) (sym e) (reads_passed form ns f n reads)

-- one of the arguments does not fit
pub laid_short : (form inner : Form) (limit : ℕ) (S B T A : List Node) (at f n : ℕ) (args places : List ℕ) (k i : ℕ)
    → fitting_from 0 S ≡ true → at < length S → get_or S at no_node ≡ App f n args → n ≤ length args
    → inner ≡ passed_on form f n → k < n → i ≡ get_or (take n args) k 0
    → Part inner S B T (take n args) places k → Laid (Reads inner) (λ ns. formed inner (meaning ns S i)) limit T A None
    → Laid (Reads form) (λ ns. formed form (meaning ns S at)) limit B A None
laid_short form inner limit S B T A at f n args places k i fit l e m ei lk ek front none =
    (front_front B T A part.front none.0, short)
  where
    part : Part inner S B T args places k
    part = part_of_front inner S B T args places n k (omega arith) front

    short : NoRoom (Reads form) (λ ns. formed form (meaning ns S at)) limit B
    short ns g =
        let h = narrowed form inner ns f n ei g in
        let a = part.grown ns h in
        let b = none.1 ns h in
        let s = sizes_more inner (meanings ns S) args k (omega arith) in
        let d = ap (λ j. size (formed inner (meaning ns S j))) (ek ∙ get_or-take n args k 0 lk) in
        let t = sizes_take inner (meanings ns S) (k + 1) n args (omega arith) in
        let w = ap size (shown form inner ns S at f n args g fit l e m ei) in
        omega arith

-- all arguments stand, and then the node
pub laid_app : (form inner : Form) (limit : ℕ) (S B T A : List Node) (at f n : ℕ) (args places : List ℕ) (k : ℕ)
    (r : Option ℕ)
    → fitting_from 0 S ≡ true → at < length S → get_or S at no_node ≡ App f n args → n ≤ length args → n ≤ 8
    → inner ≡ passed_on form f n → k ≡ n
    → Part inner S B T (take n args) places k → r ≡ place_for limit T (App f n places) → A ≡ with_node limit T (App f n places)
    → Laid (Reads form) (λ ns. formed form (meaning ns S at)) limit B A r
laid_app form inner limit S B T A at f n args places k r fit l e m m8 ei ek front er ea =
    laid_push (Reads form) (λ ns. formed form (meaning ns S at)) limit B T A (App f n places) r part.front
    (and_from (leb n 8) (all_below (length T) (take n places)) (le-leb n 8 m8) below) grown means er ea
  where
    part : Part inner S B T args places k
    part = part_of_front inner S B T args places n k (omega arith) front

    below : all_below (length T) (take n places) ≡ true
    below = ap (λ j. all_below (length T) (take j places)) (sym ek) ∙ part.below

    grown : (ns : List (List ℕ)) → Reads form ns → length T + 1 ≡ length B + size (formed form (meaning ns S at))
    grown ns g =
        let a = part.grown ns (narrowed form inner ns f n ei g) in
        let w = ap size (shown form inner ns S at f n args g fit l e m ei) in
        let d = ap (λ j. sizes (forms inner (terms_at (meanings ns S) (take j args)))) ek in
        omega arith

    means : (ns : List (List ℕ)) → Reads form ns
        → build ns (meanings ns T) (App f n places) ≡ formed form (meaning ns S at)
    means ns g =
        let all : terms_at (meanings ns T) (take n places) ≡ forms inner (terms_at (meanings ns S) (take n args))
        = ap (λ j. terms_at (meanings ns T) (take j places)) (sym ek)
        ∙ part.means ns (narrowed form inner ns f n ei g)
        ∙ ap (λ j. forms inner (terms_at (meanings ns S) (take j args))) ek in
        ap (app (get_or ns f [])) all ∙ sym (shown form inner ns S at f n args g fit l e m ei)
