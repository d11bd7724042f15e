-- The rings of all indicators: what an added rule and an erased one leave of them.
use Rattle.std.proofs.Common.{◌≡◌, ℕ, ◌+◌, ◌<◌, true, false, eqb, ltb, leb, List, [], ◌∷◌, ◌++◌, length, get_or}
use Rattle.std.proofs.Common.{Some, None, Option, is_some, sym, refl, ap, ◌∙◌, subst, inl, inr, arith}
use Rattle.std.proofs.lemmas.Bool.{ltb-true, leb-true, eqb-true, eq-eqb, and_parts, and_from, both_ways}
use Rattle.std.proofs.lemmas.Bool.{cases_Bool, cond-true, cond-false}
use Rattle.rules.specs.declared.indicator.Indicator.{Indicator}
use Rattle.rules.specs.Indicators.{fits, is_one}
use Rattle.rules.specs.Meaning.{End, Value, is_of, front, back, placed, next_in, holds}
use Rattle.rules.specs.Tables.{Kept, noted}
use Rattle.chainstore.specs.declared.side.Side.{Side}
use Rattle.chainstore.specs.declared.rings.Link.{Link}
use Rattle.chainstore.specs.Rings.{Cells, head_of, cell_of, is_in, backward, after_at, before_at, end_of, Inserted}
use Rattle.chainstore.specs.Rings.{InsertedAt, Bridged, Alone}
use Rattle.chainstore.specs.Rows.{row_of, live_at}
use Rattle.chainstore.specs.Linked.{Ring, Linked}
use Rattle.rules.proofs.MeaningProperties.{without_absent}
use Rattle.chainstore.proofs.NextProperties.{is_in_reverse, is_in_next, is_in_backward}
use Rattle.chainstore.proofs.RowsProperties.{row_of_push, row_of_erased, distinct_row_of, holds_row_of}
use Rattle.chainstore.proofs.RowsProperties.{live_at_entry}
use Rattle.chainstore.proofs.RowsProperties.{live_at_past, live_at_less, live_at_one}
use Rattle.chainstore.proofs.LinksProperties.{ring_added, ring_erased, ring_kept}

abbrev pub head : Indicator → ℕ
head i = head_of i.name i.arity

abbrev pub row : List (Kept (Option Side)) → Indicator → List ℕ
row es i = row_of es i.name i.arity

pub head_less : (i : Indicator) → head i < 4608
head_less i =
    let two = and_parts (ltb i.name 512) (leb i.arity 8) i.small in
    let f = ltb-true i.name 512 two.0 in
    let a = leb-true i.arity 8 two.1 in
    omega arith

pub head_same : (i j : Indicator) → head i ≡ head j → is_one i.name i.arity j.name j.arity ≡ true
head_same i j e =
    let p = leb-true i.arity 8 (and_parts (ltb i.name 512) (leb i.arity 8) i.small).1 in
    let q = leb-true j.arity 8 (and_parts (ltb j.name 512) (leb j.arity 8) j.small).1 in
    let f : i.name ≡ j.name = omega arith in
    let a : i.arity ≡ j.arity = omega arith in
    and_from (eqb i.name j.name) (eqb i.arity j.arity) (eq-eqb i.name j.name f)
    (eq-eqb i.arity j.arity a)

-- two rings have no cell in common
pub cells_apart : (es : List (Kept (Option Side))) (i j : Indicator) (o p : Option ℕ) → is_in o (row es i) ≡ true
    → is_in p (row es j) ≡ true
    → cell_of (head i) o ≡ cell_of (head j) p → is_one i.name i.arity j.name j.arity ≡ true
cells_apart es i j None None s t e = head_same i j e
cells_apart es i j None (Some y) s t e = let h = head_less i in absurd (omega arith)
cells_apart es i j (Some x) None s t e = let h = head_less j in absurd (omega arith)
cells_apart es i j (Some x) (Some y) s t e =
    let same : x ≡ y = omega arith in
    live_at_one es x i.name i.arity j.name j.arity (sym (holds_row_of es i.name i.arity x) ∙ s)
    (ap (λ n. live_at es n j.name j.arity) same ∙ sym (holds_row_of es j.name j.arity y) ∙ t)

pub cell_less : (es : List (Kept (Option Side))) (i : Indicator) (o : Option ℕ) → is_in o (row es i) ≡ true
    → cell_of (head i) o < 4608 + length es
cell_less es i None t = let h = head_less i in omega arith
cell_less es i (Some x) t =
    let l = live_at_less es x i.name i.arity (sym (holds_row_of es i.name i.arity x) ∙ t) in omega arith

-- a rule that was added at this end, and is in its row
abbrev pub live_on : Side → Value → Kept (Option Side)
live_on side v = record { rule = v; note = Some side }

-- the indicator of a rule
abbrev pub indicator_of : (v : Value) → fits v.name v.arity ≡ true → Indicator
indicator_of v s = record { name = v.name; arity = v.arity; small = s }

added_same : (es : List (Kept (Option Side))) (v : Value) (side : Side) (cs ds : Cells)
    → length cs.links ≡ 4608 + length es → Linked es cs.links → InsertedAt (end_of side) cs (head_of v.name v.arity) ds
    → (i : Indicator) → is_one v.name v.arity i.name i.arity ≡ true
    → Ring ds.links (head i) (row (es ++ live_on side v ∷ []) i)
added_same es v side cs ds long rings new i t =
    let two = and_parts (eqb v.name i.name) (eqb v.arity i.arity) t in
    let at : head_of v.name v.arity ≡ head i
    = ap (λ f. head_of f v.arity) (eqb-true v.name i.name two.0)
    ∙ ap (head_of i.name) (eqb-true v.arity i.arity two.1) in
    let is : row (es ++ live_on side v ∷ []) i ≡ placed (end_of side) (length es) (row es i)
    = row_of_push es (live_on side v) i.name i.arity
    ∙ cond-true (is_of v i.name i.arity) (placed (end_of side) (length es) (row es i)) (row es i) t in
    let out : holds (length es) (row es i) ≡ false
    = holds_row_of es i.name i.arity (length es)
    ∙ live_at_past es (length es) i.name i.arity (omega arith) in
    subst (λ r. Ring ds.links (head i) r) (sym is)
    (ring_added (end_of side) cs ds (head i) (length es) (row es i) (head_less i) long
    (distinct_row_of es i.name i.arity) out (rings i)
    (subst (λ h. InsertedAt (end_of side) cs h ds) at new))

apart_false : (es : List (Kept (Option Side))) (i j : Indicator) (o p : Option ℕ) (k : ℕ)
    → is_one j.name j.arity i.name i.arity ≡ false → is_in o (row es i) ≡ true → is_in p (row es j) ≡ true
    → k ≡ cell_of (head j) p → cell_of (head i) o ≡ k → ⊥
apart_false es i j o p k n s t is e =
    both_ways (is_one j.name j.arity i.name i.arity) n (cells_apart es j i p o t s (sym is ∙ sym e))

inserted_other : (es : List (Kept (Option Side))) (cs ds : Cells) (i j : Indicator) (p q : ℕ) (u v : Option ℕ)
    → length cs.links ≡ 4608 + length es → is_one j.name j.arity i.name i.arity ≡ false
    → is_in u (row es j) ≡ true → p ≡ cell_of (head j) u → is_in v (row es j) ≡ true → q ≡ cell_of (head j) v
    → Ring cs.links (head i) (row es i) → Inserted cs p q ds → Ring ds.links (head i) (row es i)
inserted_other es cs ds i j p q u v long n s x t y ring new =
    ring_kept cs.links ds.links (head i) (row es i) ring
    (λ o m. new.after_others (cell_of (head i) o) (apart_false es i j o u p n m s x)
    (λ e. let l = cell_less es i o m in omega arith))
    (λ o m. let m' = sym (is_in_reverse o (row es i)) ∙ m in
    new.before_others (cell_of (head i) o) (apart_false es i j o v q n m' t y)
    (λ e. let l = cell_less es i o m' in omega arith))

added_other : (z : End) (es : List (Kept (Option Side))) (cs ds : Cells) (j : Indicator)
    → length cs.links ≡ 4608 + length es → Linked es cs.links → InsertedAt z cs (head j) ds → (i : Indicator)
    → is_one j.name j.arity i.name i.arity ≡ false → Ring ds.links (head i) (row es i)
added_other front es cs ds j long rings new i n =
    inserted_other es cs ds i j (head j) (after_at cs.links (head j)) None (next_in (row es j) None) long n refl refl
    (is_in_next (row es j) None) ((rings j).after None refl) (rings i) new
added_other back es cs ds j long rings new i n =
    inserted_other es cs ds i j (before_at cs.links (head j)) (head j) (backward (row es j) None) None long n
    (is_in_backward (row es j) None) ((rings j).before None refl) refl refl (rings i) new

pub linked_added : (es : List (Kept (Option Side))) (v : Value) (side : Side) (cs ds : Cells)
    → fits v.name v.arity ≡ true → length cs.links ≡ 4608 + length es → Linked es cs.links
    → InsertedAt (end_of side) cs (head_of v.name v.arity) ds
    → Linked (es ++ live_on side v ∷ []) ds.links
linked_added es v side cs ds small long rings new i =
    elim (cases_Bool (is_one v.name v.arity i.name i.arity)) [
      | inl t ↦ added_same es v side cs ds long rings new i t
      | inr n ↦ subst (λ r. Ring ds.links (head i) r) (sym (same n))
          (added_other (end_of side) es cs ds (indicator_of v small) long rings new i n)
    ]
  where
    same : is_one v.name v.arity i.name i.arity ≡ false → row (es ++ live_on side v ∷ []) i ≡ row es i
    same n =
        row_of_push es (live_on side v) i.name i.arity
        ∙ cond-false (is_of v i.name i.arity) (placed (end_of side) (length es) (row es i)) (row es i) n

-- the label of a live rule is in the row of the rule's indicator
pub own_label : (es : List (Kept (Option Side))) (l : ℕ) (d : Kept (Option Side)) → l < length es → d ≡ get_or es l d
    → is_some d.note ≡ true → holds l (row_of es d.rule.name d.rule.arity) ≡ true
own_label es l d less is live =
    let f = d.rule.name in
    let a = d.rule.arity in
    holds_row_of es f a l ∙ live_at_entry es l f a d less is
    ∙ and_from (is_some d.note) (is_one f a f a) live (and_from (eqb f f) (eqb a a) (eq-eqb f f refl) (eq-eqb a a refl))

pub linked_erased : (es : List (Kept (Option Side))) (l : ℕ) (d : Kept (Option Side)) (cs ds : Cells) → l < length es
    → d ≡ get_or es l d → fits d.rule.name d.rule.arity ≡ true → is_some d.note ≡ true → Linked es cs.links
    → Bridged cs (before_at cs.links (4608 + l)) (after_at cs.links (4608 + l)) ds → Linked (noted es l None) ds.links
linked_erased es l d cs ds less is small live rings new i =
    subst (λ r. Ring ds.links (head i) r) (sym (row_of_erased es l i.name i.arity less))
    (elim (cases_Bool (holds l (row es i))) [
      | inl t ↦ ring_erased cs ds (head i) l (row es i) (head_less i) (distinct_row_of es i.name i.arity) t
          (rings i) new
      | inr o ↦ subst (λ r. Ring ds.links (head i) r) (sym (without_absent l (row es i) o)) (other o)
    ])
  where
    j : Indicator
    j = indicator_of d.rule small

    own : holds l (row es j) ≡ true
    own = own_label es l d less is live

    apart : holds l (row es i) ≡ false → is_one j.name j.arity i.name i.arity ≡ false
    apart n =
        elim (cases_Bool (is_one j.name j.arity i.name i.arity)) [
          | inl t ↦ absurd (both_ways (holds l (row es i)) n
              (holds_row_of es i.name i.arity l ∙ live_at_entry es l i.name i.arity d less is
              ∙ and_from (is_some d.note) (is_one j.name j.arity i.name i.arity) live t))
          | inr t ↦ t
        ]

    other : holds l (row es i) ≡ false → Ring ds.links (head i) (row es i)
    other n =
        ring_kept cs.links ds.links (head i) (row es i) (rings i)
        (λ o m. new.after_others (cell_of (head i) o)
        (apart_false es i j o (backward (row es j) (Some l)) (before_at cs.links (4608 + l)) (apart n) m
        (is_in_backward (row es j) (Some l))
        ((rings j).before (Some l) (is_in_reverse (Some l) (row es j) ∙ own))))
        (λ o m. new.before_others (cell_of (head i) o)
        (apart_false es i j o (next_in (row es j) (Some l)) (after_at cs.links (4608 + l)) (apart n)
        (sym (is_in_reverse o (row es i)) ∙ m) (is_in_next (row es j) (Some l)) ((rings j).after (Some l) own)))

-- with no entries each head is alone
pub linked_alone : (ls : List Link) → Alone 4608 ls → Linked [] ls
linked_alone ls alone i = record { after = after; before = before }
  where
    after : (o : Option ℕ) → is_in o [] ≡ true → after_at ls (cell_of (head i) o) ≡ cell_of (head i) (next_in [] o)
    after None t = alone.after (head i) (head_less i)
    after (Some x) t = absurd (both_ways false refl t)

    before : (o : Option ℕ) → is_in o [] ≡ true → before_at ls (cell_of (head i) o) ≡ cell_of (head i) (next_in [] o)
    before None t = alone.before (head i) (head_less i)
    before (Some x) t = absurd (both_ways false refl t)
