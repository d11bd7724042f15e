-- What a store means: it is lawful, and its flags and rings say what they should.
use Rattle.std.proofs.Common.{◌≡◌, ℕ, ◌+◌, ◌-◌, ◌<◌, Bool, true, false, ◌||◌, eqb, ltb, List, [], ◌∷◌, ◌++◌, length}
use Rattle.std.proofs.Common.{get_or, set, replicate, Some, None, Option, is_some, cond, sym, refl, ap, subst, ◌∙◌}
use Rattle.std.proofs.Common.{inl, inr, arith}
use Rattle.std.specs.List.{list_all}
use Rattle.std.specs.Option.{option_flatten}
use Rattle.std.proofs.lemmas.List.{get_or-set_same, get_or-set_other, get_or-replicate}
use Rattle.std.proofs.lemmas.Bool.{eqb-true, and_parts, or_left, cases_Bool, cases_eq, cond-true, cond-false, lt-ltb}
use Rattle.std.proofs.lemmas.Bool.{le-ltb}
use Rattle.rules.specs.declared.indicator.Indicator.{Indicator}
use Rattle.rules.specs.declared.rule.Rule.{Rule}
use Rattle.rules.specs.Indicators.{fits, is_one}
use Rattle.rules.specs.Meaning.{Value, Lawful, placed, is_of, ever_added, next_in}
use Rattle.rules.specs.Calls.{value_of}
use Rattle.rules.specs.Tables.{Kept, Table, rules_in, note_at, Entered}
use Rattle.rules.proofs.MeaningProperties.{ever_added_push}
use Rattle.rules.proofs.EntriesProperties.{length_rules}
use Rattle.rules.proofs.TablesProperties.{rules_push, Found, found}
use Rattle.chainstore.specs.declared.side.Side.{Side}
use Rattle.chainstore.specs.declared.chain.ChainStore.{ChainStore}
use Rattle.chainstore.specs.Rings.{Cells, head_of, cell_of, label_of, is_in, after_at, end_of, InsertedAt}
use Rattle.chainstore.specs.Linked.{Linked}
use Rattle.chainstore.specs.Rows.{row_of}
use Rattle.chainstore.specs.Views.{meaning_of, kept_of, links_of}
use Rattle.chainstore.proofs.RowsProperties.{distinct_row_of, holds_row_of, is_of_rule_live, row_of_push}
use Rattle.chainstore.proofs.LinkedProperties.{head, row, head_less, head_same, linked_added}

pub store_lawful : (s : ChainStore) → Lawful (meaning_of s)
store_lawful s =
    let n = length_rules s.table.kept in
    let few = s.within.few in
    record {
      once = λ f a. distinct_row_of s.table.kept f a;
      own = λ f a l h. is_of_rule_live s.table.kept l f a (sym (holds_row_of s.table.kept f a l) ∙ h);
      ever = λ f a. refl;
      few = omega arith;
      room = s.within.room;
    }

pub label_of_cell : (h : ℕ) (o : Option ℕ) → h < 4608 → label_of (cell_of h o) ≡ o
label_of_cell h None l = cond-true (ltb h 4608) None (Some (h - 4608)) (lt-ltb h 4608 l)
label_of_cell h (Some x) l =
    let e : (4608 + x) - 4608 ≡ x = omega arith in
    cond-false (ltb (4608 + x) 4608) None (Some ((4608 + x) - 4608)) (le-ltb (4608 + x) 4608 (omega arith))
    ∙ ap Some e

-- the rule with a label, if it is in its row
pub record Live (ks : List (Kept (Option Side))) (l : ℕ) : Type 0 where
  pub side : Side
  pub found : Found ks l (Some side)

pub live_found : (ks : List (Kept (Option Side))) (l : ℕ) → list_all (λ v. fits v.name v.arity) (rules_in ks) ≡ true
    → is_some (option_flatten (note_at ks l)) ≡ true → Live ks l
live_found ks l named live = by (note_at ks l) refl live
  where
    by : (n : Option (Option Side)) → note_at ks l ≡ n → is_some (option_flatten n) ≡ true → Live ks l
    by None is t = absurd (cc)
    by (Some None) is t = absurd (cc)
    by (Some (Some side)) is t = record { side = side; found = found ks l (Some side) named is }

abbrev pub Noted : List Bool → List Value → Type 0
Noted ks vs = (i : Indicator) → get_or ks (head i) false ≡ ever_added vs i.name i.arity

pub noted_added : (ks : List Bool) (vs : List Value) (j : Indicator) (v : Value) → v.name ≡ j.name
    → v.arity ≡ j.arity
    → length ks ≡ 4608 → Noted ks vs → Noted (set ks (head j) true) (vs ++ v ∷ [])
noted_added ks vs j v named many long noted i =
    elim (cases_eq (head i) (head j)) [ inl e ↦ here e | inr n ↦ there n ]
  where
    one : is_of v i.name i.arity ≡ is_one j.name j.arity i.name i.arity
    one =
        ap (λ f. is_one f v.arity i.name i.arity) named
        ∙ ap (λ a. is_one j.name a i.name i.arity) many

    here : head i ≡ head j
        → get_or (set ks (head j) true) (head i) false ≡ ever_added (vs ++ v ∷ []) i.name i.arity
    here e =
        let less = head_less j in
        ap (λ k. get_or (set ks (head j) true) k false) e ∙ get_or-set_same ks (head j) true false (omega arith)
        ∙ sym (ever_added_push vs v i.name i.arity
        ∙ or_left (is_of v i.name i.arity) (ever_added vs i.name i.arity) (one ∙ head_same j i (sym e)))

    apart : (head i ≡ head j → ⊥) → is_one j.name j.arity i.name i.arity ≡ false
    apart n =
        elim (cases_Bool (is_one j.name j.arity i.name i.arity)) [
          | inl t ↦ let two = and_parts (eqb j.name i.name) (eqb j.arity i.arity) t in
              absurd (n (ap (λ f. head_of f i.arity) (sym (eqb-true j.name i.name two.0))
              ∙ ap (head_of j.name) (sym (eqb-true j.arity i.arity two.1))))
          | inr t ↦ t
        ]

    there : (head i ≡ head j → ⊥)
        → get_or (set ks (head j) true) (head i) false ≡ ever_added (vs ++ v ∷ []) i.name i.arity
    there n =
        get_or-set_other ks (head j) (head i) true false n ∙ noted i
        ∙ sym (ever_added_push vs v i.name i.arity
        ∙ ap (λ b. b || ever_added vs i.name i.arity) (one ∙ apart n))

-- no flag stands with no rules
pub noted_fresh : Noted (replicate 4608 false) []
noted_fresh i = get_or-replicate 4608 (head i) false false (head_less i)

-- the label behind a cell of a ring is the next one of its row
pub next_label : (s : ChainStore) (i : Indicator) (o : Option ℕ) → is_in o (row (kept_of s) i) ≡ true
    → label_of (after_at (links_of s) (cell_of (head i) o)) ≡ next_in (row (kept_of s) i) o
next_label s i o t =
    ap label_of ((s.linked i).after o t) ∙ label_of_cell (head i) (next_in (row (kept_of s) i) o) (head_less i)

-- a store after a rule was added, and after one was taken out of its row: its facts hold again
module _ (s : ChainStore) (r : Rule) (side : Side) (l : ℕ) (u : Table (Option Side))
    (new : Entered s.table (value_of r) (Some side) l u) where
  pub rules_added : rules_in u.kept ≡ rules_in s.table.kept ++ value_of r ∷ []
  rules_added = ap rules_in new.kept ∙ rules_push s.table.kept _

  pub row_added : (f a : ℕ) → row_of u.kept f a
      ≡ cond (is_of (value_of r) f a) (placed (end_of side) l (row_of s.table.kept f a)) (row_of s.table.kept f a)
  row_added f a =
      ap (λ ks. row_of ks f a) new.kept ∙ row_of_push s.table.kept _ f a
      ∙ ap (λ n. cond (is_of (value_of r) f a) (placed (end_of side) n (row_of s.table.kept f a))
      (row_of s.table.kept f a))
      (sym new.label)

  pub known_added : (f a : ℕ) → ever_added (rules_in u.kept) f a
      ≡ (is_of (value_of r) f a || ever_added (rules_in s.table.kept) f a)
  known_added f a =
      ap (λ vs. ever_added vs f a) rules_added ∙ ever_added_push (rules_in s.table.kept) (value_of r) f a

  pub flags_added : (h : ℕ) → h ≡ head r.indicator → Noted (set s.known.items h true) (rules_in u.kept)
  flags_added h at i =
      ap (λ n. get_or (set s.known.items n true) (head i) false) at
      ∙ noted_added s.known.items (rules_in s.table.kept) r.indicator (value_of r) refl refl
      (sym s.known.ok.0 ∙ s.flags) s.noted i
      ∙ ap (λ vs. ever_added vs i.name i.arity) (sym rules_added)

  pub links_added : (h : ℕ) → h ≡ head r.indicator → (ds : Cells)
      → InsertedAt (end_of side) s.rings h ds → Linked u.kept ds.links
  links_added h at ds inserted =
      subst (λ ks. Linked ks ds.links) (sym new.kept)
      (linked_added s.table.kept (value_of r) side s.rings ds r.indicator.small s.cells s.linked
      (subst (λ n. InsertedAt (end_of side) s.rings n ds) at inserted))
