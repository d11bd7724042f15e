-- Rows of kept rules: one more rule, and a rule that leaves its row.
use Rattle.std.proofs.Common.{◌≡◌, ℕ, zero, suc, ◌+◌, ◌<◌, ◌≤◌, Bool, true, false, ◌&&◌, ◌||◌, eqb, List, [], ◌∷◌, ◌++◌}
use Rattle.std.proofs.Common.{length, get_or, Some, None, Option, is_some, cond, sym, refl, ap, ◌∙◌, inl, inr}
use Rattle.std.proofs.Common.{add-zero, add-suc, suc-add, zero-add, arith}
use Rattle.std.specs.Option.{option_flatten}
use Rattle.std.proofs.lemmas.Bool.{eqb-true, eq-eqb, ne_eqb, and_parts, and_from, or_left, or_cases}
use Rattle.std.proofs.lemmas.Bool.{both_ways, cases_Bool, cond_both}
use Rattle.rules.specs.Indicators.{is_one}
use Rattle.rules.specs.Meaning.{End, is_of, placed, holds, distinct, without, rule_at, is_of_rule}
use Rattle.rules.specs.Tables.{Kept, rules_in, note_at, noted}
use Rattle.chainstore.specs.declared.side.Side.{Side}
use Rattle.chainstore.specs.Rings.{end_of}
use Rattle.chainstore.specs.Rows.{is_live_of, placed_at, step_of, row_from, row_of, live_at}
use Rattle.rules.proofs.MeaningProperties.{without_absent}
use Rattle.rules.proofs.LawsProperties.{holds_placed, distinct_placed}
use Rattle.chainstore.proofs.NextProperties.{without_placed_other}
use Rattle.chainstore.proofs.NextProperties.{without_placed_same}

row_from_push : (f a l : ℕ) (xs : List ℕ) (es : List (Kept (Option Side))) (e : Kept (Option Side))
    → row_from f a l xs (es ++ e ∷ []) ≡ step_of f a (l + length es) e (row_from f a l xs es)
row_from_push f a l xs [] e = ap (λ n. step_of f a n e xs) (sym (add-zero l))
row_from_push f a l xs (d ∷ es) e =
    row_from_push f a (suc l) (step_of f a l d xs) es e
    ∙ ap (λ n. step_of f a n e (row_from f a (suc l) (step_of f a l d xs) es))
    (suc-add l (length es) ∙ sym (add-suc l (length es)))

-- one more entry takes one step
pub row_of_push : (es : List (Kept (Option Side))) (e : Kept (Option Side)) (f a : ℕ)
    → row_of (es ++ e ∷ []) f a ≡ step_of f a (length es) e (row_of es f a)
row_of_push es e f a =
    row_from_push f a 0 [] es e ∙ ap (λ n. step_of f a n e (row_of es f a)) (zero-add (length es))

abbrev pub Below : ℕ → List ℕ → Type 0
Below n xs = (x : ℕ) → holds x xs ≡ true → x < n

below_placed : (e : End) (l : ℕ) (xs : List ℕ) → Below l xs → Below (suc l) (placed e l xs)
below_placed e l xs below x h =
    elim (or_cases (eqb l x) (holds x xs) (sym (holds_placed e x l xs) ∙ h)) [
      | inl t ↦ let s = eqb-true l x t in omega arith
      | inr t ↦ let s = below x t in omega arith
    ]

below_more : (l : ℕ) (xs : List ℕ) → Below l xs → Below (suc l) xs
below_more l xs below x h = let s = below x h in omega arith

below_placed_at : (side : Option Side) (l : ℕ) (xs : List ℕ) → Below l xs → Below (suc l) (placed_at side l xs)
below_placed_at None l xs below = below_more l xs below
below_placed_at (Some side) l xs below = below_placed (end_of side) l xs below

below_step : (f a l : ℕ) (e : Kept (Option Side)) (xs : List ℕ) → Below l xs → Below (suc l) (step_of f a l e xs)
below_step f a l e xs below =
    cond_both (is_of e.rule f a) (placed_at e.note l xs) xs (Below (suc l))
    (λ t. below_placed_at e.note l xs below) (λ t. below_more l xs below)

pub not_below : (l : ℕ) (xs : List ℕ) → Below l xs → (x : ℕ) → l ≤ x → holds x xs ≡ false
not_below l xs below x past =
    elim (cases_Bool (holds x xs)) [ inl t ↦ let s = below x t in absurd (omega arith) | inr t ↦ t ]

distinct_placed_at : (side : Option Side) (l : ℕ) (xs : List ℕ) → distinct xs ≡ true → Below l xs
    → distinct (placed_at side l xs) ≡ true
distinct_placed_at None l xs once below = once
distinct_placed_at (Some side) l xs once below =
    distinct_placed (end_of side) l xs once (not_below l xs below l (omega arith))

distinct_step : (f a l : ℕ) (e : Kept (Option Side)) (xs : List ℕ) → distinct xs ≡ true → Below l xs
    → distinct (step_of f a l e xs) ≡ true
distinct_step f a l e xs once below =
    cond_both (is_of e.rule f a) (placed_at e.note l xs) xs (λ ys. distinct ys ≡ true)
    (λ t. distinct_placed_at e.note l xs once below) (λ t. once)

distinct_row_from : (f a l : ℕ) (xs : List ℕ) (es : List (Kept (Option Side))) → distinct xs ≡ true → Below l xs
    → distinct (row_from f a l xs es) ≡ true
distinct_row_from f a l xs [] once below = once
distinct_row_from f a l xs (e ∷ es) once below =
    distinct_row_from f a (suc l) (step_of f a l e xs) es (distinct_step f a l e xs once below)
    (below_step f a l e xs below)

below_nothing : Below 0 []
below_nothing x h = absurd (both_ways false refl h)

pub distinct_row_of : (es : List (Kept (Option Side))) (f a : ℕ) → distinct (row_of es f a) ≡ true
distinct_row_of es f a = distinct_row_from f a 0 [] es refl below_nothing

holds_placed_at : (side : Option Side) (x l : ℕ) (xs : List ℕ) → (l ≡ x → ⊥)
    → holds x (placed_at side l xs) ≡ holds x xs
holds_placed_at None x l xs n = refl
holds_placed_at (Some side) x l xs n =
    holds_placed (end_of side) x l xs ∙ ap (λ b. b || holds x xs) (ne_eqb l x n)

holds_step : (f a l : ℕ) (e : Kept (Option Side)) (xs : List ℕ) (x : ℕ) → (l ≡ x → ⊥)
    → holds x (step_of f a l e xs) ≡ holds x xs
holds_step f a l e xs x n =
    cond_both (is_of e.rule f a) (placed_at e.note l xs) xs (λ ys. holds x ys ≡ holds x xs)
    (λ t. holds_placed_at e.note x l xs n) (λ t. refl)

holds_old : (f a l : ℕ) (xs : List ℕ) (es : List (Kept (Option Side))) (x : ℕ) → x < l
    → holds x (row_from f a l xs es) ≡ holds x xs
holds_old f a l xs [] x less = refl
holds_old f a l xs (e ∷ es) x less =
    holds_old f a (suc l) (step_of f a l e xs) es x (omega arith) ∙ holds_step f a l e xs x (λ s. omega arith)

holds_placed_own : (side : Option Side) (own : Bool) (l : ℕ) (xs : List ℕ) → Below l xs
    → holds l (cond own (placed_at side l xs) xs) ≡ (is_some side && own)
holds_placed_own None true l xs below = not_below l xs below l (omega arith)
holds_placed_own None false l xs below = not_below l xs below l (omega arith)
holds_placed_own (Some side) true l xs below =
    holds_placed (end_of side) l l xs ∙ or_left (eqb l l) (holds l xs) (eq-eqb l l refl)
holds_placed_own (Some side) false l xs below = not_below l xs below l (omega arith)

holds_own : (f a l : ℕ) (e : Kept (Option Side)) (xs : List ℕ) → Below l xs
    → holds l (step_of f a l e xs) ≡ is_live_of e f a
holds_own f a l e xs below = holds_placed_own e.note (is_of e.rule f a) l xs below

holds_row_from : (f a l : ℕ) (xs : List ℕ) (es : List (Kept (Option Side))) (k : ℕ) → Below l xs
    → holds (l + k) (row_from f a l xs es) ≡ live_at es k f a
holds_row_from f a l xs [] k below = not_below l xs below (l + k) (omega arith)
holds_row_from f a l xs (e ∷ es) zero below =
    ap (λ n. holds n (row_from f a (suc l) (step_of f a l e xs) es)) (add-zero l)
    ∙ holds_old f a (suc l) (step_of f a l e xs) es l (omega arith) ∙ holds_own f a l e xs below
holds_row_from f a l xs (e ∷ es) (suc k) below =
    ap (λ n. holds n (row_from f a (suc l) (step_of f a l e xs) es)) (add-suc l k ∙ sym (suc-add l k))
    ∙ holds_row_from f a (suc l) (step_of f a l e xs) es k (below_step f a l e xs below)

-- a row holds the labels of its live entries
pub holds_row_of : (es : List (Kept (Option Side))) (f a l : ℕ) → holds l (row_of es f a) ≡ live_at es l f a
holds_row_of es f a l =
    ap (λ n. holds n (row_of es f a)) (sym (zero-add l)) ∙ holds_row_from f a 0 [] es l below_nothing

pub live_at_entry : (es : List (Kept (Option Side))) (l f a : ℕ) (e : Kept (Option Side)) → l < length es
    → e ≡ get_or es l e → live_at es l f a ≡ is_live_of e f a
live_at_entry [] l f a e less is = absurd (omega arith)
live_at_entry (d ∷ es) zero f a e less is = ap (λ x. is_live_of x f a) (sym is)
live_at_entry (d ∷ es) (suc l) f a e less is = live_at_entry es l f a e (omega arith) is

pub live_at_past : (es : List (Kept (Option Side))) (l f a : ℕ) → length es ≤ l → live_at es l f a ≡ false
live_at_past [] l f a past = refl
live_at_past (e ∷ es) zero f a past = absurd (omega arith)
live_at_past (e ∷ es) (suc l) f a past = live_at_past es l f a (omega arith)

pub live_at_less : (es : List (Kept (Option Side))) (l f a : ℕ) → live_at es l f a ≡ true → l < length es
live_at_less [] l f a t = absurd (both_ways false refl t)
live_at_less (e ∷ es) zero f a t = omega arith
live_at_less (e ∷ es) (suc l) f a t = let s = live_at_less es l f a t in omega arith

is_one_same : (f a g b h c : ℕ) → is_one f a g b ≡ true → is_one f a h c ≡ true → is_one g b h c ≡ true
is_one_same f a g b h c t u =
    let s = and_parts (eqb f g) (eqb a b) t in
    let v = and_parts (eqb f h) (eqb a c) u in
    and_from (eqb g h) (eqb b c)
    (eq-eqb g h (sym (eqb-true f g s.0) ∙ eqb-true f h v.0))
    (eq-eqb b c (sym (eqb-true a b s.1) ∙ eqb-true a c v.1))

-- a label is live for one indicator
pub live_at_one : (es : List (Kept (Option Side))) (l f a g b : ℕ) → live_at es l f a ≡ true → live_at es l g b ≡ true
    → is_one f a g b ≡ true
live_at_one [] l f a g b t u = absurd (both_ways false refl t)
live_at_one (e ∷ es) zero f a g b t u =
    is_one_same e.rule.name e.rule.arity f a g b
    (and_parts (is_some e.note) (is_one e.rule.name e.rule.arity f a) t).1
    (and_parts (is_some e.note) (is_one e.rule.name e.rule.arity g b) u).1
live_at_one (e ∷ es) (suc l) f a g b t u = live_at_one es l f a g b t u

without_placed_at : (side : Option Side) (own : Bool) (x l : ℕ) (xs : List ℕ) → (l ≡ x → ⊥)
    → cond own (placed_at side l (without x xs)) (without x xs) ≡ without x (cond own (placed_at side l xs) xs)
without_placed_at None true x l xs n = refl
without_placed_at None false x l xs n = refl
without_placed_at (Some side) true x l xs n = without_placed_other (end_of side) x l xs n
without_placed_at (Some side) false x l xs n = refl

without_step : (f a l : ℕ) (e : Kept (Option Side)) (x : ℕ) (xs : List ℕ) → (l ≡ x → ⊥)
    → step_of f a l e (without x xs) ≡ without x (step_of f a l e xs)
without_step f a l e x xs n = without_placed_at e.note (is_of e.rule f a) x l xs n

without_row_from : (f a l : ℕ) (xs : List ℕ) (es : List (Kept (Option Side))) (x : ℕ) → x < l
    → row_from f a l (without x xs) es ≡ without x (row_from f a l xs es)
without_row_from f a l xs [] x less = refl
without_row_from f a l xs (e ∷ es) x less =
    ap (λ ys. row_from f a (suc l) ys es) (without_step f a l e x xs (λ s. omega arith))
    ∙ without_row_from f a (suc l) (step_of f a l e xs) es x (omega arith)

without_placed_own : (side : Option Side) (l : ℕ) (xs : List ℕ) → holds l xs ≡ false
    → without l (placed_at side l xs) ≡ xs
without_placed_own None l xs out = without_absent l xs out
without_placed_own (Some side) l xs out = without_placed_same (end_of side) l xs out

without_own : (f a l : ℕ) (e : Kept (Option Side)) (xs : List ℕ) → Below l xs → without l (step_of f a l e xs) ≡ xs
without_own f a l e xs below =
    let out = not_below l xs below l (omega arith) in
    cond_both (is_of e.rule f a) (placed_at e.note l xs) xs (λ ys. without l ys ≡ xs)
    (λ t. without_placed_own e.note l xs out) (λ t. without_absent l xs out)

row_from_erased : (f a l : ℕ) (xs : List ℕ) (es : List (Kept (Option Side))) (k : ℕ) → k < length es → Below l xs
    → row_from f a l xs (noted es k None) ≡ without (l + k) (row_from f a l xs es)
row_from_erased f a l xs [] k less below = absurd (omega arith)
row_from_erased f a l xs (d ∷ es) zero less below =
    ap (λ ys. row_from f a (suc l) ys es)
    (cond_both (is_of d.rule f a) xs xs (λ ys. ys ≡ xs) (λ t. refl) (λ t. refl) ∙ sym (without_own f a l d xs below))
    ∙ without_row_from f a (suc l) (step_of f a l d xs) es l (omega arith)
    ∙ ap (λ m. without m (row_from f a (suc l) (step_of f a l d xs) es)) (sym (add-zero l))
row_from_erased f a l xs (d ∷ es) (suc k) less below =
    row_from_erased f a (suc l) (step_of f a l d xs) es k (omega arith) (below_step f a l d xs below)
    ∙ ap (λ m. without m (row_from f a (suc l) (step_of f a l d xs) es)) (suc-add l k ∙ sym (add-suc l k))

-- a rule that is no longer live leaves its row
pub row_of_erased : (es : List (Kept (Option Side))) (l : ℕ) (f a : ℕ) → l < length es
    → row_of (noted es l None) f a ≡ without l (row_of es f a)
row_of_erased es l f a less =
    row_from_erased f a 0 [] es l less below_nothing ∙ ap (λ m. without m (row_of es f a)) (zero-add l)

pub is_of_rule_live : (es : List (Kept (Option Side))) (l f a : ℕ) → live_at es l f a ≡ true
    → is_of_rule (rule_at (rules_in es) l) f a ≡ true
is_of_rule_live [] l f a t = absurd (both_ways false refl t)
is_of_rule_live (e ∷ es) zero f a t = (and_parts (is_some e.note) (is_one e.rule.name e.rule.arity f a) t).1
is_of_rule_live (e ∷ es) (suc l) f a t = is_of_rule_live es l f a t

and_true : (p q : Bool) → q ≡ true → (p && q) ≡ p
and_true true q e = e
and_true false q e = refl

-- whether the rule with a label stands in the row of its indicator, and in no other
pub in_own_row : (es : List (Kept (Option Side))) (l f a : ℕ) → is_of_rule (rule_at (rules_in es) l) f a ≡ true
    → holds l (row_of es f a) ≡ is_some (option_flatten (note_at es l))
in_own_row es l f a o = holds_row_of es f a l ∙ live es l o
  where
    live : (ks : List (Kept (Option Side))) (k : ℕ) → is_of_rule (rule_at (rules_in ks) k) f a ≡ true
        → live_at ks k f a ≡ is_some (option_flatten (note_at ks k))
    live [] k p = absurd (cc)
    live (d ∷ ks) zero p = and_true (is_some d.note) (is_one d.rule.name d.rule.arity f a) p
    live (d ∷ ks) (suc k) p = live ks k p

pub in_no_other : (es : List (Kept (Option Side))) (l f a : ℕ) → is_of_rule (rule_at (rules_in es) l) f a ≡ false
    → holds l (row_of es f a) ≡ false
in_no_other es l f a o =
    elim (cases_Bool (holds l (row_of es f a))) [
      | inl t ↦ absurd (both_ways (is_of_rule (rule_at (rules_in es) l) f a) o
          (is_of_rule_live es l f a (sym (holds_row_of es f a l) ∙ t)))
      | inr t ↦ t
    ]

-- a label of which no rule is live may be left out of each row
pub without_dead : (es : List (Kept (Option Side))) (l f a : ℕ) → is_some (option_flatten (note_at es l)) ≡ false
    → row_of es f a ≡ without l (row_of es f a)
without_dead es l f a dead =
    sym (without_absent l (row_of es f a) (elim (cases_Bool (is_of_rule (rule_at (rules_in es) l) f a)) [
      | inl t ↦ in_own_row es l f a t ∙ dead
      | inr o ↦ in_no_other es l f a o
    ]))
