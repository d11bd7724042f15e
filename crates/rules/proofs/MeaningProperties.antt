-- Rows of labels and lists of rules: what adding, taking out and looking up do to them.
use Rattle.std.proofs.Common.{◌≡◌, ℕ, zero, suc, ◌+◌, ◌<◌, ◌≤◌, Bool, true, false, cond, not, ◌||◌, eqb, List, [], ◌∷◌}
use Rattle.std.proofs.Common.{◌++◌, length, get_or, drop, Some, None, Option, sym, refl, ap, ◌∙◌, inl, inr, arith}
use Rattle.std.proofs.lemmas.Bool.{cases_Bool, and_parts, and_from, or_from, or_parts, or_left, or_right, or_cases}
use Rattle.std.proofs.lemmas.Bool.{eqb-true, eq-eqb, ne_eqb, not-true, both_ways}
use Rattle.rules.specs.Meaning.{Value, is_of, used, rule_at, first_of, behind, next_in, without, holds, distinct}
use Rattle.rules.specs.Meaning.{is_of_rule, ever_added}

pub rule_at_front : (vs ws : List Value) (l : ℕ) → l < length vs → rule_at (vs ++ ws) l ≡ rule_at vs l
rule_at_front [] ws l h = absurd (omega arith)
rule_at_front (v ∷ vs) ws zero h = refl
rule_at_front (v ∷ vs) ws (suc l) h = rule_at_front vs ws l (omega arith)

pub rule_at_new : (vs : List Value) (v : Value) → rule_at (vs ++ v ∷ []) (length vs) ≡ Some v
rule_at_new [] v = refl
rule_at_new (x ∷ vs) v = rule_at_new vs v

pub rule_at_past : (vs : List Value) (l : ℕ) → length vs ≤ l → rule_at vs l ≡ None
rule_at_past [] l h = refl
rule_at_past (v ∷ vs) zero h = absurd (omega arith)
rule_at_past (v ∷ vs) (suc l) h = rule_at_past vs l (omega arith)

-- a rule that is there stays there
pub rule_at_kept : (vs : List Value) (v w : Value) (l : ℕ) → rule_at vs l ≡ Some w → rule_at (vs ++ v ∷ []) l ≡ Some w
rule_at_kept [] v w l e = let z : ◌≡◌ {A = ℕ} 0 1 = cc in absurd (omega arith)
rule_at_kept (x ∷ vs) v w zero e = e
rule_at_kept (x ∷ vs) v w (suc l) e = rule_at_kept vs v w l e

pub is_of_rule_kept : (vs : List Value) (v : Value) (l f a : ℕ) → is_of_rule (rule_at vs l) f a ≡ true
    → is_of_rule (rule_at (vs ++ v ∷ []) l) f a ≡ true
is_of_rule_kept [] v l f a e = absurd (both_ways false refl e)
is_of_rule_kept (x ∷ vs) v zero f a e = e
is_of_rule_kept (x ∷ vs) v (suc l) f a e = is_of_rule_kept vs v l f a e

pub is_of_rule_below : (vs : List Value) (l f a : ℕ) → is_of_rule (rule_at vs l) f a ≡ true → l < length vs
is_of_rule_below [] l f a e = absurd (both_ways false refl e)
is_of_rule_below (x ∷ vs) zero f a e = omega arith
is_of_rule_below (x ∷ vs) (suc l) f a e = let h = is_of_rule_below vs l f a e in omega arith

or_swap : (x y z : Bool) → (x || (y || z)) ≡ (y || (x || z))
or_swap true true z = refl
or_swap true false z = refl
or_swap false y z = refl

pub ever_added_push : (vs : List Value) (v : Value) (f a : ℕ)
    → ever_added (vs ++ v ∷ []) f a ≡ (is_of v f a || ever_added vs f a)
ever_added_push [] v f a = refl
ever_added_push (x ∷ vs) v f a =
    ap (λ b. is_of x f a || b) (ever_added_push vs v f a) ∙ or_swap (is_of x f a) (is_of v f a) (ever_added vs f a)

pub used_push : (vs : List Value) (v : Value) → used (vs ++ v ∷ []) ≡ used vs + length v.nodes
used_push [] v = omega arith
used_push (x ∷ vs) v = let h = used_push vs v in omega arith

pub holds_push : (m l : ℕ) (xs : List ℕ) → holds m (xs ++ l ∷ []) ≡ (eqb l m || holds m xs)
holds_push m l [] = refl
holds_push m l (x ∷ xs) =
    ap (λ b. eqb x m || b) (holds_push m l xs) ∙ or_swap (eqb x m) (eqb l m) (holds m xs)

-- a label that is not there can stand at the end
pub distinct_push : (l : ℕ) (xs : List ℕ) → distinct xs ≡ true → holds l xs ≡ false → distinct (xs ++ l ∷ []) ≡ true
distinct_push l [] d h = refl
distinct_push l (x ∷ xs) d h =
    let two = and_parts (not (holds x xs)) (distinct xs) d in
    let none = or_parts (eqb x l) (holds l xs) h in
    let apart : eqb l x ≡ false = ne_eqb l x (λ e. both_ways (eqb x l) none.0 (eq-eqb x l (sym e))) in
    let out : holds x (xs ++ l ∷ []) ≡ false
    = holds_push x l xs ∙ or_from (eqb l x) (holds x xs) apart (not-true (holds x xs) two.0) in
    and_from (not (holds x (xs ++ l ∷ []))) (distinct (xs ++ l ∷ [])) (ap not out) (distinct_push l xs two.1 none.1)

-- taken out, a label is no more there
pub holds_without : (l : ℕ) (xs : List ℕ) → distinct xs ≡ true → holds l (without l xs) ≡ false
holds_without l [] d = refl
holds_without l (x ∷ xs) d =
    let two = and_parts (not (holds x xs)) (distinct xs) d in
    elim (cases_Bool (eqb x l)) [
      | inl e ↦ ap (λ b. holds l (cond b xs (x ∷ without l xs))) e
          ∙ ap (λ m. holds m xs) (sym (eqb-true x l e))
          ∙ not-true (holds x xs) two.0
      | inr e ↦ ap (λ b. holds l (cond b xs (x ∷ without l xs))) e
          ∙ or_from (eqb x l) (holds l (without l xs)) e (holds_without l xs two.1)
    ]

-- nothing comes in when a label is taken out
pub holds_before : (l m : ℕ) (xs : List ℕ) → holds m (without l xs) ≡ true → holds m xs ≡ true
holds_before l m [] h = h
holds_before l m (x ∷ xs) h =
    elim (cases_Bool (eqb x l)) [
      | inl e ↦ or_right (eqb x m) (holds m xs) (sym (ap (λ b. holds m (cond b xs (x ∷ without l xs))) e) ∙ h)
      | inr e ↦ elim (or_cases (eqb x m) (holds m (without l xs))
          (sym (ap (λ b. holds m (cond b xs (x ∷ without l xs))) e) ∙ h)) [
            | inl here ↦ or_left (eqb x m) (holds m xs) here
            | inr later ↦ or_right (eqb x m) (holds m xs) (holds_before l m xs later)
          ]
    ]

holds_none : (l m : ℕ) (xs : List ℕ) → holds m xs ≡ false → holds m (without l xs) ≡ false
holds_none l m xs h =
    elim (cases_Bool (holds m (without l xs))) [
      | inl e ↦ absurd (both_ways (holds m xs) h (holds_before l m xs e))
      | inr e ↦ e
    ]

pub distinct_without : (l : ℕ) (xs : List ℕ) → distinct xs ≡ true → distinct (without l xs) ≡ true
distinct_without l [] d = d
distinct_without l (x ∷ xs) d =
    let two = and_parts (not (holds x xs)) (distinct xs) d in
    elim (cases_Bool (eqb x l)) [
      | inl e ↦ ap (λ b. distinct (cond b xs (x ∷ without l xs))) e ∙ two.1
      | inr e ↦ ap (λ b. distinct (cond b xs (x ∷ without l xs))) e
          ∙ and_from (not (holds x (without l xs))) (distinct (without l xs))
          (ap not (holds_none l x xs (not-true (holds x xs) two.0))) (distinct_without l xs two.1)
    ]

-- a label that is not there
pub without_absent : (l : ℕ) (xs : List ℕ) → holds l xs ≡ false → without l xs ≡ xs
without_absent l [] h = refl
without_absent l (x ∷ xs) h =
    let none = or_parts (eqb x l) (holds l xs) h in
    ap (λ t. cond t xs (x ∷ without l xs)) none.0 ∙ ap (λ ys. x ∷ ys) (without_absent l xs none.1)

pub behind_absent : (l : ℕ) (xs : List ℕ) → holds l xs ≡ false → behind l xs ≡ None
behind_absent l [] h = refl
behind_absent l (x ∷ xs) h =
    let none = or_parts (eqb x l) (holds l xs) h in
    ap (λ t. cond t (first_of xs) (behind l xs)) none.0 ∙ behind_absent l xs none.1

pub holds_at : (xs : List ℕ) (n : ℕ) → n < length xs → holds (get_or xs n 0) xs ≡ true
holds_at [] n h = absurd (omega arith)
holds_at (x ∷ xs) zero h = or_left (eqb x x) (holds x xs) (eq-eqb x x refl)
holds_at (x ∷ xs) (suc n) h = or_right (eqb x (get_or xs n 0)) (holds (get_or xs n 0) xs) (holds_at xs n (omega arith))

-- behind the label at a place stands the one at the next place
pub behind_at : (xs : List ℕ) (n : ℕ) → distinct xs ≡ true → n < length xs
    → behind (get_or xs n 0) xs ≡ first_of (drop (suc n) xs)
behind_at [] n d h = absurd (omega arith)
behind_at (x ∷ xs) zero d h = ap (λ b. cond b (first_of xs) (behind x xs)) (eq-eqb x x refl)
behind_at (x ∷ xs) (suc n) d h =
    let two = and_parts (not (holds x xs)) (distinct xs) d in
    let y = get_or xs n 0 in
    let apart : eqb x y ≡ false = ne_eqb x y
    (λ e. both_ways (holds x xs) (not-true (holds x xs) two.0) (ap (λ m. holds m xs) e ∙ holds_at xs n (omega arith))) in
    ap (λ b. cond b (first_of xs) (behind y xs)) apart ∙ behind_at xs n two.1 (omega arith)

pub first_some : (xs : List ℕ) (n l : ℕ) → first_of (drop n xs) ≡ Some l → (n < length xs) × (get_or xs n 0 ≡ l)
first_some [] zero l e = let z : ◌≡◌ {A = ℕ} 0 1 = cc in absurd (omega arith)
first_some [] (suc n) l e = let z : ◌≡◌ {A = ℕ} 0 1 = cc in absurd (omega arith)
first_some (x ∷ xs) zero l e = (omega arith, cc)
first_some (x ∷ xs) (suc n) l e = let h = first_some xs n l e in (omega arith, h.1)

pub first_none : (xs : List ℕ) (n : ℕ) → first_of (drop n xs) ≡ None → length xs ≤ n
first_none [] n e = omega arith
first_none (x ∷ xs) zero e = let z : ◌≡◌ {A = ℕ} 0 1 = cc in absurd (omega arith)
first_none (x ∷ xs) (suc n) e = let h = first_none xs n e in omega arith

first_holds : (xs : List ℕ) (l : ℕ) → first_of xs ≡ Some l → holds l xs ≡ true
first_holds [] l e = let z : ◌≡◌ {A = ℕ} 0 1 = cc in absurd (omega arith)
first_holds (x ∷ xs) l e = or_left (eqb x l) (holds l xs) (eq-eqb x l (cc))

behind_holds : (k : ℕ) (xs : List ℕ) (l : ℕ) → behind k xs ≡ Some l → holds l xs ≡ true
behind_holds k [] l e = let z : ◌≡◌ {A = ℕ} 0 1 = cc in absurd (omega arith)
behind_holds k (x ∷ xs) l e =
    or_right (eqb x l) (holds l xs) (elim (cases_Bool (eqb x k)) [
      | inl t ↦ first_holds xs l (sym (ap (λ b. cond b (first_of xs) (behind k xs)) t) ∙ e)
      | inr t ↦ behind_holds k xs l (sym (ap (λ b. cond b (first_of xs) (behind k xs)) t) ∙ e)
    ])

-- what a search along a row answers stands in it
pub next_holds : (xs : List ℕ) (after : Option ℕ) (l : ℕ) → next_in xs after ≡ Some l → holds l xs ≡ true
next_holds xs None l e = first_holds xs l e
next_holds xs (Some k) l e = behind_holds k xs l e
