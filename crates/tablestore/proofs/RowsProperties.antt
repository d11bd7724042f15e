-- Rows of live labels: what adding, taking out and searching do to the row of each indicator.
use Rattle.std.proofs.Common.{◌≡◌, ℕ, suc, ◌+◌, ◌<◌, ◌≤◌, Bool, true, false, cond, not, eqb, ltb, List, [], ◌∷◌, ◌++◌}
use Rattle.std.proofs.Common.{length, drop, Some, None, sym, refl, ap, ◌∙◌, inl, inr, arith}
use Rattle.std.specs.List.{remove, find, position, position_or_len}
use Rattle.std.proofs.lemmas.List.{at_drop_all}
use Rattle.std.proofs.lemmas.Bool.{cases_Bool, and_parts, and_from, or_from, or_parts, or_cases, ltb-true}
use Rattle.std.proofs.lemmas.Bool.{lt-ltb, le-ltb, cases_lt}
use Rattle.std.proofs.lemmas.Bool.{eqb-true, ne_eqb, not-true, both_ways}
use Rattle.rules.specs.Meaning.{Value, End, front, back, placed, is_of, rule_at, is_of_rule, first_of, behind, without}
use Rattle.rules.specs.Meaning.{holds, distinct}
use Rattle.rules.proofs.MeaningProperties.{rule_at_front, rule_at_new, without_absent, behind_absent}
use Rattle.rules.proofs.LawsProperties.{distinct_placed}
use Rattle.tablestore.specs.Rows.{below, place_in, own}

pub below_more : (n m : ℕ) (xs : List ℕ) → below n xs ≡ true → n ≤ m → below m xs ≡ true
below_more n m [] b h = b
below_more n m (x ∷ xs) b h =
    let two = and_parts (ltb x n) (below n xs) b in
    let less = ltb-true x n two.0 in
    and_from (ltb x m) (below m xs) (lt-ltb x m (omega arith)) (below_more n m xs two.1 h)

below_push : (n l : ℕ) (xs : List ℕ) → below n xs ≡ true → l < n → below n (xs ++ l ∷ []) ≡ true
below_push n l [] b h = and_from (ltb l n) true (lt-ltb l n h) refl
below_push n l (x ∷ xs) b h =
    let two = and_parts (ltb x n) (below n xs) b in
    and_from (ltb x n) (below n (xs ++ l ∷ [])) two.0 (below_push n l xs two.1 h)

below_placed : (e : End) (n l : ℕ) (xs : List ℕ) → below n xs ≡ true → l < n → below n (placed e l xs) ≡ true
below_placed front n l xs b h = and_from (ltb l n) (below n xs) (lt-ltb l n h) b
below_placed back n l xs b h = below_push n l xs b h

pub below_without : (n l : ℕ) (xs : List ℕ) → below n xs ≡ true → below n (without l xs) ≡ true
below_without n l [] b = b
below_without n l (x ∷ xs) b =
    let two = and_parts (ltb x n) (below n xs) b in
    elim (cases_Bool (eqb x l)) [
      | inl e ↦ ap (λ t. below n (cond t xs (x ∷ without l xs))) e ∙ two.1
      | inr e ↦ ap (λ t. below n (cond t xs (x ∷ without l xs))) e
          ∙ and_from (ltb x n) (below n (without l xs)) two.0 (below_without n l xs two.1)
    ]

below_unused : (n l : ℕ) (xs : List ℕ) → below n xs ≡ true → n ≤ l → holds l xs ≡ false
below_unused n l [] b h = refl
below_unused n l (x ∷ xs) b h =
    let two = and_parts (ltb x n) (below n xs) b in
    let less = ltb-true x n two.0 in
    or_from (eqb x l) (holds l xs) (ne_eqb x l (λ e. omega arith)) (below_unused n l xs two.1 h)

-- the live labels with the next one among them
pub live_placed : (e : End) (n m l : ℕ) (xs ys : List ℕ) → below n xs ≡ true → distinct xs ≡ true → l ≡ n
    → m ≡ n + 1 → ys ≡ placed e l xs
    → (below m ys ≡ true) × (distinct ys ≡ true)
live_placed e n m l xs ys b d el em ey = (
  ap (below m) ey ∙ below_placed e m l xs (below_more n m xs b (omega arith)) (omega arith),
  ap distinct ey ∙ distinct_placed e l xs d (below_unused n l xs b (omega arith)),
)

-- a rule more changes no row of labels before it
own_grown : (vs : List Value) (v : Value) (xs : List ℕ) (f a : ℕ) → below (length vs) xs ≡ true
    → own (vs ++ v ∷ []) xs f a ≡ own vs xs f a
own_grown vs v [] f a b = refl
own_grown vs v (x ∷ xs) f a b =
    let two = and_parts (ltb x (length vs)) (below (length vs) xs) b in
    ap (λ o. cond (is_of_rule o f a) (x ∷ own (vs ++ v ∷ []) xs f a) (own (vs ++ v ∷ []) xs f a))
    (rule_at_front vs (v ∷ []) x (ltb-true x (length vs) two.0))
    ∙ ap (λ ys. cond (is_of_rule (rule_at vs x) f a) (x ∷ ys) ys) (own_grown vs v xs f a two.1)

own_push : (vs : List Value) (l : ℕ) (xs : List ℕ) (f a : ℕ)
    → own vs (xs ++ l ∷ []) f a ≡ cond (is_of_rule (rule_at vs l) f a) (own vs xs f a ++ l ∷ []) (own vs xs f a)
own_push vs l [] f a = refl
own_push vs l (x ∷ xs) f a =
    ap (λ ys. cond (is_of_rule (rule_at vs x) f a) (x ∷ ys) ys) (own_push vs l xs f a)
    ∙ both (is_of_rule (rule_at vs x) f a) (is_of_rule (rule_at vs l) f a) (own vs xs f a)
  where
    both : (p q : Bool) (ys : List ℕ)
        → cond p (x ∷ cond q (ys ++ l ∷ []) ys) (cond q (ys ++ l ∷ []) ys)
        ≡ cond q (cond p (x ∷ ys) ys ++ l ∷ []) (cond p (x ∷ ys) ys)
    both true true ys = refl
    both true false ys = refl
    both false q ys = refl

own_end : (e : End) (vs : List Value) (l : ℕ) (xs : List ℕ) (f a : ℕ)
    → own vs (placed e l xs) f a ≡ cond (is_of_rule (rule_at vs l) f a) (placed e l (own vs xs f a)) (own vs xs f a)
own_end front vs l xs f a = refl
own_end back vs l xs f a = own_push vs l xs f a

-- the rows once a rule is there and its label is live
pub own_placed : (e : End) (vs : List Value) (v : Value) (l : ℕ) (xs : List ℕ) (f a : ℕ)
    → below (length vs) xs ≡ true → l ≡ length vs
    → own (vs ++ v ∷ []) (placed e l xs) f a ≡ cond (is_of v f a) (placed e l (own vs xs f a)) (own vs xs f a)
own_placed e vs v l xs f a b el =
    own_end e (vs ++ v ∷ []) l xs f a
    ∙ ap (λ o. cond (is_of_rule o f a) (placed e l (own (vs ++ v ∷ []) xs f a)) (own (vs ++ v ∷ []) xs f a))
    (ap (rule_at (vs ++ v ∷ [])) el ∙ rule_at_new vs v)
    ∙ ap (λ ys. cond (is_of v f a) (placed e l ys) ys) (own_grown vs v xs f a b)

-- a row holds labels of its indicator
pub own_of : (vs : List Value) (l : ℕ) (xs : List ℕ) (f a : ℕ) → holds l (own vs xs f a) ≡ true
    → is_of_rule (rule_at vs l) f a ≡ true
own_of vs l [] f a h = absurd (both_ways false refl h)
own_of vs l (x ∷ xs) f a h =
    elim (cases_Bool (is_of_rule (rule_at vs x) f a)) [
      | inl p ↦ elim (or_cases (eqb x l) (holds l (own vs xs f a))
          (sym (ap (λ t. holds l (cond t (x ∷ own vs xs f a) (own vs xs f a))) p) ∙ h)) [
            | inl here ↦ ap (λ k. is_of_rule (rule_at vs k) f a) (sym (eqb-true x l here)) ∙ p
            | inr later ↦ own_of vs l xs f a later
          ]
      | inr p ↦ own_of vs l xs f a (sym (ap (λ t. holds l (cond t (x ∷ own vs xs f a) (own vs xs f a))) p) ∙ h)
    ]

own_none : (vs : List Value) (l : ℕ) (xs : List ℕ) (f a : ℕ) → is_of_rule (rule_at vs l) f a ≡ false
    → holds l (own vs xs f a) ≡ false
own_none vs l xs f a n =
    elim (cases_Bool (holds l (own vs xs f a))) [
      | inl e ↦ absurd (both_ways (is_of_rule (rule_at vs l) f a) n (own_of vs l xs f a e))
      | inr e ↦ e
    ]

-- a row holds live labels only
own_live : (vs : List Value) (l : ℕ) (xs : List ℕ) (f a : ℕ) → holds l xs ≡ false → holds l (own vs xs f a) ≡ false
own_live vs l [] f a h = refl
own_live vs l (x ∷ xs) f a h =
    let none = or_parts (eqb x l) (holds l xs) h in
    let rest = own_live vs l xs f a none.1 in
    elim (cases_Bool (is_of_rule (rule_at vs x) f a)) [
      | inl p ↦ ap (λ t. holds l (cond t (x ∷ own vs xs f a) (own vs xs f a))) p
          ∙ or_from (eqb x l) (holds l (own vs xs f a)) none.0 rest
      | inr p ↦ ap (λ t. holds l (cond t (x ∷ own vs xs f a) (own vs xs f a))) p ∙ rest
    ]

pub distinct_own : (vs : List Value) (xs : List ℕ) (f a : ℕ) → distinct xs ≡ true → distinct (own vs xs f a) ≡ true
distinct_own vs [] f a d = refl
distinct_own vs (x ∷ xs) f a d =
    let two = and_parts (not (holds x xs)) (distinct xs) d in
    let rest = distinct_own vs xs f a two.1 in
    elim (cases_Bool (is_of_rule (rule_at vs x) f a)) [
      | inl p ↦ ap (λ t. distinct (cond t (x ∷ own vs xs f a) (own vs xs f a))) p
          ∙ and_from (not (holds x (own vs xs f a))) (distinct (own vs xs f a))
          (ap not (own_live vs x xs f a (not-true (holds x xs) two.0))) rest
      | inr p ↦ ap (λ t. distinct (cond t (x ∷ own vs xs f a) (own vs xs f a))) p ∙ rest
    ]

-- a label that is no more live leaves its row
pub own_without : (vs : List Value) (l : ℕ) (xs : List ℕ) (f a : ℕ)
    → own vs (without l xs) f a ≡ without l (own vs xs f a)
own_without vs l [] f a = refl
own_without vs l (x ∷ xs) f a =
    elim (cases_Bool (eqb x l)) [
      | inl e ↦ ap (λ t. own vs (cond t xs (x ∷ without l xs)) f a) e
          ∙ elim (cases_Bool (is_of_rule (rule_at vs x) f a)) [
            | inl p ↦ sym (ap (λ t. without l (cond t (x ∷ own vs xs f a) (own vs xs f a))) p
                ∙ ap (λ t. cond t (own vs xs f a) (x ∷ without l (own vs xs f a))) e)
            | inr p ↦ sym (ap (λ t. without l (cond t (x ∷ own vs xs f a) (own vs xs f a))) p
                ∙ without_absent l (own vs xs f a) (own_none vs l xs f a
                (ap (λ k. is_of_rule (rule_at vs k) f a) (sym (eqb-true x l e)) ∙ p)))
          ]
      | inr e ↦ ap (λ t. own vs (cond t xs (x ∷ without l xs)) f a) e
          ∙ ap (λ ys. cond (is_of_rule (rule_at vs x) f a) (x ∷ ys) ys) (own_without vs l xs f a)
          ∙ elim (cases_Bool (is_of_rule (rule_at vs x) f a)) [
            | inl p ↦ ap (λ t. cond t (x ∷ without l (own vs xs f a)) (without l (own vs xs f a))) p
                ∙ sym (ap (λ t. without l (cond t (x ∷ own vs xs f a) (own vs xs f a))) p
                ∙ ap (λ t. cond t (own vs xs f a) (x ∷ without l (own vs xs f a))) e)
            | inr p ↦ ap (λ t. cond t (x ∷ without l (own vs xs f a)) (without l (own vs xs f a))) p
                ∙ sym (ap (λ t. without l (cond t (x ∷ own vs xs f a) (own vs xs f a))) p)
          ]
    ]

-- behind a label of the indicator stands the first one from its place on
pub behind_own : (vs : List Value) (l : ℕ) (xs : List ℕ) (f a : ℕ) → is_of_rule (rule_at vs l) f a ≡ true
    → behind l (own vs xs f a) ≡ first_of (own vs (drop (suc (place_in l xs)) xs) f a)
behind_own vs l [] f a o = refl
behind_own vs l (x ∷ xs) f a o =
    elim (cases_Bool (eqb x l)) [
      | inl e ↦ ap (λ t. behind l (cond t (x ∷ own vs xs f a) (own vs xs f a)))
          (ap (λ k. is_of_rule (rule_at vs k) f a) (eqb-true x l e) ∙ o)
          ∙ ap (λ t. cond t (first_of (own vs xs f a)) (behind l (own vs xs f a))) e
          ∙ sym (ap (λ t. first_of (own vs (drop (suc (cond t 0 (suc (place_in l xs)))) (x ∷ xs)) f a)) e)
      | inr e ↦ elim (cases_Bool (is_of_rule (rule_at vs x) f a)) [
        | inl p ↦ ap (λ t. behind l (cond t (x ∷ own vs xs f a) (own vs xs f a))) p
            ∙ ap (λ t. cond t (first_of (own vs xs f a)) (behind l (own vs xs f a))) e
        | inr p ↦ ap (λ t. behind l (cond t (x ∷ own vs xs f a) (own vs xs f a))) p
      ]
          ∙ behind_own vs l xs f a o
          ∙ sym (ap (λ t. first_of (own vs (drop (suc (cond t 0 (suc (place_in l xs)))) (x ∷ xs)) f a)) e)
    ]

pub behind_other : (vs : List Value) (l : ℕ) (xs : List ℕ) (f a : ℕ) → is_of_rule (rule_at vs l) f a ≡ false
    → behind l (own vs xs f a) ≡ None
behind_other vs l xs f a o = behind_absent l (own vs xs f a) (own_none vs l xs f a o)

-- taking out the label at its place
pub removed_place : (l : ℕ) (xs : List ℕ) → remove xs (place_in l xs) ≡ without l xs
removed_place l [] = refl
removed_place l (x ∷ xs) =
    elim (cases_Bool (eqb x l)) [
      | inl e ↦ ap (λ t. remove (x ∷ xs) (cond t 0 (suc (place_in l xs)))) e
          ∙ sym (ap (λ t. cond t xs (x ∷ without l xs)) e)
      | inr e ↦ ap (λ t. remove (x ∷ xs) (cond t 0 (suc (place_in l xs)))) e
          ∙ ap (λ ys. x ∷ ys) (removed_place l xs)
          ∙ sym (ap (λ t. cond t xs (x ∷ without l xs)) e)
    ]

-- a label whose place is past the end is not there
pub without_past : (l : ℕ) (xs : List ℕ) → length xs ≤ place_in l xs → without l xs ≡ xs
without_past l [] h = refl
without_past l (x ∷ xs) h =
    elim (cases_Bool (eqb x l)) [
      | inl e ↦ absurd (let z = ap (λ t. cond t 0 (suc (place_in l xs))) e in omega arith)
      | inr e ↦ let z = ap (λ t. cond t 0 (suc (place_in l xs))) e in
          ap (λ t. cond t xs (x ∷ without l xs)) e ∙ ap (λ ys. x ∷ ys) (without_past l xs (omega arith))
    ]

-- a search for a label, and its place
place_is : (l : ℕ) (xs : List ℕ) → position_or_len (λ x. eqb x l) xs ≡ place_in l xs
place_is l [] = refl
place_is l (x ∷ xs) =
    let h = place_is l xs in
    elim (cases_Bool (eqb x l)) [
      | inl e ↦ ap (λ t. cond (not t) (1 + position_or_len (λ y. eqb y l) xs) 0) e
          ∙ sym (ap (λ t. cond t 0 (suc (place_in l xs))) e)
      | inr e ↦ let one : 1 + position_or_len (λ y. eqb y l) xs ≡ suc (place_in l xs) = omega arith in
          ap (λ t. cond (not t) (1 + position_or_len (λ y. eqb y l) xs) 0) e ∙ one
          ∙ sym (ap (λ t. cond t 0 (suc (place_in l xs))) e)
    ]

pub place_found : (l i : ℕ) (xs : List ℕ) → position (λ x. eqb x l) xs ≡ Some i → (i ≡ place_in l xs) × (i < length xs)
place_found l i xs e =
    let p = position_or_len (λ x. eqb x l) xs in
    let is = place_is l xs in
    elim (cases_lt p (length xs)) [
      | inl less ↦ let h = sym (ap (λ b. cond b (Some p) None) (lt-ltb p (length xs) less)) ∙ e in
          let same : p ≡ i = cc in
          (omega arith, omega arith)
      | inr more ↦ let h = sym (ap (λ b. cond b (Some p) None) (le-ltb p (length xs) more)) ∙ e in absurd (cc)
    ]

pub place_missing : (l : ℕ) (xs : List ℕ) → position (λ x. eqb x l) xs ≡ None → length xs ≤ place_in l xs
place_missing l xs e =
    let p = position_or_len (λ x. eqb x l) xs in
    let is = place_is l xs in
    elim (cases_lt p (length xs)) [
      | inl less ↦ let h = sym (ap (λ b. cond b (Some p) None) (lt-ltb p (length xs) less)) ∙ e in absurd (cc)
      | inr more ↦ omega arith
    ]

-- a search for a label of an indicator finds the first one of its row
pub find_own : (vs : List Value) (f a : ℕ) (xs : List ℕ)
    → find (λ l. is_of_rule (rule_at vs l) f a) xs ≡ first_of (own vs xs f a)
find_own vs f a [] = refl
find_own vs f a (x ∷ xs) =
    elim (cases_Bool (is_of_rule (rule_at vs x) f a)) [
      | inl e ↦ ap (λ t. cond t (Some x) (find (λ l. is_of_rule (rule_at vs l) f a) xs)) e
          ∙ sym (ap (λ t. first_of (cond t (x ∷ own vs xs f a) (own vs xs f a))) e)
      | inr e ↦ ap (λ t. cond t (Some x) (find (λ l. is_of_rule (rule_at vs l) f a) xs)) e ∙ find_own vs f a xs
          ∙ sym (ap (λ t. first_of (cond t (x ∷ own vs xs f a) (own vs xs f a))) e)
    ]

pub own_past : (vs : List Value) (xs : List ℕ) (f a i : ℕ) → length xs ≤ i
    → first_of (own vs (drop i xs) f a) ≡ None
own_past vs xs f a i h = at_drop_all (λ ys. first_of (own vs ys f a)) xs i h
