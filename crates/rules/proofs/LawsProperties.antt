-- The laws of stores hold.
use Rattle.std.proofs.Common.{◌≡◌, ℕ, ◌+◌, Bool, true, false, cond, not, ◌||◌, eqb, ltb, leb, List, [], ◌∷◌, ◌++◌}
use Rattle.std.proofs.Common.{length, Ok, Err, sym, refl, ap, ◌∙◌, inl, inr, arith}
use Rattle.std.proofs.lemmas.List.{length_push}
use Rattle.std.proofs.lemmas.Bool.{cases_Bool, and_from, or_parts, or_cases, leb-false, ltb-false, eqb-true, both_ways}
use Rattle.rules.specs.Meaning.{Meaning, Value, End, front, back, Lawful, placed, is_of, is_full, used, rule_at}
use Rattle.rules.specs.Meaning.{holds, distinct, is_of_rule, ever_added, without}
use Rattle.rules.specs.Calls.{Same, Added}
use Rattle.rules.specs.Laws.{SameAdds, SameErases, KeptByAdds, KeptByErases, GoneByErases, LawfulFresh, LawfulByAdds}
use Rattle.rules.specs.Laws.{SkippedByErases, LawfulByErases}
use Rattle.rules.proofs.MeaningProperties.{rule_at_kept, rule_at_new, is_of_rule_kept, is_of_rule_below}
use Rattle.rules.proofs.MeaningProperties.{ever_added_push}
use Rattle.rules.proofs.MeaningProperties.{used_push, holds_push, distinct_push, holds_without, holds_before}
use Rattle.rules.proofs.MeaningProperties.{distinct_without, next_holds}

is_full_same : (m n : Meaning) (v : Value) → Same m n → is_full n v ≡ is_full m v
is_full_same m n v s =
    ap (λ k. leb k (length n.rules) || ltb n.space (used n.rules + length v.nodes)) s.labels
    ∙ ap (λ k. leb m.labels (length n.rules) || ltb k (used n.rules + length v.nodes)) s.space
    ∙ ap (λ vs. leb m.labels (length vs) || ltb m.space (used vs + length v.nodes)) s.rules

pub same_adds : SameAdds
same_adds e m n m' n' v (Ok l) (Ok k) s p q =
    let here : k ≡ l = q.label ∙ ap length s.rules ∙ sym p.label in (
      ap Ok here,
      record {
        rules = q.rules ∙ ap (λ vs. vs ++ v ∷ []) s.rules ∙ sym p.rules;
        row = λ f a. q.row f a
            ∙ ap (λ j. cond (is_of v f a) (placed e j (n.row f a)) (n.row f a)) here
            ∙ ap (λ xs. cond (is_of v f a) (placed e l xs) xs) (s.row f a)
            ∙ sym (p.row f a);
        known = λ f a. q.known f a ∙ ap (λ b. is_of v f a || b) (s.known f a) ∙ sym (p.known f a);
        labels = q.labels ∙ s.labels ∙ sym p.labels;
        space = q.space ∙ s.space ∙ sym p.space;
      },
    )
same_adds e m n m' n' v (Ok l) (Err x) s p q =
    absurd (both_ways (is_full m v) p.fits (sym (is_full_same m n v s) ∙ q.0))
same_adds e m n m' n' v (Err x) (Ok l) s p q =
    absurd (both_ways (is_full m v) (sym (is_full_same m n v s) ∙ q.fits) p.0)
same_adds e m n m' n' v (Err x) (Err y) s p q = (
  refl,
  record {
    rules = q.1.rules ∙ s.rules ∙ sym p.1.rules;
    row = λ f a. q.1.row f a ∙ s.row f a ∙ sym (p.1.row f a);
    known = λ f a. q.1.known f a ∙ s.known f a ∙ sym (p.1.known f a);
    labels = q.1.labels ∙ s.labels ∙ sym p.1.labels;
    space = q.1.space ∙ s.space ∙ sym p.1.space;
  },
)

pub same_erases : SameErases
same_erases m n m' n' l s p q =
    record {
      rules = q.rules ∙ s.rules ∙ sym p.rules;
      row = λ f a. q.row f a ∙ ap (without l) (s.row f a) ∙ sym (p.row f a);
      known = λ f a. q.known f a ∙ s.known f a ∙ sym (p.known f a);
      labels = q.labels ∙ s.labels ∙ sym p.labels;
      space = q.space ∙ s.space ∙ sym p.space;
    }

pub kept_by_adds : KeptByAdds
kept_by_adds e m n v w (Ok k) l p h = ap (λ vs. rule_at vs l) p.rules ∙ rule_at_kept m.rules v w l h
kept_by_adds e m n v w (Err x) l p h = ap (λ vs. rule_at vs l) p.1.rules ∙ h

pub kept_by_erases : KeptByErases
kept_by_erases m n w k l p h = ap (λ vs. rule_at vs l) p.rules ∙ h

pub gone_by_erases : GoneByErases
gone_by_erases m n l law p f a = ap (holds l) (p.row f a) ∙ holds_without l (m.row f a) (law.once f a)

pub skipped_by_erases : SkippedByErases
skipped_by_erases m n l law p f a after e =
    both_ways (holds l (n.row f a)) (gone_by_erases m n l law p f a) (next_holds (n.row f a) after l e)

pub lawful_fresh : LawfulFresh
lawful_fresh labels space m p =
    let n = ap length p.rules in
    let u = ap used p.rules in
    record {
      once = λ f a. ap distinct (p.row f a);
      own = λ f a l h. absurd (both_ways (holds l (m.row f a)) (ap (holds l) (p.row f a)) h);
      ever = λ f a. p.known f a ∙ sym (ap (λ vs. ever_added vs f a) p.rules);
      few = omega arith;
      room = omega arith;
    }

-- the same law of the same meaning
lawful_same : (m n : Meaning) → Lawful m → Same m n → Lawful n
lawful_same m n law s =
    let c = ap length s.rules in
    let u = ap used s.rules in
    let few = law.few in
    let room = law.room in
    let k = s.labels in
    let t = s.space in
    record {
      once = λ f a. ap distinct (s.row f a) ∙ law.once f a;
      own = λ f a l h. ap (λ vs. is_of_rule (rule_at vs l) f a) s.rules
          ∙ law.own f a l (sym (ap (holds l) (s.row f a)) ∙ h);
      ever = λ f a. s.known f a ∙ law.ever f a ∙ sym (ap (λ vs. ever_added vs f a) s.rules);
      few = omega arith;
      room = omega arith;
    }

-- the next label stands in no row
unused : (m : Meaning) → Lawful m → (f a : ℕ) → holds (length m.rules) (m.row f a) ≡ false
unused m law f a =
    elim (cases_Bool (holds (length m.rules) (m.row f a))) [
      | inl e ↦ absurd (let less = is_of_rule_below m.rules (length m.rules) f a
          (law.own f a (length m.rules) e) in omega arith)
      | inr e ↦ e
    ]

pub distinct_placed : (e : End) (l : ℕ) (xs : List ℕ) → distinct xs ≡ true → holds l xs ≡ false
    → distinct (placed e l xs) ≡ true
distinct_placed front l xs d h = and_from (not (holds l xs)) (distinct xs) (ap not h) d
distinct_placed back l xs d h = distinct_push l xs d h

pub holds_placed : (e : End) (m l : ℕ) (xs : List ℕ) → holds m (placed e l xs) ≡ (eqb l m || holds m xs)
holds_placed front m l xs = refl
holds_placed back m l xs = holds_push m l xs

once_added : (e : End) (b : Bool) (l : ℕ) (xs : List ℕ) → distinct xs ≡ true → holds l xs ≡ false
    → distinct (cond b (placed e l xs) xs) ≡ true
once_added e true l xs d h = distinct_placed e l xs d h
once_added e false l xs d h = d

own_added : (e : End) (vs : List Value) (v : Value) (xs : List ℕ) (f a k : ℕ)
    → ((l : ℕ) → holds l xs ≡ true → is_of_rule (rule_at vs l) f a ≡ true)
    → (b : Bool) → is_of v f a ≡ b → holds k (cond b (placed e (length vs) xs) xs) ≡ true
    → is_of_rule (rule_at (vs ++ v ∷ []) k) f a ≡ true
own_added e vs v xs f a k own false i h = is_of_rule_kept vs v k f a (own k h)
own_added e vs v xs f a k own true i h =
    elim (or_cases (eqb (length vs) k) (holds k xs) (sym (holds_placed e k (length vs) xs) ∙ h)) [
      | inl same ↦ ap (λ j. is_of_rule (rule_at (vs ++ v ∷ []) j) f a) (sym (eqb-true (length vs) k same))
          ∙ ap (λ o. is_of_rule o f a) (rule_at_new vs v) ∙ i
      | inr old ↦ is_of_rule_kept vs v k f a (own k old)
    ]

lawful_added : (e : End) (m n : Meaning) (v : Value) (l : ℕ) → Lawful m → Added e m v l n → Lawful n
lawful_added e m n v l law p =
    let fits = or_parts (leb m.labels (length m.rules)) (ltb m.space (used m.rules + length v.nodes))
    p.fits in
    let some = leb-false m.labels (length m.rules) fits.0 in
    let wide = ltb-false m.space (used m.rules + length v.nodes) fits.1 in
    let c = ap length p.rules in
    let c' = length_push m.rules v in
    let u = ap used p.rules in
    let u' = used_push m.rules v in
    let k = p.labels in
    let t = p.space in
    let row : (f a : ℕ)
    → n.row f a ≡ cond (is_of v f a) (placed e (length m.rules) (m.row f a)) (m.row f a)
    = λ f a. p.row f a ∙ ap (λ j. cond (is_of v f a) (placed e j (m.row f a)) (m.row f a)) p.label in
    record {
      once = λ f a. ap distinct (row f a)
          ∙ once_added e (is_of v f a) (length m.rules) (m.row f a) (law.once f a) (unused m law f a);
      own = λ f a j h. ap (λ vs. is_of_rule (rule_at vs j) f a) p.rules
          ∙ own_added e m.rules v (m.row f a) f a j (law.own f a) (is_of v f a) refl
          (sym (ap (holds j) (row f a)) ∙ h);
      ever = λ f a. p.known f a ∙ ap (λ b. is_of v f a || b) (law.ever f a) ∙ sym (ever_added_push m.rules v f a)
          ∙ sym (ap (λ vs. ever_added vs f a) p.rules);
      few = omega arith;
      room = omega arith;
    }

pub lawful_by_adds : LawfulByAdds
lawful_by_adds e m n v (Ok l) law p = lawful_added e m n v l law p
lawful_by_adds e m n v (Err x) law p = lawful_same m n law p.1

pub lawful_by_erases : LawfulByErases
lawful_by_erases m n l law p =
    let c = ap length p.rules in
    let u = ap used p.rules in
    let few = law.few in
    let room = law.room in
    let k = p.labels in
    let t = p.space in
    record {
      once = λ f a. ap distinct (p.row f a) ∙ distinct_without l (m.row f a) (law.once f a);
      own = λ f a j h. ap (λ vs. is_of_rule (rule_at vs j) f a) p.rules
          ∙ law.own f a j (holds_before l j (m.row f a) (sym (ap (holds j) (p.row f a)) ∙ h));
      ever = λ f a. p.known f a ∙ law.ever f a ∙ sym (ap (λ vs. ever_added vs f a) p.rules);
      few = omega arith;
      room = omega arith;
    }
