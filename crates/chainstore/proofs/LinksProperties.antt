-- One ring in both directions: a cell is added at an end, or taken out.
use Rattle.std.proofs.Common.{◌≡◌, ℕ, ◌+◌, ◌<◌, true, false, not, eqb, List, [], ◌∷◌, ◌++◌, reverse, length, get_or}
use Rattle.std.proofs.Common.{Some, None, Option, sym, refl, ap, ◌∙◌, subst, inl, inr, arith}
use Rattle.std.proofs.lemmas.List.{reverse-append, append_assoc, length-append, get_or_append_left, get_or_past}
use Rattle.std.proofs.lemmas.List.{get_or_push, length_push}
use Rattle.std.proofs.lemmas.Bool.{eq-eqb, and_parts, not-true, cond-true, or_left, or_right, cases_lt}
use Rattle.rules.specs.Meaning.{End, front, back, placed, first_of, behind, holds, distinct, without}
use Rattle.chainstore.specs.declared.rings.Link.{Link}
use Rattle.chainstore.specs.Rings.{Cells, cell_of, is_in, no_link, after_at, before_at, Inserted, InsertedAt, Bridged}
use Rattle.chainstore.specs.Rings.{Alone}
use Rattle.chainstore.specs.Linked.{Goes, Ring}
use Rattle.chainstore.proofs.NextProperties.{split, distinct_parts, distinct_reverse, holds_reverse, holds_append}
use Rattle.chainstore.proofs.NextProperties.{reverse_cons}
use Rattle.chainstore.proofs.NextProperties.{last_of, last_of_reverse, first_reverse, behind_skip, without_split}
use Rattle.chainstore.proofs.RingsProperties.{goes_front, goes_back, goes_past}

pub ring_added : (e : End) (cs ds : Cells) (h l : ℕ) (xs : List ℕ) → h < 4608 → length cs.links ≡ 4608 + l
    → distinct xs ≡ true → holds l xs ≡ false → Ring cs.links h xs → InsertedAt e cs h ds
    → Ring ds.links h (placed e l xs)
ring_added front cs ds h l xs less long once out ring new = record {
  after = goes_front (after_at cs.links) (after_at ds.links) h l xs less ring.after
      (ap (after_at ds.links) (sym long) ∙ new.after_new) (new.after_before ∙ long)
      (λ k p q. new.after_others k p (λ s. q (s ∙ long)));
  before = subst (λ ys. Goes (before_at ds.links) h ys) (sym (reverse_cons l xs))
      (goes_back (before_at cs.links) (before_at ds.links) h (after_at cs.links h) l (reverse xs) less
      (distinct_reverse xs once) (holds_reverse l xs ∙ out) ring.before
      (ring.after None refl ∙ ap (cell_of h) (sym (last_of_reverse xs)))
      (ap (before_at ds.links) (sym long) ∙ new.before_new) (new.before_after ∙ long)
      (λ k p q. new.before_others k p (λ s. q (s ∙ long))));
}
ring_added back cs ds h l xs less long once out ring new = record {
  after = goes_back (after_at cs.links) (after_at ds.links) h (before_at cs.links h) l xs less once out ring.after
      (ring.before None refl ∙ ap (cell_of h) (first_reverse xs))
      (ap (after_at ds.links) (sym long) ∙ new.after_new) (new.after_before ∙ long)
      (λ k p q. new.after_others k p (λ s. q (s ∙ long)));
  before = subst (λ ys. Goes (before_at ds.links) h ys) (sym (reverse-append xs (l ∷ [])))
      (goes_front (before_at cs.links) (before_at ds.links) h l (reverse xs) less ring.before
      (ap (before_at ds.links) (sym long) ∙ new.before_new) (new.before_after ∙ long)
      (λ k p q. new.before_others k p (λ s. q (s ∙ long))));
}

reverse_split : (l : ℕ) (ys zs : List ℕ) → reverse (ys ++ l ∷ zs) ≡ reverse zs ++ l ∷ reverse ys
reverse_split l ys zs =
    reverse-append ys (l ∷ zs) ∙ ap (λ r. r ++ reverse ys) (reverse_cons l zs)
    ∙ append_assoc (reverse zs) (l ∷ []) (reverse ys)

behind_own : (l : ℕ) (ys zs : List ℕ) → holds l ys ≡ false → behind l (ys ++ l ∷ zs) ≡ first_of zs
behind_own l ys zs out =
    behind_skip l ys (l ∷ zs) out ∙ cond-true (eqb l l) (first_of zs) (behind l zs) (eq-eqb l l refl)

holds_own : (l : ℕ) (ys zs : List ℕ) → holds l (ys ++ l ∷ zs) ≡ true
holds_own l ys zs =
    holds_append l ys (l ∷ zs)
    ∙ or_right (holds l ys) (holds l (l ∷ zs)) (or_left (eqb l l) (holds l zs) (eq-eqb l l refl))

ring_past : (cs ds : Cells) (h l : ℕ) (ys zs : List ℕ) → h < 4608 → distinct (ys ++ l ∷ zs) ≡ true
    → holds l ys ≡ false → Ring cs.links h (ys ++ l ∷ zs)
    → Bridged cs (before_at cs.links (4608 + l)) (after_at cs.links (4608 + l)) ds → Ring ds.links h (ys ++ zs)
ring_past cs ds h l ys zs less once out ring new = record { after = after; before = before }
  where
    free : holds l (reverse zs) ≡ false
    free =
        holds_reverse l zs
        ∙ not-true (holds l zs)
        (and_parts (not (holds l zs)) (distinct zs) (distinct_parts ys (l ∷ zs) once).right).0

    mirrored : Goes (before_at cs.links) h (reverse zs ++ l ∷ reverse ys)
    mirrored = subst (λ r. Goes (before_at cs.links) h r) (reverse_split l ys zs) ring.before

    front_is : before_at cs.links (4608 + l) ≡ cell_of h (last_of ys)
    front_is =
        mirrored (Some l) (holds_own l (reverse zs) (reverse ys))
        ∙ ap (cell_of h) (behind_own l (reverse zs) (reverse ys) free ∙ first_reverse ys)

    back_is : after_at cs.links (4608 + l) ≡ cell_of h (last_of (reverse zs))
    back_is =
        ring.after (Some l) (holds_own l ys zs)
        ∙ ap (cell_of h) (behind_own l ys zs out ∙ sym (last_of_reverse zs))

    after : Goes (after_at ds.links) h (ys ++ zs)
    after =
        goes_past (after_at cs.links) (after_at ds.links) h (before_at cs.links (4608 + l)) l ys zs less once out
        ring.after front_is new.after_before new.after_others

    before : Goes (before_at ds.links) h (reverse (ys ++ zs))
    before =
        subst (λ r. Goes (before_at ds.links) h r) (sym (reverse-append ys zs))
        (goes_past (before_at cs.links) (before_at ds.links) h (after_at cs.links (4608 + l)) l (reverse zs)
        (reverse ys) less (ap distinct (sym (reverse_split l ys zs)) ∙ distinct_reverse (ys ++ l ∷ zs) once) free
        mirrored back_is new.before_after new.before_others)

pub ring_erased : (cs ds : Cells) (h l : ℕ) (xs : List ℕ) → h < 4608 → distinct xs ≡ true → holds l xs ≡ true
    → Ring cs.links h xs → Bridged cs (before_at cs.links (4608 + l)) (after_at cs.links (4608 + l)) ds
    → Ring ds.links h (without l xs)
ring_erased cs ds h l xs less once inside ring new =
    let s = split l xs inside in
    let same : without l xs ≡ s.before ++ s.rest
    = ap (without l) s.is ∙ without_split l s.before s.rest s.clear in
    subst (λ r. Ring ds.links h r) (sym same)
    (ring_past cs ds h l s.before s.rest less (ap distinct (sym s.is) ∙ once) s.clear
    (subst (λ r. Ring cs.links h r) s.is ring) new)

-- links outside a ring do not matter to it
pub ring_kept : (ls ms : List Link) (h : ℕ) (xs : List ℕ) → Ring ls h xs
    → ((o : Option ℕ) → is_in o xs ≡ true → after_at ms (cell_of h o) ≡ after_at ls (cell_of h o))
    → ((o : Option ℕ) → is_in o (reverse xs) ≡ true → before_at ms (cell_of h o) ≡ before_at ls (cell_of h o))
    → Ring ms h xs
ring_kept ls ms h xs ring a b = record {
  after = λ o i. a o i ∙ ring.after o i;
  before = λ o i. b o i ∙ ring.before o i;
}

-- a cell that is put behind all others, and then linked on both sides
pub inserted_by : (cs xs ds : Cells) (c : Link) (p q n : ℕ) → n ≡ length cs.links → p < length cs.links
    → q < length cs.links → Bridged (record cs { links = cs.links ++ c ∷ [] }) p n xs → Bridged xs n q ds
    → Inserted cs p q ds
inserted_by cs xs ds c p q n long l m one two = record {
  len = two.len ∙ one.len ∙ length_push cs.links c;
  after_new = ap (after_at ds.links) (sym long) ∙ two.after_before;
  after_before = two.after_others p (λ e. omega arith) ∙ one.after_before ∙ long;
  after_others = λ k u v. two.after_others k (λ e. v (e ∙ long)) ∙ one.after_others k u
      ∙ ap (λ x. x.after) (old k v);
  before_new = ap (before_at ds.links) (sym long) ∙ two.before_others n (λ e. omega arith) ∙ one.before_after;
  before_after = two.before_after ∙ long;
  before_others = λ k u v. two.before_others k u ∙ one.before_others k (λ e. v (e ∙ long))
      ∙ ap (λ x. x.before) (old k v);
  labels = two.labels ∙ one.labels;
}
  where
    old : (k : ℕ) → (k ≡ length cs.links → ⊥) → get_or (cs.links ++ c ∷ []) k no_link ≡ get_or cs.links k no_link
    old k u =
        elim (cases_lt k (length cs.links)) [
          | inl s ↦ get_or_append_left cs.links (c ∷ []) no_link k s
          | inr s ↦ let e = length-append cs.links (c ∷ []) in
              let far : length cs.links < k = omega (arith, u) in
              get_or_past (cs.links ++ c ∷ []) k no_link (omega arith) ∙ sym (get_or_past cs.links k no_link s)
        ]

pub inserted_len : (e : End) (cs ds : Cells) (h : ℕ) → InsertedAt e cs h ds → length ds.links ≡ length cs.links + 1
inserted_len front cs ds h new = new.len
inserted_len back cs ds h new = new.len

pub inserted_labels : (e : End) (cs ds : Cells) (h : ℕ) → InsertedAt e cs h ds → ds.labels ≡ cs.labels
inserted_labels front cs ds h new = new.labels
inserted_labels back cs ds h new = new.labels

-- what a push adds does not change the cells before it
pub alone_push : (n : ℕ) (ls : List Link) (c : Link) → length ls ≡ n → c.before ≡ n → c.after ≡ n → Alone n ls
    → Alone (n + 1) (ls ++ c ∷ [])
alone_push n ls c long b a alone = record {
  after = λ k l. elim (cases_lt k n) [
    | inl s ↦ ap (λ x. x.after) (get_or_append_left ls (c ∷ []) no_link k (omega arith)) ∙ alone.after k s
    | inr s ↦ let e : k ≡ n = omega arith in
        ap (λ x. x.after) (get_or_push ls c no_link k (long ∙ sym e)) ∙ a ∙ sym e
  ];
  before = λ k l. elim (cases_lt k n) [
    | inl s ↦ ap (λ x. x.before) (get_or_append_left ls (c ∷ []) no_link k (omega arith)) ∙ alone.before k s
    | inr s ↦ let e : k ≡ n = omega arith in
        ap (λ x. x.before) (get_or_push ls c no_link k (long ∙ sym e)) ∙ b ∙ sym e
  ];
}
