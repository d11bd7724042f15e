-- What holds of every table stays so.
use Rattle.std.proofs.Common.{◌≡◌, ℕ, zero, suc, ◌+◌, ◌<◌, ◌≤◌, true, ◌&&◌, ◌++◌, List, [], ◌∷◌, length}
use Rattle.std.proofs.Common.{Some, get_or, ltb, leb, refl, ap}
use Rattle.std.proofs.Common.{arith}
use Rattle.std.specs.List.{list_all}
use Rattle.std.proofs.lemmas.List.{length_push}
use Rattle.std.proofs.lemmas.Bool.{and_from, or_parts, leb-false, ltb-false, leb-true, and_parts}
use Rattle.rules.specs.Indicators.{fits}
use Rattle.rules.specs.Meaning.{Value, used, is_size}
use Rattle.rules.specs.Tables.{Kept, Table, rules_in, note_at, noted, Entered, IsEmpty, IsWithin}
use Rattle.rules.proofs.MeaningProperties.{used_push}
use Rattle.rules.proofs.EntriesProperties.{length_rules}

all_fit_push : (vs : List Value) (v : Value) → list_all (λ w. fits w.name w.arity) vs ≡ true
    → fits v.name v.arity ≡ true → list_all (λ w. fits w.name w.arity) (vs ++ v ∷ []) ≡ true
all_fit_push [] v t s = and_from (fits v.name v.arity) true s refl
all_fit_push (x ∷ vs) v t s =
    let two = and_parts (fits x.name x.arity) (list_all (λ w. fits w.name w.arity) vs) t in
    and_from (fits x.name x.arity) (list_all (λ w. fits w.name w.arity) (vs ++ v ∷ [])) two.0
    (all_fit_push vs v two.1 s)

module _ {T : Type 0} where
  -- the rule with a note that was found, and its indicator
  pub record Found (ks : List (Kept T)) (l : ℕ) (n : T) : Type 0 where
    pub kept : Kept T
    pub less : l < length ks
    pub is : kept ≡ get_or ks l kept
    pub note : kept.note ≡ n
    pub small : fits kept.rule.name kept.rule.arity ≡ true

  pub found : (ks : List (Kept T)) (l : ℕ) (n : T) → list_all (λ v. fits v.name v.arity) (rules_in ks) ≡ true
      → note_at ks l ≡ Some n → Found ks l n
  found [] l n t e = absurd (cc)
  found (k ∷ ks) zero n t e =
      record {
        kept = k;
        less = omega arith;
        is = refl;
        note = cc;
        small = (and_parts (fits k.rule.name k.rule.arity) (list_all (λ v. fits v.name v.arity) (rules_in ks)) t).0;
      }
  found (k ∷ ks) (suc l) n t e =
      let rest = (and_parts (fits k.rule.name k.rule.arity) (list_all (λ v. fits v.name v.arity) (rules_in ks)) t).1 in
      let h = found ks l n rest e in
      record { kept = h.kept; less = let s = h.less in omega arith; is = h.is; note = h.note; small = h.small }

  pub rules_push : (ks : List (Kept T)) (k : Kept T) → rules_in (ks ++ k ∷ []) ≡ rules_in ks ++ k.rule ∷ []
  rules_push [] k = refl
  rules_push (j ∷ ks) k = ap (λ vs. j.rule ∷ vs) (rules_push ks k)

  pub rules_noted : (ks : List (Kept T)) (l : ℕ) (n : T) → rules_in (noted ks l n) ≡ rules_in ks
  rules_noted [] l n = refl
  rules_noted (k ∷ ks) zero n = refl
  rules_noted (k ∷ ks) (suc l) n = ap (λ vs. k.rule ∷ vs) (rules_noted ks l n)

  pub length_noted : (ks : List (Kept T)) (l : ℕ) (n : T) → length (noted ks l n) ≡ length ks
  length_noted [] l n = refl
  length_noted (k ∷ ks) zero n = refl
  length_noted (k ∷ ks) (suc l) n = ap suc (length_noted ks l n)

  pub within_empty : (labels space : ℕ) (t : Table T) → is_size labels space ≡ true → IsEmpty labels space t
      → IsWithin t
  within_empty labels space t size e =
      let three = and_parts ((leb 1 labels && leb labels 1024) && leb 256 space) (leb space 65536) size in
      let two = and_parts (leb 1 labels && leb labels 1024) (leb 256 space) three.0 in
      let one = and_parts (leb 1 labels) (leb labels 1024) two.0 in
      let small = leb-true labels 1024 one.1 in
      let short = leb-true space 65536 three.1 in
      rw e record { few = omega arith; room = omega arith; small = small; short = short; named = refl }

  -- there was room for the rule, and the next label is the next one
  pub entered_room : (t u : Table T) (v : Value) (n : T) (l : ℕ) → Entered t v n l u
      → (length t.kept < t.labels) × (used (rules_in t.kept) + length v.nodes ≤ t.space)
      × (length u.kept ≡ length t.kept + 1)
  entered_room t u v n l e =
      let vs = rules_in t.kept in
      let two = or_parts (leb t.labels (length vs)) (ltb t.space (used vs + length v.nodes)) e.fits in
      let some = leb-false t.labels (length vs) two.0 in
      let count = length_rules t.kept in
      (omega arith, ltb-false t.space (used vs + length v.nodes) two.1, rw (e.kept, length_push) refl)

  pub within_entered : (t u : Table T) (v : Value) (n : T) (l : ℕ) → IsWithin t → Entered t v n l u
      → fits v.name v.arity ≡ true → IsWithin u
  within_entered t u v n l w e s =
      let three = entered_room t u v n l e in
      let some = three.0 in
      let wide = three.1 in
      let next = three.2 in
      let more = used_push (rules_in t.kept) v in
      let labels = e.labels in
      let space = e.space in
      let small = w.small in
      let short = w.short in
      record {
        few = omega arith;
        room = rw (e.kept, rules_push) (omega arith);
        small = omega arith;
        short = omega arith;
        named = rw (e.kept, rules_push) (all_fit_push (rules_in t.kept) v w.named s);
      }

  pub within_noted : (t u : Table T) (l : ℕ) (n : T) → IsWithin t → u ≡ record t { kept = noted t.kept l n }
      → IsWithin u
  within_noted t u l n w e =
      let count = length_noted t.kept l n in
      let few = w.few in
      rw e record {
        few = omega arith;
        room = rw (rules_noted t.kept l n) w.room;
        small = w.small;
        short = w.short;
        named = rw (rules_noted t.kept l n) w.named;
      }
