-- Names in a table, and those that are entered later.
use Rattle.std.proofs.Common.{◌≡◌, ℕ, ◌<◌, ◌≤◌, min, true, false, cond, ltb, List, [], length, get_or, take, is_ok}
use Rattle.std.proofs.Common.{Some, None, Err, sym, refl, ap, ◌∙◌, inl, inr, arith}
use Rattle.std.proofs.lemmas.List.{length-take, get_or-take, take-take}
use Rattle.std.proofs.lemmas.Bool.{ltb-true, cases_Bool, cases_lt, both_ways}
use Rattle.names.specs.declared.fault.NameFault.{NameFault}
use Rattle.names.specs.declared.fault.NameFault.TheVariants.{TooLong}
use Rattle.names.specs.Interned.{interned, list_after}
use Rattle.names.specs.Listed.{Extends, Lawful, name_at}
use Rattle.names.proofs.InternedProperties.{interned_long, interned_old, kept_same}
use Rattle.names.proofs.ListedProperties.{name_at_place}
use Rattle.terms.specs.Known.{known}

-- names that are entered later

pub extends_trans : (a b c : List (List ℕ)) → Extends a b → Extends b c → Extends a c
extends_trans a b c ab bc =
    let l : length a ≡ min (length a) (length b) = ap length (sym ab) ∙ length-take (length a) b in
    sym (take-take (length a) (length b) c (omega arith)) ∙ ap (take (length a)) bc ∙ ab

pub extends_same : (a b : List (List ℕ)) → a ≡ b → Extends a b
extends_same a b e = ap (take (length a)) (sym e) ∙ kept_same a

name_at_parts : (ns : List (List ℕ)) (i : ℕ) (f : List ℕ) → name_at ns i ≡ Some f → (i < length ns) × (get_or ns i [] ≡ f)
name_at_parts ns i f e = elim (cases_Bool (ltb i (length ns))) [ inl t ↦ here t | inr t ↦ past t ]
  where
    here : ltb i (length ns) ≡ true → (i < length ns) × (get_or ns i [] ≡ f)
    here t =
        let s : Some (get_or ns i []) ≡ Some f = sym (ap (λ b. cond b (Some (get_or ns i [])) None) t) ∙ e in
        let at : get_or ns i [] ≡ f = cc in
        (ltb-true i (length ns) t, at)

    past : ltb i (length ns) ≡ false → (i < length ns) × (get_or ns i [] ≡ f)
    past t =
        let s : None ≡ Some f = sym (ap (λ b. cond b (Some (get_or ns i [])) None) t) ∙ e in
        let z : ◌≡◌ {A = ℕ} 0 1 = cc in
        absurd (omega arith)

pub get_or_extended : (ns more : List (List ℕ)) (i : ℕ) (f : List ℕ) → Extends ns more → name_at ns i ≡ Some f → get_or more i [] ≡ f
get_or_extended ns more i f ext e =
    let two = name_at_parts ns i f e in
    sym (get_or-take (length ns) more i [] two.0) ∙ ap (λ l. get_or l i []) ext ∙ two.1

-- a name that is taken in has at most 64 bytes
pub interned_brief : (ns : List (List ℕ)) (f : List ℕ) → is_ok (interned ns f) ≡ true → length f ≤ 64
interned_brief ns f e = elim (cases_lt 64 (length f)) [ inl l ↦ absurd (long l) | inr l ↦ l ]
  where
    long : 64 < length f → ⊥
    long l =
        let s : is_ok {T = ℕ} {E = NameFault} (Err TooLong) ≡ true = ap is_ok (interned_long ns f l).0 ∙ e in
        both_ways false refl s

-- a known name is in every table
pub known_in : (ns : List (List ℕ)) → Lawful ns → (k : ℕ) → k < 48
    → (ns ≡ list_after ns (get_or known k [])) × (is_ok (interned ns (get_or known k [])) ≡ true)
    × (name_at ns k ≡ Some (get_or known k []))
known_in ns law k l =
    let far : min 48 (length ns) ≡ 48 = sym (length-take 48 ns) ∙ ap length law.first in
    let same : get_or ns k [] ≡ get_or known k [] = sym (get_or-take 48 ns k [] l) ∙ ap (λ xs. get_or xs k []) law.first in
    let short = law.brief k in
    let r = interned_old ns (get_or ns k []) k short (law.apart k (omega arith)) in (
      r.1 ∙ ap (list_after ns) same,
      ap (λ f. is_ok (interned ns f)) (sym same) ∙ ap is_ok (sym r.0),
      name_at_place ns k (get_or known k []) (omega arith) same,
    )
