-- A term as it is written, numbered again: each variable has its place, each integer its value.
use Rattle.std.proofs.Common.{◌≡◌, ℕ, ◌^◌, ◌<◌, true, List, length, sym, refl, ap, ◌∙◌, arith}
use Rattle.std.proofs.lemmas.Bool.{and_parts}
use Rattle.terms.specs.Term.{Term, Terms, var, int, app, nil, cons}
use Rattle.text.specs.Numbering.{Met, number_of, meets, met, met_all, numbered, numbered_all}
use Rattle.writer.specs.Shown.{place_in, firsts, firsts_all, as_written, all_as_written}
use Rattle.readback.specs.Renaming.{renamed, all_renamed}
use Rattle.readback.specs.ReadBack.{integers_small, all_small}
use Rattle.readback.proofs.DigitProperties.{integer_text_value}
use Rattle.readback.proofs.PlaceProperties.{place_within, length_with, place_inside_with, Keeps, keeps_first}
use Rattle.readback.proofs.PlaceProperties.{kept_place}
use Rattle.readback.proofs.NameProperties.{number_name, names_from, number_of_name, meets_name}

-- the names met where as many variables were seen
abbrev pub names : List ℕ → Met
names s = names_from 0 (length s)

mutual
  pub numbers : (t : Term) (s u : List ℕ) → Keeps (firsts s t) u → length u < 2 ^ 64 → integers_small t ≡ true
      → (met (names s) (as_written u t) ≡ names (firsts s t)) × (numbered (names s) (as_written u t) ≡ renamed u t)
  numbers (var v) s u k l h =
      let e = kept_place s u v k in
      let p = place_within s v in
      let q : place_in s v < 2 ^ 64 = omega (arith, k.longer, place_inside_with s v) in (
        ap (λ i. meets (names s) (number_name i)) e ∙ meets_name (length s) (place_in s v) p q
            ∙ ap (names_from 0) (sym (length_with s v)),
        ap (λ i. var (number_of (names s) (number_name i))) e ∙ ap var (number_of_name (length s) (place_in s v) p q)
            ∙ ap var (sym e),
      )
  numbers (int i) s u k l h = (refl, ap int (integer_text_value i h))
  numbers (app f ts) s u k l h =
      let r = all_number ts s u k l h in
      (r.0, ap (app f) r.1)

  all_number : (ts : Terms) (s u : List ℕ) → Keeps (firsts_all s ts) u → length u < 2 ^ 64 → all_small ts ≡ true
      → (met_all (names s) (all_as_written u ts) ≡ names (firsts_all s ts))
      × (numbered_all (names s) (all_as_written u ts) ≡ all_renamed u ts)
  all_number nil s u k l h = (refl, refl)
  all_number (cons t ts) s u k l h =
      let b = and_parts (integers_small t) (all_small ts) h in
      let here = numbers t s u (keeps_first t ts s u k) l b.0 in
      let there = all_number ts (firsts s t) u k l b.1 in (
        ap (λ e. met_all e (all_as_written u ts)) here.0 ∙ there.0,
        ap (λ x. cons x (numbered_all (met (names s) (as_written u t)) (all_as_written u ts))) here.1
            ∙ ap (λ e. cons (renamed u t) (numbered_all e (all_as_written u ts))) here.0
            ∙ ap (cons (renamed u t)) there.1,
      )
