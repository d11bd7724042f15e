-- A term as it is written is readable where its brackets are few enough: its variables and integers always are.
use Rattle.std.proofs.Common.{◌≡◌, ℕ, zero, suc, ◌+◌, ◌^◌, ◌<◌, ◌≤◌, Bool, true, false, cond, ◌&&◌, List, length, refl}
use Rattle.std.proofs.Common.{ap, ◌∙◌, arith}
use Rattle.std.proofs.lemmas.Bool.{and_parts}
use Rattle.terms.specs.Term.{Term, Terms, var, int, app, nil, cons}
use Rattle.writing.specs.Writing.{Spot, alone, Form, form, others}
use Rattle.writing.specs.ReadBack.{opens, room, inside, readable_at, arguments_readable, others_readable}
use Rattle.writer.specs.Shown.{as_written, all_as_written}
use Rattle.readback.specs.ReadBack.{integers_small, all_small, nesting_at, arguments_nesting, others_nesting}
use Rattle.readback.proofs.DigitProperties.{variable_text_is_variable, integer_text_is_integer}
use Rattle.readback.proofs.PlaceProperties.{place_within}

and_true : (a b : Bool) → a ≡ true → b ≡ true → a && b ≡ true
and_true a b h k = ap (λ c. c && b) h ∙ k

room_for : (b : Bool) (m n : ℕ) → cond b 1 0 + m ≤ n → (room b n ≡ true) × (m ≤ inside b n)
room_for false m n h = (refl, omega arith)
room_for true m zero h = absurd (omega arith)
room_for true m (suc n) h = (refl, omega arith)

mutual
  pub few_brackets_readable : (t : Term) (p : Spot) (n : ℕ) (u : List ℕ) → length u < 2 ^ 64 → integers_small t ≡ true
      → nesting_at p (as_written u t) ≤ n → readable_at p n (as_written u t) ≡ true
  few_brackets_readable (var v) p n u l h k =
      variable_text_is_variable u v (omega (arith, place_within u v))
  few_brackets_readable (int i) p n u l h k = integer_text_is_integer i h
  few_brackets_readable (app f ts) p n u l h k =
      let o : Form = form f (all_as_written u ts) in
      let r = room_for (opens p o) (arguments_nesting (others o) (all_as_written u ts)) n k in
      and_true (room (opens p o) n) (arguments_readable (others o) (inside (opens p o) n) (all_as_written u ts)) r.0
      (arguments_are_readable ts (others o) (inside (opens p o) n) u l h r.1)

  arguments_are_readable : (ts : Terms) (q : Spot) (n : ℕ) (u : List ℕ) → length u < 2 ^ 64 → all_small ts ≡ true
      → arguments_nesting q (all_as_written u ts) ≤ n → arguments_readable q n (all_as_written u ts) ≡ true
  arguments_are_readable nil q n u l h k = refl
  arguments_are_readable (cons t ts) q n u l h k =
      let b = and_parts (integers_small t) (all_small ts) h in
      and_true (readable_at alone n (as_written u t)) (others_readable q n (all_as_written u ts))
      (few_brackets_readable t alone n u l b.0 (omega arith))
      (others_are_readable ts q n u l b.1 (omega arith))

  others_are_readable : (ts : Terms) (q : Spot) (n : ℕ) (u : List ℕ) → length u < 2 ^ 64 → all_small ts ≡ true
      → others_nesting q (all_as_written u ts) ≤ n → others_readable q n (all_as_written u ts) ≡ true
  others_are_readable nil q n u l h k = refl
  others_are_readable (cons t ts) q n u l h k =
      let b = and_parts (integers_small t) (all_small ts) h in
      and_true (readable_at q n (as_written u t)) (others_readable q n (all_as_written u ts))
      (few_brackets_readable t q n u l b.0 (omega arith))
      (others_are_readable ts q n u l b.1 (omega arith))
