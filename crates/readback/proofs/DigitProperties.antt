-- Digits: what is written of a number is digits, and they have its value.
use Rattle.std.proofs.Common.{◌≡◌, ℕ, suc, ◌^◌, ◌<◌, Bool, true, false, cond, ◌&&◌, ◌||◌, eqb, ltb, leb, List, [], ◌∷◌}
use Rattle.std.proofs.Common.{length, ℤ, pos, negsuc, Some, None, refl, ap, ◌∙◌, arith}
use Rattle.std.proofs.lemmas.Str.Parse.{IsNumeralModel, IsDigitsTest, numerals_by_fold}
use Rattle.std.proofs.lemmas.Fmt.{decimal_nonempty, digits_decimal, digits_value-decimal}
use Rattle.std.proofs.lemmas.Bool.{and_parts, leb-true, le-leb, lt-ltb, ltb-true, ne_eqb}
use Rattle.tokens.specs.Bytes.{digit, word, small, capital}
use Rattle.writing.specs.Writing.{all}
use Rattle.writing.specs.ReadBack.{is_variable, is_digits, is_integer}
use Rattle.text.specs.Integers.{magnitude_from, negative, integer_of, fits_integer}
use Rattle.writer.specs.Shown.{decimal, integer_text, place_in, variable_text}
use Rattle.readback.specs.ReadBack.{small_integer, IntegerReadsBack}

own : IsNumeralModel (λ ds. all digit ds ≡ true) (magnitude_from 0)
own =
    numerals_by_fold (λ ds. all digit ds ≡ true) tells magnitude_from
    (record { empty = λ n. refl; more = λ n c cs k. refl })
  where
    tells : IsDigitsTest (λ ds. all digit ds ≡ true)
    tells = record {
      empty = refl;
      parts = λ c cs e.
          let k = and_parts (digit c) (all digit cs) e in
          let m = and_parts (leb 48 c) (leb c 57) k.0 in
          ((leb-true 48 c m.0, leb-true c 57 m.1), k.1);
      more = λ c cs k e i. (le-leb 48 c k.0 i && le-leb c 57 k.1 i) && e i;
    }

decimal_all_digits : (n : ℕ) → n < 2 ^ 64 → all digit (decimal n) ≡ true
decimal_all_digits n h = digits_decimal own n h

pub decimal_magnitude : (n : ℕ) → n < 2 ^ 64 → magnitude_from 0 (decimal n) ≡ n
decimal_magnitude n h = digits_value-decimal own n h

pub decimal_is_digits : (n : ℕ) → n < 2 ^ 64 → is_digits (decimal n) ≡ true
decimal_is_digits n h = go (decimal n) (decimal_nonempty n h) (decimal_all_digits n h)
  where
    go : (ds : List ℕ) → 0 < length ds → all digit ds ≡ true → is_digits ds ≡ true
    go [] l e = absurd (omega arith)
    go (c ∷ cs) l e = e

digits_are_words : (s : List ℕ) → all digit s ≡ true → all word s ≡ true
digits_are_words [] h = refl
digits_are_words (c ∷ s) h =
    let k = and_parts (digit c) (all digit s) h in
    both k.0 (digits_are_words s k.1)
  where
    or_true : (a : Bool) → (a || true) ≡ true
    or_true true = refl
    or_true false = refl

    both : digit c ≡ true → all word s ≡ true → (word c && all word s) ≡ true
    both d w = (λ i. ((small c || capital c) || d i) && w i) ∙ ap (λ b. b && true) (or_true (small c || capital c))

pub variable_text_is_variable : (s : List ℕ) (v : ℕ) → place_in s v < 2 ^ 64 → is_variable (variable_text s v) ≡ true
variable_text_is_variable s v h = digits_are_words (decimal (place_in s v)) (decimal_all_digits (place_in s v) h)

-- digits without a sign
digits_integer : (ds : List ℕ) → is_digits ds ≡ true → is_integer ds ≡ true
digits_integer [] h = h
digits_integer (c ∷ s) h = ap (λ b. b || (eqb c 45 && is_digits s)) h

first_no_minus : (c : ℕ) → digit c ≡ true → eqb c 45 ≡ false
first_no_minus c h =
    let k = leb-true 48 c (and_parts (leb 48 c) (leb c 57) h).0 in
    ne_eqb c 45 (λ e. omega arith)

digits_integer_of : (ds : List ℕ) → is_digits ds ≡ true → integer_of ds ≡ pos (magnitude_from 0 ds)
digits_integer_of [] h = refl
digits_integer_of (c ∷ s) h =
    ap (λ b. cond b (negative (magnitude_from 0 s)) (pos (magnitude_from 0 (c ∷ s))))
    (first_no_minus c (and_parts (digit c) (all digit s) h).0)

digits_fit : (ds : List ℕ) → is_digits ds ≡ true → magnitude_from 0 ds < 2147483648 → fits_integer ds ≡ true
digits_fit [] h l = refl
digits_fit (c ∷ s) h l =
    ap (λ b. cond b (leb (magnitude_from 0 s) 2147483648) (ltb (magnitude_from 0 (c ∷ s)) 2147483648))
    (first_no_minus c (and_parts (digit c) (all digit s) h).0)
    ∙ lt-ltb (magnitude_from 0 (c ∷ s)) 2147483648 l

minus_is_integer : (s : List ℕ) → is_digits s ≡ true → is_integer (45 ∷ s) ≡ true
minus_is_integer s h = h

pub integer_text_is_integer : (i : ℤ) → small_integer i ≡ true → is_integer (integer_text i) ≡ true
integer_text_is_integer (pos n) h =
    digits_integer (decimal n) (decimal_is_digits n (omega (arith, ltb-true n 2147483648 h)))
integer_text_is_integer (negsuc n) h =
    minus_is_integer (decimal (suc n)) (decimal_is_digits (suc n) (omega (arith, ltb-true n 2147483648 h)))

pub integer_text_value : (i : ℤ) → small_integer i ≡ true → integer_of (integer_text i) ≡ i
integer_text_value (pos n) h =
    let l : n < 2 ^ 64 = omega (arith, ltb-true n 2147483648 h) in
    digits_integer_of (decimal n) (decimal_is_digits n l) ∙ ap pos (decimal_magnitude n l)
integer_text_value (negsuc n) h =
    ap negative (decimal_magnitude (suc n) (omega (arith, ltb-true n 2147483648 h)))

integer_text_fits : (i : ℤ) → small_integer i ≡ true → fits_integer (integer_text i) ≡ true
integer_text_fits (pos n) h =
    let k = ltb-true n 2147483648 h in
    digits_fit (decimal n) (decimal_is_digits n (omega arith)) (omega (arith, decimal_magnitude n (omega arith)))
integer_text_fits (negsuc n) h =
    let k = ltb-true n 2147483648 h in
    le-leb (magnitude_from 0 (decimal (suc n))) 2147483648 (omega (arith, decimal_magnitude (suc n) (omega arith)))

pub integer_reads_back : IntegerReadsBack
integer_reads_back i h =
    ap (λ b. cond b (Some (integer_of (integer_text i))) None) (integer_text_fits i h)
    ∙ ap Some (integer_text_value i h)
