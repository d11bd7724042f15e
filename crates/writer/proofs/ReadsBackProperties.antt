-- Every term is shown with variables and integers that read as such, so that only its brackets count.
use Rattle.std.proofs.Common.{◌≡◌, ℕ, zero, suc, ◌+◌, ◌/◌, ◌%◌, ◌<◌, ◌≤◌, Bool, true, false, cond, ◌&&◌, ◌||◌, eqb, leb}
use Rattle.std.proofs.Common.{List, [], ◌∷◌, ◌++◌, ℤ, pos, negsuc, codes, refl, ap, ◌∙◌, arith}
use Rattle.std.specs.Fmt as std
use Rattle.std.proofs.lemmas.Bool.{and_from, and_parts, or_left, or_right, le-leb, lt-ltb}
use Rattle.tokens.specs.Bytes.{small, capital, digit, word}
use Rattle.terms.specs.Term.{Term, Terms, var, int, app, nil, cons}
use Rattle.grammar.specs.Written.{Writtens}
use Rattle.writing.specs.Writing.{all, Spot, alone, form, others}
use Rattle.writing.specs.ReadBack.{is_variable, is_digits, is_integer, opens, room, inside, readable_at}
use Rattle.writing.specs.ReadBack.{arguments_readable, others_readable}
use Rattle.writing.proofs.ReadBackProperties.{query_reads_back, fact_reads_back, rule_reads_back}
use Rattle.grammar.specs.Grammar.{brackets, a_rule}
use Rattle.grammar.specs.Theorem.{judged}
use Rattle.writer.specs.Shown.{decimal, integer_text, variable_text, place_in, firsts, as_written, all_as_written}
use Rattle.writer.specs.Shown.{shown}
use Rattle.writer.proofs.ShownProperties.{shown_before}
use Rattle.writer.specs.ReadsBack.{depth_at, arguments_depth, others_depth, rule_seen, QueryReadsBack, FactReadsBack}
use Rattle.writer.specs.ReadsBack.{RuleReadsBack}

digit_glyph : (d : ℕ) → d < 10 → digit (std.digit_glyph false d) ≡ true
digit_glyph d l =
    ap (λ b. digit (cond b (48 + d) (87 + d))) (lt-ltb d 10 l)
    ∙ and_from (leb 48 (48 + d)) (leb (48 + d) 57) (le-leb 48 (48 + d) (omega arith)) (le-leb (48 + d) 57 (omega arith))

digits_spelled : (k n x : ℕ) (s : List ℕ) → is_digits (x ∷ s) ≡ true → is_digits (std.digits_onto k 10 false n (x ∷ s)) ≡ true
digits_spelled zero n x s h = h
digits_spelled (suc k) n x s h =
    go (eqb (n / 10) 0) (digits_spelled k (n / 10) (std.digit_glyph false (n % 10)) (x ∷ s) here)
  where
    here : is_digits (std.digit_glyph false (n % 10) ∷ x ∷ s) ≡ true
    here = and_from (digit (std.digit_glyph false (n % 10))) (all digit (x ∷ s)) (digit_glyph (n % 10) (omega arith)) h

    go : (b : Bool) → is_digits (std.digits_onto k 10 false (n / 10) (std.digit_glyph false (n % 10) ∷ x ∷ s)) ≡ true
        → is_digits (cond b (std.digit_glyph false (n % 10) ∷ x ∷ s)
        (std.digits_onto k 10 false (n / 10) (std.digit_glyph false (n % 10) ∷ x ∷ s))) ≡ true
    go true rest = here
    go false rest = rest

digits_from : (k n : ℕ) → is_digits (std.digits_onto (suc k) 10 false n []) ≡ true
digits_from k n = go (eqb (n / 10) 0) (digits_spelled k (n / 10) (std.digit_glyph false (n % 10)) [] here)
  where
    here : is_digits (std.digit_glyph false (n % 10) ∷ []) ≡ true
    here = and_from (digit (std.digit_glyph false (n % 10))) true (digit_glyph (n % 10) (omega arith)) refl

    go : (b : Bool) → is_digits (std.digits_onto k 10 false (n / 10) (std.digit_glyph false (n % 10) ∷ [])) ≡ true
        → is_digits (cond b (std.digit_glyph false (n % 10) ∷ [])
        (std.digits_onto k 10 false (n / 10) (std.digit_glyph false (n % 10) ∷ []))) ≡ true
    go true rest = here
    go false rest = rest

pub digits_decimal : (n : ℕ) → is_digits (decimal n) ≡ true
unfolding std.digits
digits_decimal n = digits_from 63 n

all_word : (s : List ℕ) → all digit s ≡ true → all word s ≡ true
all_word [] h = refl
all_word (c ∷ s) h =
    let two = and_parts (digit c) (all digit s) h in
    and_from (word c) (all word s) (or_right (small c || capital c) (digit c) two.0) (all_word s two.1)

all_digit : (s : List ℕ) → is_digits s ≡ true → all digit s ≡ true
all_digit [] h = refl
all_digit (c ∷ s) h = h

integer_digits : (s : List ℕ) → is_digits s ≡ true → is_integer s ≡ true
integer_digits [] h = h
integer_digits (c ∷ s) h = or_left (is_digits (c ∷ s)) (eqb c 45 && is_digits s) h

pub variable_shown : (seen : List ℕ) (v : ℕ) → is_variable (variable_text seen v) ≡ true
variable_shown seen v =
    all_word (decimal (place_in seen v)) (all_digit (decimal (place_in seen v)) (digits_decimal (place_in seen v)))

pub integer_shown : (i : ℤ) → is_integer (integer_text i) ≡ true
integer_shown (pos n) = integer_digits (decimal n) (digits_decimal n)
integer_shown (negsuc n) = or_right (is_digits (45 ∷ decimal (suc n))) (is_digits (decimal (suc n))) (digits_decimal (suc n))

-- an application, by whether it opens a bracket
opened : (b : Bool) (n : ℕ) (q : Spot) (ws : Writtens) → cond b 1 0 + arguments_depth q ws ≤ n
    → ((m : ℕ) → arguments_depth q ws ≤ m → arguments_readable q m ws ≡ true)
    → (room b n && arguments_readable q (inside b n) ws) ≡ true
opened false n q ws l read = read n (omega arith)
opened true zero q ws l read = absurd (omega arith)
opened true (suc n) q ws l read = read n (omega arith)

mutual
  readable_shown : (seen : List ℕ) (t : Term) (p : Spot) (n : ℕ) → depth_at p (as_written seen t) ≤ n
      → readable_at p n (as_written seen t) ≡ true
  readable_shown seen (var v) p n l = variable_shown seen v
  readable_shown seen (int i) p n l = integer_shown i
  readable_shown seen (app f ts) p n l =
      opened (opens p (form f (all_as_written seen ts))) n (others (form f (all_as_written seen ts))) (all_as_written seen ts)
      l (arguments_shown seen ts (others (form f (all_as_written seen ts))))

  arguments_shown : (seen : List ℕ) (ts : Terms) (q : Spot) (n : ℕ) → arguments_depth q (all_as_written seen ts) ≤ n
      → arguments_readable q n (all_as_written seen ts) ≡ true
  arguments_shown seen nil q n l = refl
  arguments_shown seen (cons t ts) q n l =
      and_from (readable_at alone n (as_written seen t)) (others_readable q n (all_as_written seen ts))
      (readable_shown seen t alone n (omega arith)) (others_shown seen ts q n (omega arith))

  others_shown : (seen : List ℕ) (ts : Terms) (q : Spot) (n : ℕ) → others_depth q (all_as_written seen ts) ≤ n
      → others_readable q n (all_as_written seen ts) ≡ true
  others_shown seen nil q n l = refl
  others_shown seen (cons t ts) q n l =
      and_from (readable_at q n (as_written seen t)) (others_readable q n (all_as_written seen ts))
      (readable_shown seen t q n (omega arith)) (others_shown seen ts q n (omega arith))

pub query_shown : QueryReadsBack
query_shown t l = query_reads_back (as_written (firsts [] t) t) (readable_shown (firsts [] t) t alone brackets l)

pub fact_shown : FactReadsBack
fact_shown h l = fact_reads_back (as_written (firsts [] h) h) (readable_shown (firsts [] h) h alone brackets l)

pub rule_shown : RuleReadsBack
rule_shown h b k l =
    let seen = rule_seen h b in
    ap (λ s. judged a_rule (s ++ codes " :- " ++ shown (firsts [] h) b ++ codes ".")) (shown_before [] h b)
    ∙ rule_reads_back (as_written seen h) (as_written seen b) (readable_shown seen h alone brackets k)
    (readable_shown seen b alone brackets l)
