-- Written names, variables and integers are read as themselves where a term must begin.
use Rattle.std.proofs.Common.{◌≡◌, ℕ, Bool, true, false, cond, not, ◌&&◌, ◌||◌, eqb, List, [], ◌∷◌, ◌++◌, Some, None}
use Rattle.std.proofs.Common.{codes, sym, refl, ap, ◌∙◌, subst, append_assoc, arith, eqb-true}
use mathlib.Core.Bool.{and-false}
use Rattle.std.proofs.lemmas.Bool.Decides.{nat_tests}
use Rattle.tokens.specs.declared.kind.Kind.TheVariants.{Small, Capital, Digit, Symbol}
use Rattle.tokens.specs.Bytes.{small, capital, digit, symbol, word, quote, space, class, same}
use Rattle.tokens.specs.Token.{name, variable, integer, neck, small_run, capital_run, digits, symbols, inside, closed}
use Rattle.tokens.specs.Token.{Edge, start_as, advance, ended, neck_bytes, minus_bytes}
use Rattle.grammar.specs.Written.{var, int}
use Rattle.grammar.specs.Machine.{within, edge}
use Rattle.grammar.specs.Sentences.{operand, named, after, Context}
use Rattle.writing.specs.Writing.{all, bare, doubled, name_text}
use Rattle.writing.specs.ReadBack.{is_variable, is_digits, is_integer}
use Rattle.writing.proofs.WholeTokens.{from, reading, false_true, and_both, goes_on, begins_on, ends_before, single_on}
use Rattle.writing.proofs.WholeTokens.{run_on, quoted_on}

-- a byte that ends every name, variable and integer before it
abbrev pub cuts : ℕ → Bool
cuts c = not (word c) && not (digit c) && not (symbol c) && not (quote c)

record Ends (c : ℕ) : Type 0 where
  no_word : word c ≡ false
  no_digit : digit c ≡ false
  no_symbol : symbol c ≡ false
  no_quote : quote c ≡ false

not_true : (b : Bool) → not b ≡ true → b ≡ false
not_true true h = sym h
not_true false h = refl

ends : (c : ℕ) → cuts c ≡ true → Ends c
ends c h =
    let q = and_both (not (word c) && not (digit c) && not (symbol c)) (not (quote c)) h in
    let y = and_both (not (word c) && not (digit c)) (not (symbol c)) q.0 in
    let d = and_both (not (word c)) (not (digit c)) y.0 in
    record {
      no_word = not_true (word c) d.0;
      no_digit = not_true (digit c) d.1;
      no_symbol = not_true (symbol c) y.1;
      no_quote = not_true (quote c) q.1;
    }

-- which token a first byte begins
pub or_either : {A : Type 0} (a b : Bool) → a || b ≡ true → (a ≡ true → A) → (b ≡ true → A) → A
or_either true b h f g = f refl
or_either false b h f g = g h

small_begins : (c : ℕ) → small c ≡ true → (class c ≡ Small) × (space c ≡ false)
small_begins c h = (rw h, grind (arith, nat_tests))

capital_begins : (c : ℕ) → capital c ≡ true → (class c ≡ Capital) × (space c ≡ false)
capital_begins c h = let k : small c ≡ false = grind (arith, nat_tests) in (rw (k, h), grind (arith, nat_tests))

digit_begins : (c : ℕ) → digit c ≡ true → (class c ≡ Digit) × (space c ≡ false)
digit_begins c h =
    let k : small c ≡ false = grind (arith, nat_tests) in
    let j : capital c ≡ false = grind (arith, nat_tests) in
    (rw (k, j, h), grind (arith, nat_tests))

symbol_begins : (c : ℕ) → symbol c ≡ true → (class c ≡ Symbol) × (space c ≡ false)
symbol_begins c h =
    let k : small c ≡ false = grind (arith, nat_tests) in
    let j : capital c ≡ false = grind (arith, nat_tests) in
    let i : digit c ≡ false = grind (arith, nat_tests) in
    (rw (k, j, i, h), grind (arith, nat_tests))

digit_no_symbol : (c : ℕ) → digit c ≡ true → symbol c ≡ false
digit_no_symbol c h = grind (arith, nat_tests)

pub same_sound : (xs ys : List ℕ) → same xs ys ≡ true → xs ≡ ys
same_sound [] [] h = refl
same_sound [] (y ∷ ys) h = false_true h
same_sound (x ∷ xs) [] h = false_true h
same_sound (x ∷ xs) (y ∷ ys) h =
    let b = and_both (eqb x y) (same xs ys) h in
    ap (λ z. z ∷ xs) (eqb-true x y b.0) ∙ ap (λ l. y ∷ l) (same_sound xs ys b.1)

-- a run behind its first byte
module _ (c : ℕ) (r : List ℕ) (n : ℕ) (x : Context) (z : cuts c ≡ true) where
  small_run_on : (d : ℕ) (s : List ℕ) → all word s ≡ true
      → reading (s ++ c ∷ r) (within (small_run (d ∷ []))) (operand n x) ≡ from (named (d ∷ s) n x) (c ∷ r)
  small_run_on d s h =
      run_on small_run word (operand n x) (λ bs b e. ap (λ t. cond t (Some (small_run (bs ++ b ∷ []))) None) e)
      (λ bs. refl) s (d ∷ []) (c ∷ r) h
      ∙ ends_before (small_run (d ∷ s)) (name (d ∷ s)) (operand n x) (named (d ∷ s) n x) c r
      (ap (λ t. cond t (Some (small_run (d ∷ s ++ c ∷ []))) None) (ends c z).no_word) refl refl

  capital_run_on : (d : ℕ) (s : List ℕ) → all word s ≡ true
      → reading (s ++ c ∷ r) (within (capital_run (d ∷ []))) (operand n x) ≡ from (after (var (d ∷ s)) n x) (c ∷ r)
  capital_run_on d s h =
      run_on capital_run word (operand n x) (λ bs b e. ap (λ t. cond t (Some (capital_run (bs ++ b ∷ []))) None) e)
      (λ bs. refl) s (d ∷ []) (c ∷ r) h
      ∙ ends_before (capital_run (d ∷ s)) (variable (d ∷ s)) (operand n x) (after (var (d ∷ s)) n x) c r
      (ap (λ t. cond t (Some (capital_run (d ∷ s ++ c ∷ []))) None) (ends c z).no_word) refl refl

  digits_on : (bs s : List ℕ) → all digit s ≡ true
      → reading (s ++ c ∷ r) (within (digits bs)) (operand n x) ≡ from (after (int (bs ++ s)) n x) (c ∷ r)
  digits_on bs s h =
      run_on digits digit (operand n x) (λ bs b e. ap (λ t. cond t (Some (digits (bs ++ b ∷ []))) None) e)
      (λ bs. refl) s bs (c ∷ r) h
      ∙ ends_before (digits (bs ++ s)) (integer (bs ++ s)) (operand n x) (after (int (bs ++ s)) n x) c r
      (ap (λ t. cond t (Some (digits (bs ++ s ++ c ∷ []))) None) (ends c z).no_digit) refl refl

  symbols_end : (bs : List ℕ) → advance (symbols bs) c ≡ None
  symbols_end bs =
      ap (λ t. cond t (Some (symbols (bs ++ c ∷ [])))
      (cond (same bs minus_bytes && digit c) (Some (digits (bs ++ c ∷ []))) None)) (ends c z).no_symbol
      ∙ ap (λ t. cond (same bs minus_bytes && t) (Some (digits (bs ++ c ∷ []))) None) (ends c z).no_digit
      ∙ ap (λ t. cond t (Some (digits (bs ++ c ∷ []))) None) (and-false (same bs minus_bytes))

  a_name_run : (bs : List ℕ) → not (same bs neck_bytes) ≡ true → ended (symbols bs) ≡ Some (name bs)
  a_name_run bs h = go (same bs neck_bytes) h
    where
      go : (b : Bool) → not b ≡ true → Some (cond b neck (name bs)) ≡ Some (name bs)
      go true h = false_true h
      go false h = refl

  symbols_on : (d : ℕ) (s : List ℕ) → all symbol s ≡ true → not (same (d ∷ s) neck_bytes) ≡ true
      → reading (s ++ c ∷ r) (within (symbols (d ∷ []))) (operand n x) ≡ from (named (d ∷ s) n x) (c ∷ r)
  symbols_on d s h k =
      run_on symbols symbol (operand n x)
      (λ bs b e. ap (λ t. cond t (Some (symbols (bs ++ b ∷ [])))
      (cond (same bs minus_bytes && digit b) (Some (digits (bs ++ b ∷ []))) None)) e) (λ bs. refl) s (d ∷ [])
      (c ∷ r) h
      ∙ ends_before (symbols (d ∷ s)) (name (d ∷ s)) (operand n x) (named (d ∷ s) n x) c r (symbols_end (d ∷ s))
      (a_name_run (d ∷ s) k) refl

  -- a name, written
  pub bare_on : (e : Edge) (a : List ℕ) → bare a ≡ true
      → reading (a ++ c ∷ r) (edge e) (operand n x) ≡ from (named a n x) (c ∷ r)
  bare_on e [] h = false_true h
  bare_on e (d ∷ s) h =
      or_either _ (same (d ∷ s) (codes "!")) h
      (λ h. or_either _ (same (d ∷ s) (codes ";")) h
      (λ h. or_either (small d && all word s) (all symbol (d ∷ s) && not (same (d ∷ s) neck_bytes)) h a_word a_symbol)
      (λ h. solo 59 (same_sound (d ∷ s) (codes ";") h)
      (single_on (c ∷ r) (name (codes ";")) (operand n x) (named (codes ";") n x) refl)))
      (λ h. solo 33 (same_sound (d ∷ s) (codes "!") h)
      (single_on (c ∷ r) (name (codes "!")) (operand n x) (named (codes "!") n x) refl))
    where
      a_word : small d && all word s ≡ true
          → reading (d ∷ s ++ c ∷ r) (edge e) (operand n x) ≡ from (named (d ∷ s) n x) (c ∷ r)
      a_word h =
          let b = and_both (small d) (all word s) h in
          let k = small_begins d b.0 in
          begins_on e (small_run (d ∷ [])) (operand n x) d (s ++ c ∷ r) k.1 (ap (λ j. start_as j e d) k.0) refl
          ∙ small_run_on d s b.1

      a_symbol : all symbol (d ∷ s) && not (same (d ∷ s) neck_bytes) ≡ true
          → reading (d ∷ s ++ c ∷ r) (edge e) (operand n x) ≡ from (named (d ∷ s) n x) (c ∷ r)
      a_symbol h =
          let b = and_both (all symbol (d ∷ s)) (not (same (d ∷ s) neck_bytes)) h in
          let f = and_both (symbol d) (all symbol s) b.0 in
          let k = symbol_begins d f.0 in
          begins_on e (symbols (d ∷ [])) (operand n x) d (s ++ c ∷ r) k.1 (ap (λ j. start_as j e d) k.0) refl
          ∙ symbols_on d s f.1 b.1

      solo : (b : ℕ) → d ∷ s ≡ b ∷ [] → reading (b ∷ c ∷ r) (edge e) (operand n x) ≡ from (named (b ∷ []) n x) (c ∷ r)
          → reading (d ∷ s ++ c ∷ r) (edge e) (operand n x) ≡ from (named (d ∷ s) n x) (c ∷ r)
      solo b h k =
          subst (λ (l : List ℕ). reading (l ++ c ∷ r) (edge e) (operand n x) ≡ from (named l n x) (c ∷ r)) (sym h) k

  pub name_on : (e : Edge) (a : List ℕ)
      → reading (name_text a ++ c ∷ r) (edge e) (operand n x) ≡ from (named a n x) (c ∷ r)
  name_on e a = go (bare a) refl
    where
      go : (b : Bool) → bare a ≡ b
          → reading (cond b a (39 ∷ doubled a ++ 39 ∷ []) ++ c ∷ r) (edge e) (operand n x)
          ≡ from (named a n x) (c ∷ r)
      go true h = bare_on e a h
      go false h =
          ap (λ l. reading (39 ∷ l) (edge e) (operand n x)) (append_assoc (doubled a) (39 ∷ []) (c ∷ r))
          ∙ quoted_on a [] (c ∷ r) n x
          ∙ ends_before (closed a) (name a) (operand n x) (named a n x) c r
          (ap (λ t. cond t (Some (inside (a ++ c ∷ []))) None) (ends c z).no_quote) refl refl

  pub variable_on : (e : Edge) (a : List ℕ) → is_variable a ≡ true
      → reading (a ++ c ∷ r) (edge e) (operand n x) ≡ from (after (var a) n x) (c ∷ r)
  variable_on e [] h = false_true h
  variable_on e (d ∷ s) h =
      let b = and_both (capital d) (all word s) h in
      let k = capital_begins d b.0 in
      begins_on e (capital_run (d ∷ [])) (operand n x) d (s ++ c ∷ r) k.1 (ap (λ j. start_as j e d) k.0) refl
      ∙ capital_run_on d s b.1

  signed_on : (e : Edge) (s : List ℕ) → is_digits s ≡ true
      → reading (45 ∷ s ++ c ∷ r) (edge e) (operand n x) ≡ from (after (int (45 ∷ s)) n x) (c ∷ r)
  signed_on e [] h = false_true h
  signed_on e (d ∷ s) h =
      let b = and_both (digit d) (all digit s) h in
      goes_on (symbols minus_bytes) (digits (45 ∷ d ∷ [])) (operand n x) d (s ++ c ∷ r)
      (ap (λ t. cond t (Some (symbols (45 ∷ d ∷ []))) (cond (digit d) (Some (digits (45 ∷ d ∷ []))) None))
      (digit_no_symbol d b.0) ∙ ap (λ t. cond t (Some (digits (45 ∷ d ∷ []))) None) b.0) refl
      ∙ digits_on (45 ∷ d ∷ []) s b.1

  pub integer_on : (e : Edge) (a : List ℕ) → is_integer a ≡ true
      → reading (a ++ c ∷ r) (edge e) (operand n x) ≡ from (after (int a) n x) (c ∷ r)
  integer_on e [] h = false_true h
  integer_on e (d ∷ s) h = or_either (is_digits (d ∷ s)) (eqb d 45 && is_digits s) h unsigned signed
    where
      unsigned : is_digits (d ∷ s) ≡ true
          → reading (d ∷ s ++ c ∷ r) (edge e) (operand n x) ≡ from (after (int (d ∷ s)) n x) (c ∷ r)
      unsigned h =
          let b = and_both (digit d) (all digit s) h in
          let k = digit_begins d b.0 in
          begins_on e (digits (d ∷ [])) (operand n x) d (s ++ c ∷ r) k.1 (ap (λ j. start_as j e d) k.0) refl
          ∙ digits_on (d ∷ []) s b.1

      signed : eqb d 45 && is_digits s ≡ true
          → reading (d ∷ s ++ c ∷ r) (edge e) (operand n x) ≡ from (after (int (d ∷ s)) n x) (c ∷ r)
      signed h =
          let b = and_both (eqb d 45) (is_digits s) h in
          let f : d ≡ 45 = eqb-true d 45 b.0 in
          rw f (signed_on e s b.1)
