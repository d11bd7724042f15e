-- What the definition of tokens finds at a place of a line: runs, signs and quoted names at once.
use Rattle.std.proofs.Common.{◌≡◌, ℕ, suc, ◌+◌, ◌-◌, ◌<◌, ◌≤◌, Bool, true, false, cond, ◌&&◌, List, [], ◌∷◌, ◌++◌}
use Rattle.std.proofs.Common.{length, get_or, take, drop, Some, None, sym, refl, ap, ◌∙◌, append_assoc, append-nil}
use Rattle.std.proofs.Common.{arith, length-drop, drop-drop}
use Rattle.std.proofs.Math.Bool.{and-false}
use Rattle.std.proofs.Math.Seq.{take-add}
use Rattle.std.proofs.lemmas.List.Sums.{prefix_len-le-length}
use Rattle.std.specs.List.{prefix_len}
use Rattle.tokens.specs.declared.kind.Kind.{Kind}
use Rattle.tokens.specs.declared.kind.Kind.TheVariants.{Space}
use Rattle.tokens.specs.Bytes.{past, longest, same, word, digit, symbol, space}
use Rattle.tokens.specs.Token.{Token, name, variable, integer, run, Part, small_run, capital_run, digits, symbols}
use Rattle.tokens.specs.Token.{single, Edge, start_as, advance, ended, Scan, nothing, got, scanned, or_else, scan_from}
use Rattle.tokens.specs.Token.{scan, minus_bytes}
use Rattle.tokens.specs.Scanning.{head_kind, digit_at}
use Rattle.tokens.proofs.BytesProperties.{drop_here, head_here, space_by_kind, past_by_drop, false_true}

-- a token by the kind of its first byte
pub scan_by_kind : (s : List ℕ) (i : ℕ) (e : Edge) (k : Kind) → i < length s → head_kind (drop i s) ≡ k
    → scan e (drop i s) ≡ or_else (start_as k e (get_or s i 0)) nothing (λ q. scan_from q (drop (i + 1) s))
scan_by_kind s i e k h g =
    ap (scan e) (drop_here s i h)
    ∙ ap (λ k. or_else (start_as k e (get_or s i 0)) nothing (λ q. scan_from q (drop (i + 1) s)))
    (sym (head_here s i h) ∙ g)

-- a token of one byte
pub scan_single : (t : Token) (s : List ℕ) → scan_from (single t) s ≡ got t s
scan_single t [] = refl
scan_single t (c ∷ s) = refl

-- a run of bytes that pass one test
module _ (f : ℕ → Bool) (shape : List ℕ → Part) (made : List ℕ → Token)
    (goes : (bs : List ℕ) (c : ℕ) → advance (shape bs) c ≡ cond (f c) (Some (shape (bs ++ c ∷ []))) None)
    (stops : (bs : List ℕ) → ended (shape bs) ≡ Some (made bs)) where
  pub scan_run : (s bs : List ℕ) → scan_from (shape bs) s ≡ got (made (bs ++ longest f s)) (past f s)
  scan_run [] bs = ap (λ m. scanned m []) (stops bs) ∙ ap (λ l. got (made l) []) (sym (append-nil bs))
  scan_run (c ∷ s) bs =
      ap (λ m. or_else m (scanned (ended (shape bs)) (c ∷ s)) (λ q. scan_from q s)) (goes bs c)
      ∙ elim (f c) as (λ b. or_else (cond b (Some (shape (bs ++ c ∷ []))) None) (scanned (ended (shape bs)) (c ∷ s))
      (λ q. scan_from q s)
      ≡ got (made (bs ++ cond b (c ∷ longest f s) [])) (cond b (past f s) (c ∷ s))) [
        | true ↦ scan_run s (bs ++ c ∷ []) ∙ ap (λ l. got (made l) (past f s)) (append_assoc bs (c ∷ []) (longest f s))
        | false ↦ ap (λ m. scanned m (c ∷ s)) (stops bs) ∙ ap (λ l. got (made l) (c ∷ s)) (sym (append-nil bs))
      ]

pub scan_small : (s bs : List ℕ) → scan_from (small_run bs) s ≡ got (name (bs ++ longest word s)) (past word s)
scan_small = scan_run word small_run name (λ bs c. refl) (λ bs. refl)

pub scan_capital : (s bs : List ℕ) → scan_from (capital_run bs) s ≡ got (variable (bs ++ longest word s)) (past word s)
scan_capital = scan_run word capital_run variable (λ bs c. refl) (λ bs. refl)

pub scan_digits : (s bs : List ℕ) → scan_from (digits bs) s ≡ got (integer (bs ++ longest digit s)) (past digit s)
scan_digits = scan_run digit digits integer (λ bs c. refl) (λ bs. refl)

-- a run of symbols: a sign if it is a lone `-` directly before a digit
abbrev pub symbols_before : List ℕ → List ℕ → Scan
symbols_before bs r =
    cond (same bs minus_bytes && digit_at r) (got (integer (bs ++ longest digit r)) (past digit r)) (got (run bs) r)

and_both : (a b : Bool) → a && b ≡ true → (a ≡ true) × (b ≡ true)
and_both true b h = (refl, h)
and_both false b h = false_true h

signed : (c : ℕ) (s bs : List ℕ) → digit c ≡ true
    → scan_from (digits (bs ++ c ∷ [])) s ≡ got (integer (bs ++ longest digit (c ∷ s))) (past digit (c ∷ s))
signed c s bs h =
    scan_digits s (bs ++ c ∷ [])
    ∙ ap (λ l. got (integer l) (past digit s)) (append_assoc bs (c ∷ []) (longest digit s))
    ∙ sym (ap (λ b. got (integer (bs ++ cond b (c ∷ longest digit s) [])) (cond b (past digit s) (c ∷ s))) h)

stops_at : (c : ℕ) (s bs : List ℕ)
    → or_else (cond (same bs minus_bytes && digit c) (Some (digits (bs ++ c ∷ []))) None) (got (run bs) (c ∷ s))
    (λ q. scan_from q s)
    ≡ symbols_before bs (c ∷ s)
stops_at c s bs = go (same bs minus_bytes && digit c) refl
  where
    go : (b : Bool) → (same bs minus_bytes && digit c) ≡ b
        → or_else (cond b (Some (digits (bs ++ c ∷ []))) None) (got (run bs) (c ∷ s)) (λ q. scan_from q s)
        ≡ cond b (got (integer (bs ++ longest digit (c ∷ s))) (past digit (c ∷ s))) (got (run bs) (c ∷ s))
    go true e = signed c s bs (and_both _ _ e).1
    go false e = refl

pub scan_symbols : (s bs : List ℕ) → scan_from (symbols bs) s ≡ symbols_before (bs ++ longest symbol s) (past symbol s)
scan_symbols [] bs =
    sym (ap (λ b. cond b (got (integer ((bs ++ []) ++ [])) []) (got (run (bs ++ [])) []))
    (and-false (same (bs ++ []) minus_bytes))
    ∙ ap (λ l. got (run l) []) (append-nil bs))
scan_symbols (c ∷ s) bs =
    elim (symbol c) as (λ b. or_else (cond b (Some (symbols (bs ++ c ∷ [])))
    (cond (same bs minus_bytes && digit c) (Some (digits (bs ++ c ∷ []))) None)) (got (run bs) (c ∷ s))
    (λ q. scan_from q s)
    ≡ symbols_before (bs ++ cond b (c ∷ longest symbol s) []) (cond b (past symbol s) (c ∷ s))) [
      | true ↦
          scan_symbols s (bs ++ c ∷ [])
          ∙ ap (λ l. symbols_before l (past symbol s)) (append_assoc bs (c ∷ []) (longest symbol s))
      | false ↦ stops_at c s bs ∙ ap (λ l. symbols_before l (c ∷ s)) (sym (append-nil bs))
    ]

-- behind a run stands no byte of it
past_the_run : (f : ℕ → Bool) (s r : List ℕ) (c : ℕ) → past f s ≡ c ∷ r → f c ≡ false
past_the_run f [] r c h = let z : ◌≡◌ {A = ℕ} 0 1 = cc in absurd (omega arith)
past_the_run f (d ∷ s) r c h = go (f d) refl h (λ g. past_the_run f s r c g)
  where
    go : (b : Bool) → f d ≡ b → cond b (past f s) (d ∷ s) ≡ c ∷ r → (past f s ≡ c ∷ r → f c ≡ false) → f c ≡ false
    go true e g ih = ih g
    go false e g ih = let z : d ≡ c = cc in ap f (sym z) ∙ e

-- and behind the spaces none of the kind of spaces
pub no_space_behind : (s r : List ℕ) → r ≡ past space s → head_kind r ≡ Space → ⊥
no_space_behind s [] e h = cc
no_space_behind s (c ∷ r) e h = false_true (sym (past_the_run space s r c (sym e)) ∙ space_by_kind c h)

-- the bytes of a run as a part of the line
front_of_run : (f : ℕ → Bool) (s : List ℕ) → longest f s ≡ take (prefix_len f s) s
front_of_run f [] = refl
front_of_run f (c ∷ s) =
    elim (f c) as (λ b. cond b (c ∷ longest f s) [] ≡ take (cond b (1 + prefix_len f s) 0) (c ∷ s)) [
      | true ↦
          let n : 1 + prefix_len f s ≡ suc (prefix_len f s) = omega arith in
          ap (λ l. c ∷ l) (front_of_run f s) ∙ sym (ap (λ n. take n (c ∷ s)) n)
      | false ↦ refl
    ]

run_is_front : (f : ℕ → Bool) (s : List ℕ) (m : ℕ) → drop m s ≡ past f s → m ≤ length s → take m s ≡ longest f s
run_is_front f s m e h =
    let a : length (drop m s) ≡ length (drop (prefix_len f s) s) = ap length (e ∙ past_by_drop f s) in
    let b = length-drop m s in
    let d = length-drop (prefix_len f s) s in
    let n : m ≡ prefix_len f s = omega (arith, prefix_len-le-length f s) in
    ap (λ n. take n s) n ∙ sym (front_of_run f s)

-- from i on, where a run ends at e
run_from_to : (f : ℕ → Bool) (s : List ℕ) (i e : ℕ) → drop e s ≡ past f (drop i s) → i ≤ e → e ≤ length s
    → take (e - i) (drop i s) ≡ longest f (drop i s)
run_from_to f s i e d l h =
    let m : i + (e - i) ≡ e = omega arith in
    let k = length-drop i s in
    run_is_front f (drop i s) (e - i) (drop-drop (e - i) i s ∙ ap (λ n. drop n s) m ∙ d) (omega arith)

-- a first byte and the run behind it
pub slice_of_run : (f : ℕ → Bool) (s : List ℕ) (i e : ℕ) → i < length s → drop e s ≡ past f (drop (i + 1) s)
    → i + 1 ≤ e → e ≤ length s
    → take (e - i) (drop i s) ≡ get_or s i 0 ∷ longest f (drop (i + 1) s)
slice_of_run f s i e h d l u =
    let n : e - i ≡ suc (e - (i + 1)) = omega arith in
    ap (λ x. take (e - i) x) (drop_here s i h) ∙ ap (λ n. take n (get_or s i 0 ∷ drop (i + 1) s)) n
    ∙ ap (λ x. get_or s i 0 ∷ x) (run_from_to f s (i + 1) e d l u)

-- two runs, one behind the other
pub slice_of_two : (f : ℕ → Bool) (s : List ℕ) (i e l : ℕ) → i ≤ e → e ≤ l → l ≤ length s → drop l s ≡ past f (drop e s)
    → take (l - i) (drop i s) ≡ take (e - i) (drop i s) ++ longest f (drop e s)
slice_of_two f s i e l h g u d =
    let n : l - i ≡ (e - i) + (l - e) = omega arith in
    let m : i + (e - i) ≡ e = omega arith in
    ap (λ n. take n (drop i s)) n ∙ take-add (e - i) (l - e) (drop i s)
    ∙ ap (λ x. take (e - i) (drop i s) ++ take (l - e) x) (drop-drop (e - i) i s ∙ ap (λ n. drop n s) m)
    ∙ ap (λ x. take (e - i) (drop i s) ++ x) (run_from_to f s e l d g u)
