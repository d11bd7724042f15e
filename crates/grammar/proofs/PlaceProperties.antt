-- From one place to the next: where a term must begin, behind a term, at the first byte, and when all has been read.
use Rattle.std.proofs.Common.{◌≡◌, ℕ, Bool, true, false, cond, ◌&&◌, List, [], ◌∷◌, ◌++◌, Some, None, Option, sym, refl}
use Rattle.std.proofs.Common.{ap, ◌∙◌, arith}
use Rattle.tokens.specs.declared.kind.Kind.{Kind}
use Rattle.tokens.specs.declared.kind.Kind.TheVariants.{Small, Capital, Digit, Symbol, Solo, Quote, Opening}
use Rattle.tokens.specs.declared.kind.Kind.TheVariants.{Closing, Left, Right, Bar, Comma, Stop, Space, Stray}
use Rattle.tokens.specs.Bytes.{class, space, past, word, digit, symbol, quote, same}
use Rattle.tokens.specs.Token.{Token, name, neck, opening, closing, left, right, bar, comma, stop, run, neck_bytes}
use Rattle.tokens.specs.Token.{minus_bytes}
use Rattle.tokens.specs.Token.{Part, small_run, capital_run, digits, symbols, inside, closed, single, first, spaced}
use Rattle.tokens.specs.Token.{joined}
use Rattle.tokens.specs.Token.{start_as, ended, nothing, got, scanned, or_else, scan_from, scan}
use Rattle.tokens.specs.Scanning.{head_kind}
use Rattle.tokens.proofs.ScanningProperties.{scan_single}
use Rattle.grammar.specs.Written.{Written, Sentence}
use Rattle.grammar.specs.Grammar.{Goal, a_rule, a_query}
use Rattle.grammar.specs.Machine.{within, good, bad, check, enter_by, fresh, step_by, allowed_by, allowed_at}
use Rattle.grammar.specs.Machine.{finished, verdict, onward}
use Rattle.grammar.specs.Sentences.{Context, head, among, tail, operand, after, done, feed, allowed, sentences, begin}
use Rattle.grammar.specs.Theorem.{judged}
use Rattle.grammar.specs.Places.{taken_or, operand_by, is_head, after_by}
use Rattle.grammar.proofs.KindProperties.{no_bool, no_space}
use Rattle.grammar.proofs.StepProperties.{stepped, at_edge, begun, unspaced, single_taken, any_edge, skip_spaces}

-- where a term must begin
module _ (n : ℕ) (x : Context) where
  abbrev is_single : Part → Bool
  is_single (small_run bs) = false
  is_single (capital_run bs) = false
  is_single (digits bs) = false
  is_single (symbols bs) = false
  is_single (inside bs) = false
  is_single (closed bs) = false
  is_single (single t) = true

  -- a run or a quoted name is hoped for until it ends: at the end of the text
  within_ends : (q : Part) (z : List ℕ) → is_single q ≡ false
      → verdict sentences [] (within q) (operand n x) ≡ operand_by n x z (scanned (ended q) [])
  within_ends (small_run bs) z h = refl
  within_ends (capital_run bs) z h = refl
  within_ends (digits bs) z h = refl
  within_ends (symbols bs) z h = go (same bs neck_bytes)
    where
      go : (b : Bool) → finished sentences n (feed (operand n x) (cond b neck (name bs)))
          ≡ operand_by n x z (got (cond b neck (name bs)) [])
      go true = refl
      go false = refl
  within_ends (inside bs) z h = refl
  within_ends (closed bs) z h = refl
  within_ends (single t) z h = no_bool (sym h)

  -- or before a byte
  run_stops : (bs : List ℕ) (c : ℕ) (s z : List ℕ)
      → stepped (fresh sentences (feed (operand n x) (run bs)) c)
      (allowed_by sentences (feed (operand n x) (run bs)) (operand n x)) c s
      ≡ operand_by n x z (got (run bs) (c ∷ s))
  run_stops bs c s z = go (same bs neck_bytes)
    where
      go : (b : Bool) → stepped (fresh sentences (feed (operand n x) (cond b neck (name bs))) c)
          (allowed_by sentences (feed (operand n x) (cond b neck (name bs))) (operand n x)) c s
          ≡ operand_by n x z (got (cond b neck (name bs)) (c ∷ s))
      go true = refl
      go false = refl

  -- the part before a byte, and what the byte makes of it
  abbrev GoesOn : Part → Option Part → ℕ → List ℕ → List ℕ → Type 0
  GoesOn q m c s z =
      stepped (step_by sentences m q (operand n x) c) (allowed_at sentences (within q) (operand n x)) c s
      ≡ operand_by n x z (or_else m (scanned (ended q) (c ∷ s)) (λ q'. scan_from q' s))

  within_on : (s : List ℕ) (q : Part) (z : List ℕ) → is_single q ≡ false
      → verdict sentences s (within q) (operand n x) ≡ operand_by n x z (scan_from q s)
  within_on [] q z h = within_ends q z h
  within_on (c ∷ s) (small_run bs) z h =
      elim (word c) as (λ b. GoesOn (small_run bs) (cond b (Some (small_run (bs ++ c ∷ []))) None) c s z)
      [ true ↦ within_on s (small_run (bs ++ c ∷ [])) z refl | false ↦ refl ]
  within_on (c ∷ s) (capital_run bs) z h =
      elim (word c) as (λ b. GoesOn (capital_run bs) (cond b (Some (capital_run (bs ++ c ∷ []))) None) c s z)
      [ true ↦ within_on s (capital_run (bs ++ c ∷ [])) z refl | false ↦ refl ]
  within_on (c ∷ s) (digits bs) z h =
      elim (digit c) as (λ b. GoesOn (digits bs) (cond b (Some (digits (bs ++ c ∷ []))) None) c s z)
      [ true ↦ within_on s (digits (bs ++ c ∷ [])) z refl | false ↦ refl ]
  within_on (c ∷ s) (symbols bs) z h =
      elim (symbol c) as (λ b. GoesOn (symbols bs) (cond b (Some (symbols (bs ++ c ∷ [])))
      (cond (same bs minus_bytes && digit c) (Some (digits (bs ++ c ∷ []))) None)) c s z) [
        | true ↦ within_on s (symbols (bs ++ c ∷ [])) z refl
        | false ↦ elim (same bs minus_bytes && digit c)
            as (λ b. GoesOn (symbols bs) (cond b (Some (digits (bs ++ c ∷ []))) None) c s z)
            [ true ↦ within_on s (digits (bs ++ c ∷ [])) z refl | false ↦ run_stops bs c s z ]
      ]
  within_on (c ∷ s) (inside bs) z h =
      elim (quote c) as (λ b. GoesOn (inside bs) (cond b (Some (closed bs)) (Some (inside (bs ++ c ∷ [])))) c s z)
      [ true ↦ within_on s (closed bs) z refl | false ↦ within_on s (inside (bs ++ c ∷ [])) z refl ]
  within_on (c ∷ s) (closed bs) z h =
      elim (quote c) as (λ b. GoesOn (closed bs) (cond b (Some (inside (bs ++ c ∷ []))) None) c s z)
      [ true ↦ within_on s (inside (bs ++ c ∷ [])) z refl | false ↦ refl ]
  within_on (c ∷ s) (single t) z h = no_bool (sym h)

  one_byte : (t : Token) (c : ℕ) (s : List ℕ) → taken_or n (feed (operand n x) t) (c ∷ s) s ≡ operand_by n x (c ∷ s) (got t s)
      → stepped (check sentences (within (single t)) (operand n x)) n c s ≡ operand_by n x (c ∷ s) (scan_from (single t) s)
  one_byte t c s h = single_taken t (operand n x) n c s ∙ h ∙ sym (ap (operand_by n x (c ∷ s)) (scan_single t s))

  operand_begun : (k : Kind) (c : ℕ) (s : List ℕ)
      → begun k spaced (operand n x) c s ≡ operand_by n x (c ∷ s) (or_else (start_as k spaced c) nothing (λ q. scan_from q s))
  operand_begun Small c s = within_on s (small_run (c ∷ [])) (c ∷ s) refl
  operand_begun Capital c s = within_on s (capital_run (c ∷ [])) (c ∷ s) refl
  operand_begun Digit c s = within_on s (digits (c ∷ [])) (c ∷ s) refl
  operand_begun Symbol c s = within_on s (symbols (c ∷ [])) (c ∷ s) refl
  operand_begun Solo c s = one_byte (name (c ∷ [])) c s refl
  operand_begun Quote c s = within_on s (inside []) (c ∷ s) refl
  operand_begun Opening c s = one_byte (opening false) c s refl
  operand_begun Closing c s = one_byte closing c s refl
  operand_begun Left c s = one_byte left c s refl
  operand_begun Right c s = one_byte right c s refl
  operand_begun Bar c s = one_byte bar c s refl
  operand_begun Comma c s = one_byte comma c s refl
  operand_begun Stop c s = one_byte stop c s refl
  operand_begun Space c s = refl
  operand_begun Stray c s = refl

  operand_unspaced : (s : List ℕ) → unspaced (operand n x) s ≡ operand_by n x s (scan spaced s)
  operand_unspaced [] = refl
  operand_unspaced (c ∷ s) = operand_begun (class c) c s

pub operand_on : (m n : ℕ) (x : Context) (s : List ℕ)
    → onward sentences m (Some (operand n x)) s ≡ operand_by n x (past space s) (scan spaced (past space s))
operand_on m n x s = skip_spaces (operand n x) refl refl refl m s ∙ operand_unspaced n x (past space s)

-- behind a term
pub after_skip : (m n : ℕ) (t : Written) (x : Context) (s : List ℕ)
    → onward sentences m (Some (after t n x)) s ≡ unspaced (after t n x) (past space s)
after_skip m n t x s = skip_spaces (after t n x) refl refl refl m s

after_symbol : (n : ℕ) (t : Written) (x : Context) (c : ℕ) (s : List ℕ) → is_head x ≡ false
    → begun Symbol spaced (after t n x) c s ≡ bad n (c ∷ s)
after_symbol n t head c s h = no_bool (sym h)
after_symbol n t (among k us) c s h = refl
after_symbol n t (tail us x) c s h = refl

after_begun : (k : Kind) (n : ℕ) (t : Written) (x : Context) (c : ℕ) (s : List ℕ) → (k ≡ Symbol → is_head x ≡ false)
    → begun k spaced (after t n x) c s ≡ after_by k t n x (c ∷ s)
after_begun Small n t x c s h = refl
after_begun Capital n t x c s h = refl
after_begun Digit n t x c s h = refl
after_begun Symbol n t x c s h = after_symbol n t x c s (h refl)
after_begun Solo n t x c s h = refl
after_begun Quote n t x c s h = refl
after_begun Opening n t x c s h = refl
after_begun Closing n t x c s h = single_taken closing (after t n x) n c s
after_begun Left n t x c s h = refl
after_begun Right n t x c s h = single_taken right (after t n x) n c s
after_begun Bar n t x c s h = single_taken bar (after t n x) n c s
after_begun Comma n t x c s h = single_taken comma (after t n x) n c s
after_begun Stop n t x c s h = single_taken stop (after t n x) n c s
after_begun Space n t x c s h = refl
after_begun Stray n t x c s h = refl

after_unspaced : (n : ℕ) (t : Written) (x : Context) (s : List ℕ) → (head_kind s ≡ Symbol → is_head x ≡ false)
    → unspaced (after t n x) s ≡ after_by (head_kind s) t n x s
after_unspaced n t x [] h = refl
after_unspaced n t x (c ∷ s) h = after_begun (class c) n t x c s h

pub after_on : (m n : ℕ) (t : Written) (x : Context) (s : List ℕ) → (head_kind (past space s) ≡ Symbol → is_head x ≡ false)
    → onward sentences m (Some (after t n x)) s ≡ after_by (head_kind (past space s)) t n x (past space s)
after_on m n t x s h = after_skip m n t x s ∙ after_unspaced n t x (past space s) h

-- when all has been read
pub done_on_end : (m : ℕ) (d : Sentence) (s : List ℕ) → s ≡ [] → onward sentences m (Some (done d)) s ≡ good d
done_on_end m d s h = ap (onward sentences m (Some (done d))) h

done_edge : (b : Bool) (k : Kind) (d : Sentence) (c : ℕ) (s : List ℕ)
    → stepped (cond b None (enter_by sentences (start_as k joined c) (done d))) 64 c s ≡ bad 64 (c ∷ s)
done_edge true k d c s = refl
done_edge false Small d c s = refl
done_edge false Capital d c s = refl
done_edge false Digit d c s = refl
done_edge false Symbol d c s = refl
done_edge false Solo d c s = refl
done_edge false Quote d c s = refl
done_edge false Opening d c s = refl
done_edge false Closing d c s = refl
done_edge false Left d c s = refl
done_edge false Right d c s = refl
done_edge false Bar d c s = refl
done_edge false Comma d c s = refl
done_edge false Stop d c s = refl
done_edge false Space d c s = refl
done_edge false Stray d c s = refl

pub done_on_more : (m : ℕ) (d : Sentence) (s : List ℕ) (c : ℕ) (r : List ℕ) → s ≡ c ∷ r
    → onward sentences m (Some (done d)) s ≡ bad 64 s
done_on_more m d s c r h = ap (onward sentences m (Some (done d))) h ∙ done_edge (space c) (class c) d c r ∙ ap (bad 64) (sym h)

-- the first byte
begins_empty : (g : Goal) (m : ℕ) → judged g [] ≡ onward sentences m (Some (begin g)) []
begins_empty a_rule m = refl
begins_empty a_query m = refl

begins_alike : (g : Goal) → feed (begin g) (opening true) ≡ feed (begin g) (opening false)
begins_alike a_rule = refl
begins_alike a_query = refl

begins_allowed : (g : Goal) → allowed (begin g) ≡ 64
begins_allowed a_rule = refl
begins_allowed a_query = refl

pub first_on : (g : Goal) (m : ℕ) (s : List ℕ) → (head_kind s ≡ Space → ⊥) → judged g s ≡ onward sentences m (Some (begin g)) s
first_on g m [] h = begins_empty g m
first_on g m (c ∷ s) h =
    let f = no_space c h in
    ap (λ b. at_edge b first (begin g) c s) f
    ∙ any_edge (begin g) (begins_alike g) first (class c) c s
    ∙ sym (any_edge (begin g) (begins_alike g) joined (class c) c s)
    ∙ sym (ap (λ b. at_edge b joined (begin g) c s) f)

pub first_space : (g : Goal) (s : List ℕ) → head_kind s ≡ Space → judged g s ≡ bad 64 s
first_space g [] h = let z : ◌≡◌ {A = ℕ} 0 1 = cc in absurd (omega arith)
first_space g (c ∷ s) h = go (space c) ∙ ap (λ n. bad n (c ∷ s)) (begins_allowed g)
  where
    go : (b : Bool) → at_edge b first (begin g) c s ≡ bad (allowed (begin g)) (c ∷ s)
    go true = refl
    go false = ap (λ k. begun k first (begin g) c s) h
