-- From one place of a line to the next: behind spaces, behind one byte, behind the token that was found.
use Rattle.std.proofs.Common.{◌≡◌, ℕ, zero, suc, ◌+◌, Bool, true, false, cond, List, [], ◌∷◌, drop, Some, sym, refl, ap}
use Rattle.std.proofs.Common.{◌∙◌, arith}
use Rattle.tokens.specs.declared.kind.Kind.{Kind}
use Rattle.tokens.specs.declared.kind.Kind.TheVariants.{Symbol, Quote}
use Rattle.tokens.specs.Bytes.{past, space}
use Rattle.tokens.specs.Token.{scan, spaced}
use Rattle.tokens.specs.Scanning.{head_kind}
use Rattle.tokens.proofs.BytesProperties.{drop_past_the_end}
use Rattle.grammar.specs.Faults.{inside_quote}
use Rattle.grammar.specs.Written.{Written}
use Rattle.grammar.specs.Machine.{onward}
use Rattle.grammar.specs.Sentences.{Context, operand, after, sentences}
use Rattle.grammar.specs.Places.{tail_of, operand_by, is_head, after_by}
use Rattle.reader.specs.Reading.{Admits, quote_open}
use Rattle.grammar.proofs.PlaceProperties.{operand_on, after_on}
use Rattle.grammar.proofs.QuoteParity.{spaces_even, single_even}

pub tail_is_next : (s : List ℕ) (i : ℕ) → tail_of (drop i s) ≡ drop (i + 1) s
tail_is_next [] zero = sym (drop_past_the_end [] (0 + 1) (omega arith))
tail_is_next [] (suc i) = sym (drop_past_the_end [] (suc i + 1) (omega arith))
tail_is_next (c ∷ s) zero = refl
tail_is_next (c ∷ s) (suc i) = let e : suc i + 1 ≡ suc (i + 1) = omega arith in tail_is_next s i
    ∙ ap (λ n. drop n (c ∷ s)) (sym e)

pub past_twice : (f : ℕ → Bool) (s : List ℕ) → past f (past f s) ≡ past f s
past_twice f [] = refl
past_twice f (c ∷ s) = go (f c) refl (past_twice f s)
  where
    go : (b : Bool) → f c ≡ b → past f (past f s) ≡ past f s
        → past f (cond b (past f s) (c ∷ s)) ≡ cond b (past f s) (c ∷ s)
    go true e ih = ih
    go false e ih = ap (λ b. cond b (past f s) (c ∷ s)) e

-- spaces before a term
pub operand_past_spaces : (m n : ℕ) (x : Context) (s : List ℕ)
    → onward sentences m (Some (operand n x)) s ≡ onward sentences m (Some (operand n x)) (past space s)
operand_past_spaces m n x s =
    operand_on m n x s ∙ sym (operand_on m n x (past space s)
    ∙ ap (λ r. operand_by n x r (scan spaced r)) (past_twice space s))

pub admits_past_spaces : (x : Context) (s : List ℕ) → Admits x s → Admits x (past space s)
admits_past_spaces x s a h = a (ap head_kind (sym (past_twice space s)) ∙ h)

-- behind a term, with the place of the next byte that is no space
pub after_at : (m n : ℕ) (t : Written) (x : Context) (line : List ℕ) (e i : ℕ) (k : Kind)
    → drop i line ≡ past space (drop e line) → k ≡ head_kind (drop i line)
    → (k ≡ Symbol → is_head x ≡ false)
    → onward sentences m (Some (after t n x)) (drop e line) ≡ after_by k t n x (drop i line)
after_at m n t x line e i k s h b =
    after_on m n t x (drop e line) (λ g. b (h ∙ ap head_kind s ∙ g))
    ∙ ap (λ r. after_by (head_kind r) t n x r) (sym s) ∙ ap (λ j. after_by j t n x (drop i line)) (sym h)

-- spaces and one more byte leave a quoted name neither opened nor closed
pub even_past_spaces : (line : List ℕ) (e i : ℕ) → drop i line ≡ past space (drop e line)
    → quote_open line e ≡ quote_open line i
even_past_spaces line e i s = spaces_even (drop e line) ∙ ap (λ r. inside_quote false r) (sym s)

pub even_past_byte : (line : List ℕ) (i : ℕ) (k : Kind) → k ≡ head_kind (drop i line) → (k ≡ Quote → ⊥)
    → quote_open line i ≡ quote_open line (i + 1)
even_past_byte line i k h q =
    single_even (drop i line) (λ e. q (h ∙ e)) ∙ ap (λ r. inside_quote false r) (tail_is_next line i)
