-- Which fault it is: at the place itself, and seen from an earlier place.
use Rattle.std.proofs.Common.{◌≡◌, ℕ, ◌<◌, ◌≤◌, false, List, length, drop, sym, refl, ap, ◌∙◌, subst, inl, inr, arith}
use Rattle.tokens.specs.declared.kind.Kind.{Kind}
use Rattle.tokens.specs.declared.kind.Kind.TheVariants.{Quote, Stray}
use Rattle.tokens.specs.declared.scan.TokenFault.TheVariants as token_fault
use Rattle.tokens.specs.Token.{scan, joined}
use Rattle.tokens.specs.Scanning.{head_kind}
use Rattle.tokens.proofs.BytesProperties.{drop_past_the_end}
use Rattle.grammar.specs.Faults.{inside_quote}
use Rattle.reader.specs.declared.fault.TermFault.{TermFault}
use Rattle.reader.specs.declared.fault.TermFault.TheVariants as term_fault
use Rattle.reader.specs.Faults.{term_place}
use Rattle.reader.specs.Reading.{Blamed, Faulted, quote_open}
use Rattle.grammar.proofs.QuoteParity.{not_endless}

pub fault_is_there : (line : List ℕ) (p : ℕ) (f : TermFault) (n : ℕ) → Faulted line p f n → term_place f ≡ p
fault_is_there line p (term_fault.Token (token_fault.Stray q)) n h = h.0
fault_is_there line p (term_fault.Token (token_fault.Unclosed q)) n h = h.0
fault_is_there line p (term_fault.Unexpected q k) n h = h.0

-- behind the end nothing is open
pub even_at_the_end : (line : List ℕ) (p : ℕ) → length line ≤ p → quote_open line p ≡ false
even_at_the_end line p h = ap (inside_quote false) (drop_past_the_end line p h)

pub blamed_from_before : (line : List ℕ) (pos p : ℕ) (f : TermFault) (n : ℕ) → Faulted line p f n
    → quote_open line pos ≡ quote_open line p → Blamed line pos f n
blamed_from_before line pos p (term_fault.Token (token_fault.Stray q)) n h e =
    (subst (λ q. q < length line) (sym h.0) h.1, ap (λ q. head_kind (drop q line)) h.0 ∙ h.2)
blamed_from_before line pos p (term_fault.Token (token_fault.Unclosed q)) n h e = inl
    (ap (λ q. scan joined (drop q line)) h.0 ∙ h.1)
blamed_from_before line pos p (term_fault.Unexpected q k) n h e =
    let s = h.0 in (
      h.1,
      (λ g. h.2 (ap (λ q. scan joined (drop q line)) (sym s) ∙ g)),
      (λ l g. h.3 (omega arith) (ap (λ q. head_kind (drop q line)) (sym s) ∙ g)),
      λ l. e ∙ even_at_the_end line p (omega arith),
    )

pub blamed_earlier : (line : List ℕ) (pos e : ℕ) (f : TermFault) (n : ℕ) → Blamed line e f n
    → quote_open line pos ≡ quote_open line e → Blamed line pos f n
blamed_earlier line pos e (term_fault.Token (token_fault.Stray q)) n h g = h
blamed_earlier line pos e (term_fault.Token (token_fault.Unclosed q)) n (inl i) g = inl i
blamed_earlier line pos e (term_fault.Token (token_fault.Unclosed q)) n (inr i) g = inr (i.0, g ∙ i.1)
blamed_earlier line pos e (term_fault.Unexpected q k) n h g = (h.0, h.1, h.2, λ l. g ∙ h.3 l)

-- a token stands there, but may not
pub misplaced : (line : List ℕ) (p n : ℕ) (k : Kind) → head_kind (drop p line) ≡ k → (k ≡ Quote → ⊥) → (k ≡ Stray → ⊥)
    → Faulted line p (term_fault.Unexpected p n) n
misplaced line p n k h q s = (refl, refl, not_endless (drop p line) (λ e. q (sym h ∙ e)), λ l e. s (sym h ∙ e))

-- the text ends there
pub ends_there : (line : List ℕ) (p n : ℕ) → length line ≤ p → Faulted line p (term_fault.Unexpected p n) n
ends_there line p n h =
    let d = drop_past_the_end line p h in (
      refl,
      refl,
      (λ e. let z : ◌≡◌ {A = ℕ} 0 1 = (let y = sym (ap (scan joined) d) ∙ e in cc) in omega arith),
      λ l e.
          omega arith,
    )
