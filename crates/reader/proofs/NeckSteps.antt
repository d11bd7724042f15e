-- The neck of a rule, byte by byte.
use Rattle.std.proofs.Common.{◌≡◌, ℕ, ◌+◌, ◌<◌, ◌≤◌, true, false, eqb, List, [], ◌∷◌, length, get_or, drop, Some, sym}
use Rattle.std.proofs.Common.{refl, ap, ◌∙◌, arith}
use Rattle.std.proofs.lemmas.Bool.{eqb-true}
use Rattle.tokens.specs.declared.kind.Kind.TheVariants.{Symbol}
use Rattle.tokens.specs.Bytes.{past, space}
use Rattle.tokens.specs.Scanning.{head_kind}
use Rattle.tokens.proofs.BytesProperties.{drop_here, head_here, false_true}
use Rattle.grammar.specs.Written.{Written, nil}
use Rattle.grammar.specs.Grammar.{brackets}
use Rattle.grammar.specs.Machine.{onward, bad}
use Rattle.grammar.specs.Sentences.{head, among, body, operand, after, sentences}
use Rattle.grammar.specs.Places.{tail_of, first_is}
use Rattle.grammar.specs.Faults.{inside_quote}
use Rattle.grammar.proofs.StepProperties.{any_count}
use Rattle.grammar.proofs.NeckProperties.{neck_on, neck_not_colon, neck_not_minus, neck_too_long}
use Rattle.reader.specs.declared.fault.TermFault.{TermFault}
use Rattle.reader.specs.Reading.{quote_open, Faulted}
use Rattle.reader.specs.Parts.{NeckReaches, NeckBreaks}
use Rattle.reader.proofs.BlameProperties.{fault_is_there, blamed_from_before}
use Rattle.reader.proofs.ByteSteps.{tail_is_next}

byte_first : (b : ℕ) (s : List ℕ) → first_is b s ≡ true → s ≡ b ∷ tail_of s
byte_first b [] h = false_true h
byte_first b (c ∷ s) h = ap (λ c. c ∷ s) (eqb-true c b h)

first_byte : (line : List ℕ) (p b : ℕ) → true ≡ first_is b (drop p line) → drop p line ≡ b ∷ drop (p + 1) line
first_byte line p b h = byte_first b (drop p line) (sym h) ∙ ap (λ r. b ∷ r) (tail_is_next line p)

-- `:-`
both_bytes : (line : List ℕ) (p : ℕ) → true ≡ first_is 58 (drop p line) → true ≡ first_is 45 (drop (p + 1) line)
    → drop p line ≡ 58 ∷ 45 ∷ drop (p + 1 + 1) line
both_bytes line p h k = first_byte line p 58 h ∙ ap (λ r. 58 ∷ r) (first_byte line (p + 1) 45 k)

breaks_at : (line : List ℕ) (p q : ℕ) (f : TermFault) → Faulted line q f brackets
    → quote_open line p ≡ quote_open line q → q ≤ length line
    → ((m : ℕ) (t : Written) (s : List ℕ) → past space s ≡ drop p line
    → onward sentences m (Some (after t brackets head)) s ≡ bad brackets (drop q line))
    → NeckBreaks line p f
breaks_at line p q f h e l o =
    let i = fault_is_there line q f brackets h in
    record {
      on = λ m t s d. o m t s d ∙ ap (λ q. bad brackets (drop q line)) (sym i);
      blamed = blamed_from_before line p q f brackets h e;
      within = omega arith;
    }

pub no_colon : (line : List ℕ) (p : ℕ) (f : TermFault) → p < length line → head_kind (drop p line) ≡ Symbol
    → false ≡ first_is 58 (drop p line) → Faulted line p f brackets
    → NeckBreaks line p f
no_colon line p f l k h b =
    let d = drop_here line p l in
    breaks_at line p p f b refl (omega arith)
    (λ m t s e. neck_not_colon m brackets t s (get_or line p 0) (drop (p + 1) line) (e ∙ d)
    (sym (head_here line p l) ∙ k)
    (λ i. false_true (h ∙ ap (first_is 58) d ∙ ap (λ c. eqb c 58) i))
    ∙ ap (bad brackets) (sym d))

pub no_minus : (line : List ℕ) (p : ℕ) (f : TermFault) → p < length line → true ≡ first_is 58 (drop p line)
    → false ≡ first_is 45 (drop (p + 1) line)
    → Faulted line (p + 1) f brackets → NeckBreaks line p f
no_minus line p f l c h b =
    let d = first_byte line p 58 c in
    breaks_at line p (p + 1) f b (ap (inside_quote false) d) (omega arith)
    (λ m t s e. neck_not_minus m brackets t s (drop (p + 1) line) (e ∙ d) (sym h))

pub goes_on : (line : List ℕ) (p : ℕ) (f : TermFault) → p + 1 < length line → true ≡ first_is 58 (drop p line)
    → true ≡ first_is 45 (drop (p + 1) line)
    → Symbol ≡ head_kind (drop (p + 1 + 1) line) → Faulted line (p + 1 + 1) f brackets → NeckBreaks line p f
goes_on line p f l c h k b =
    let d = both_bytes line p c h in
    breaks_at line p (p + 1 + 1) f b (ap (inside_quote false) d) (omega arith)
    (λ m t s e. neck_too_long m brackets t s (drop (p + 1 + 1) line) (e ∙ d) (sym k))

pub whole_neck : (line : List ℕ) (p : ℕ) → p + 1 < length line → true ≡ first_is 58 (drop p line)
    → true ≡ first_is 45 (drop (p + 1) line)
    → (head_kind (drop (p + 1 + 1) line) ≡ Symbol → ⊥) → NeckReaches line p (p + 1 + 1)
whole_neck line p l c h k =
    let d = both_bytes line p c h in
    record {
      on = λ m t s e. neck_on m brackets t s (drop (p + 1 + 1) line) (e ∙ d) k
          ∙ any_count brackets m (operand brackets (among (body t) nil)) (drop (p + 1 + 1) line);
      even = ap (inside_quote false) d;
      forward = omega arith;
      within = omega arith;
    }
