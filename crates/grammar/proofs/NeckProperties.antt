-- Behind a head: the neck `:-`, and every other way in which a symbol stands there.
use Rattle.std.proofs.Common.{◌≡◌, ℕ, Bool, true, false, cond, ◌&&◌, List, [], ◌∷◌, Some, None, refl, ap, ◌∙◌, arith}
use Rattle.std.proofs.lemmas.Bool.{ne_eqb}
use Rattle.tokens.specs.declared.kind.Kind.TheVariants.{Symbol}
use Rattle.tokens.specs.Bytes.{class, space, past, symbol}
use Rattle.tokens.specs.Token.{symbols, spaced}
use Rattle.tokens.specs.Scanning.{head_kind}
use Rattle.grammar.specs.Written.{Written, nil, Sentence}
use Rattle.grammar.specs.Machine.{within, at, VerdictOf, bad, step_by, verdict, onward}
use Rattle.grammar.specs.Sentences.{head, among, body, operand, after, sentences}
use Rattle.grammar.specs.Places.{first_is}
use Rattle.grammar.proofs.KindProperties.{no_symbol, symbol_by_kind}
use Rattle.grammar.proofs.StepProperties.{stepped, begun, unspaced}
use Rattle.grammar.proofs.PlaceProperties.{after_skip}

behind_spaces : (m n : ℕ) (t : Written) (s z : List ℕ) → past space s ≡ z
    → onward sentences m (Some (after t n head)) s ≡ unspaced (after t n head) z
behind_spaces m n t s z h = after_skip m n t head s ∙ ap (unspaced (after t n head)) h

-- one more byte behind `:-`, by whether it is a symbol
abbrev behind_neck : ℕ → Written → ℕ → List ℕ → Bool → VerdictOf Sentence
behind_neck n t c s b =
    stepped (step_by sentences (cond b (Some (symbols (58 ∷ 45 ∷ c ∷ []))) None) (symbols (58 ∷ 45 ∷ [])) (after t n head) c) n c s

neck_ends : (n : ℕ) (t : Written) (r : List ℕ) → (head_kind r ≡ Symbol → ⊥)
    → verdict sentences r (within (symbols (58 ∷ 45 ∷ []))) (after t n head)
    ≡ onward sentences n (Some (operand n (among (body t) nil))) r
neck_ends n t [] h = refl
neck_ends n t (c ∷ r) h = ap (behind_neck n t c r) (no_symbol c h)

pub neck_on : (m n : ℕ) (t : Written) (s r : List ℕ) → past space s ≡ 58 ∷ 45 ∷ r → (head_kind r ≡ Symbol → ⊥)
    → onward sentences m (Some (after t n head)) s ≡ onward sentences n (Some (operand n (among (body t) nil))) r
neck_on m n t s r h g = behind_spaces m n t s (58 ∷ 45 ∷ r) h ∙ neck_ends n t r g

-- no `:`
pub neck_not_colon : (m n : ℕ) (t : Written) (s : List ℕ) (c : ℕ) (r : List ℕ)
    → past space s ≡ c ∷ r → class c ≡ Symbol → (c ≡ 58 → ⊥) → onward sentences m (Some (after t n head)) s ≡ bad n (c ∷ r)
neck_not_colon m n t s c r h k g =
    behind_spaces m n t s (c ∷ r) h
    ∙ ap (λ k. begun k spaced (after t n head) c r) k
    ∙ ap (λ b. stepped (cond (b && true) (Some (at (within (symbols (c ∷ []))) (after t n head))) None) n c r) (ne_eqb c 58 g)

-- `:` but no `-` behind it
colon_only : (n : ℕ) (t : Written) (r : List ℕ) → first_is 45 r ≡ false
    → verdict sentences r (within (symbols (58 ∷ []))) (after t n head) ≡ bad n r
colon_only n t [] h = refl
colon_only n t (c ∷ r) h = go (symbol c)
  where
    go : (b : Bool)
        → stepped (step_by sentences (cond b (Some (symbols (58 ∷ c ∷ []))) None) (symbols (58 ∷ [])) (after t n head) c) n c r
        ≡ bad n (c ∷ r)
    go true = ap (λ b. stepped (cond (b && true) (Some (at (within (symbols (58 ∷ c ∷ []))) (after t n head))) None) n c r) h
    go false = refl

pub neck_not_minus : (m n : ℕ) (t : Written) (s r : List ℕ) → past space s ≡ 58 ∷ r → first_is 45 r ≡ false
    → onward sentences m (Some (after t n head)) s ≡ bad n r
neck_not_minus m n t s r h g = behind_spaces m n t s (58 ∷ r) h ∙ colon_only n t r g

-- a symbol directly behind `:-`
neck_goes_on : (n : ℕ) (t : Written) (r : List ℕ) → head_kind r ≡ Symbol
    → verdict sentences r (within (symbols (58 ∷ 45 ∷ []))) (after t n head) ≡ bad n r
neck_goes_on n t [] h = let z : ◌≡◌ {A = ℕ} 0 1 = cc in absurd (omega arith)
neck_goes_on n t (c ∷ r) h = ap (behind_neck n t c r) (symbol_by_kind c h)

pub neck_too_long : (m n : ℕ) (t : Written) (s r : List ℕ) → past space s ≡ 58 ∷ 45 ∷ r → head_kind r ≡ Symbol
    → onward sentences m (Some (after t n head)) s ≡ bad n r
neck_too_long m n t s r h g = behind_spaces m n t s (58 ∷ 45 ∷ r) h ∙ neck_goes_on n t r g
