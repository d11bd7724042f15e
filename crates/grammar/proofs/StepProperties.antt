-- One step of the reader of bytes: a token of one byte, and the spaces before a token.
use Rattle.std.proofs.Common.{◌≡◌, ℕ, Bool, true, false, cond, List, [], ◌∷◌, is_some, Some, None, Option, sym, refl}
use Rattle.std.proofs.Common.{ap, ◌∙◌}
use Rattle.tokens.specs.declared.kind.Kind.{Kind}
use Rattle.tokens.specs.declared.kind.Kind.TheVariants.{Small, Capital, Digit, Symbol, Solo, Quote, Opening}
use Rattle.tokens.specs.declared.kind.Kind.TheVariants.{Closing, Left, Right, Bar, Comma, Stop, Space, Stray}
use Rattle.tokens.specs.Bytes.{class, space, past}
use Rattle.tokens.specs.Token.{Token, opening, single, Edge, spaced, joined, is_joined, may_part, start_as, start}
use Rattle.grammar.specs.Written.{Sentence}
use Rattle.grammar.specs.Machine.{edge, within, StateOf, at, VerdictOf, bad, check, enter_by, fresh, allowed_by}
use Rattle.grammar.specs.Machine.{finished_by, finished, or_bad, verdict, onward}
use Rattle.grammar.specs.Sentences.{Place, feed, open_ended, result, allowed, sentences}
use Rattle.grammar.specs.Places.{taken_or}

-- what the byte c made of the place, then the bytes behind it
abbrev pub stepped : Option (StateOf Place) → ℕ → ℕ → List ℕ → VerdictOf Sentence
stepped m n c s = or_bad sentences m (bad n (c ∷ s)) (verdict sentences s)

-- a byte at the edge of a token, by whether it is a space
abbrev pub at_edge : Bool → Edge → Place → ℕ → List ℕ → VerdictOf Sentence
at_edge b e p c s =
    stepped (cond b (cond (may_part e) (check sentences (edge spaced) p) None) (enter_by sentences (start e c) p)) (allowed p) c s

-- a byte of this kind that begins a token
abbrev pub begun : Kind → Edge → Place → ℕ → List ℕ → VerdictOf Sentence
begun k e p c s = stepped (enter_by sentences (start_as k e c) p) (allowed p) c s

-- how many brackets are allowed is said by the place
pub any_count : (m n : ℕ) (p : Place) (s : List ℕ) → onward sentences m (Some p) s ≡ onward sentences n (Some p) s
any_count m n p [] = refl
any_count m n p (c ∷ s) = refl

fresh_onward : (m : Option Place) (p : Place) (c : ℕ) (s : List ℕ)
    → stepped (fresh sentences m c) (allowed_by sentences m p) c s ≡ onward sentences (allowed p) m (c ∷ s)
fresh_onward None p c s = refl
fresh_onward (Some q) p c s = refl

finished_onward : (n : ℕ) (m : Option Place) → finished sentences n m ≡ onward sentences n m []
finished_onward n None = refl
finished_onward n (Some p) = refl

-- a token of one byte
single_on : (s : List ℕ) (t : Token) (p : Place)
    → verdict sentences s (within (single t)) p ≡ onward sentences (allowed p) (feed p t) s
single_on [] t p = finished_onward (allowed p) (feed p t)
single_on (c ∷ s) t p = fresh_onward (feed p t) p c s

pub single_taken : (t : Token) (p : Place) (n c : ℕ) (s : List ℕ)
    → stepped (check sentences (within (single t)) p) n c s ≡ taken_or n (feed p t) (c ∷ s) s
single_taken t p n c s = go (feed p t) refl
  where
    by : {m : Option Place} → feed p t ≡ m → stepped (check sentences (within (single t)) p) n c s
        ≡ stepped (cond (is_some m) (Some (at (within (single t)) p)) None) n c s
    by e = ap (λ m. stepped (cond (is_some m) (Some (at (within (single t)) p)) None) n c s) e

    go : (m : Option Place) → feed p t ≡ m → stepped (check sentences (within (single t)) p) n c s ≡ taken_or n m (c ∷ s) s
    go None e = by e
    go (Some q) e = by e ∙ single_on s t p ∙ ap (λ m. onward sentences (allowed p) m s) e ∙ any_count (allowed p) n q s

-- only behind a name is it asked whether a space stands before a bracket
pub any_edge : (p : Place) → feed p (opening true) ≡ feed p (opening false) → (e : Edge) (k : Kind) (c : ℕ) (s : List ℕ)
    → begun k e p c s ≡ begun k spaced p c s
any_edge p h e Small c s = refl
any_edge p h e Capital c s = refl
any_edge p h e Digit c s = refl
any_edge p h e Symbol c s = refl
any_edge p h e Solo c s = refl
any_edge p h e Quote c s = refl
any_edge p h e Opening c s = go (is_joined e)
  where
    go : (b : Bool) → stepped (check sentences (within (single (opening b))) p) (allowed p) c s
        ≡ stepped (check sentences (within (single (opening false))) p) (allowed p) c s
    go true =
        single_taken (opening true) p (allowed p) c s ∙ ap (λ m. taken_or (allowed p) m (c ∷ s) s) h
        ∙ sym (single_taken (opening false) p (allowed p) c s)
    go false = refl
any_edge p h e Closing c s = refl
any_edge p h e Left c s = refl
any_edge p h e Right c s = refl
any_edge p h e Bar c s = refl
any_edge p h e Comma c s = refl
any_edge p h e Stop c s = refl
any_edge p h e Space c s = refl
any_edge p h e Stray c s = refl

-- bytes that do not begin with a space
abbrev pub unspaced : Place → List ℕ → VerdictOf Sentence
unspaced p [] = bad (allowed p) []
unspaced p (c ∷ s) = begun (class c) spaced p c s

-- spaces are passed over
module _ (p : Place) (open_here : open_ended p ≡ true) (alike : feed p (opening true) ≡ feed p (opening false))
    (unfinished : result p ≡ None) where
  over_space : (c : ℕ) (s : List ℕ) (b : Bool) → b ≡ true
      → stepped (cond b (check sentences (edge spaced) p) None) (allowed p) c s ≡ verdict sentences s (edge spaced) p
  over_space c s b h =
      ap (λ b. stepped (cond b (check sentences (edge spaced) p) None) (allowed p) c s) h
      ∙ ap (λ b. stepped (cond b (Some (at (edge spaced) p)) None) (allowed p) c s) open_here

  spaces_on : (s : List ℕ) (e : Edge) → may_part e ≡ true → verdict sentences s (edge e) p ≡ unspaced p (past space s)
  spaces_on [] e h = refl
  spaces_on (c ∷ s) e h = elim (space c) as (λ b. at_edge b e p c s ≡ unspaced p (cond b (past space s) (c ∷ s))) [
    | true ↦ over_space c s (may_part e) h ∙ spaces_on s spaced refl
    | false ↦ any_edge p alike e (class c) c s
  ]

  pub skip_spaces : (m : ℕ) (s : List ℕ) → onward sentences m (Some p) s ≡ unspaced p (past space s)
  skip_spaces m [] = ap (finished_by sentences (allowed p)) unfinished
  skip_spaces m (c ∷ s) = spaces_on (c ∷ s) joined refl
