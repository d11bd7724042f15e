-- Where a text that is no rule or query first goes wrong, and which kind of fault that is.
use Rattle.std.specs.Prelude.{◌≡◌, ℕ, suc, ◌+◌, ◌-◌, ◌<◌, ◌≤◌, Bool, true, false, cond, not, ◌||◌, ◌⊎◌, List, [], ◌∷◌}
use Rattle.std.specs.Prelude.{◌++◌, length, take, drop, ◌==◌}
use Rattle.tokens.specs.Bytes.{quote}
use Rattle.tokens.specs.Token.{IsRow, scan, joined, endless}
use Rattle.grammar.specs.Written.{Sentence}
use Rattle.grammar.specs.Grammar.{Goal, Text, Begins}

-- s is no text, and P is the least number such that its first P bytes begin no text (one past the end if all of it does)
pub record Fails (g : Goal) (s : List ℕ) (P : ℕ) : Type 0 where
  pub no_text : (x : Sentence) → Text g s x → ⊥
  pub from_one : 1 ≤ P
  pub to_end : P ≤ length s + 1
  pub before : Begins g (take (P - 1) s)
  pub here : P ≤ length s → Begins g (take P s) → ⊥

-- how many brackets are open behind these bytes, of those that stand outside quoted names; true inside one
abbrev pub open_from : Bool → ℕ → List ℕ → ℕ
open_from b n [] = n
open_from true n (c ∷ s) = open_from (not (quote c)) n s
open_from false n (c ∷ s) =
    cond (quote c) (open_from true n s)
    (cond (c == 40 || c == 91) (open_from false (suc n) s)
    (cond (c == 41 || c == 93) (open_from false (n - 1) s) (open_from false n s)))

abbrev pub open_brackets : List ℕ → ℕ
open_brackets s = open_from false 0 s

-- whether these bytes end inside a quoted name
abbrev pub inside_quote : Bool → List ℕ → Bool
inside_quote b [] = b
inside_quote b (c ∷ s) = inside_quote (cond (quote c) (not b) b) s

-- the first P bytes begin no row of tokens
abbrev pub NoRow : List ℕ → ℕ → Type 0
NoRow s P = (P ≤ length s) × ((w : List ℕ) → IsRow (take P s ++ w) → ⊥)

-- the token that begins at P, or the one in which the text ends, is a quoted name that is never closed
abbrev pub Unclosed : List ℕ → ℕ → Type 0
Unclosed s P = (scan joined (drop (P - 1) s) ≡ endless) ⊎ ((P ≡ length s + 1) × (inside_quote false s ≡ true))

pub data FaultKind : Type 0 where
  in_token : FaultKind
  in_term : FaultKind
  in_line : FaultKind

-- a fault of tokens, else of a term if a bracket is open before P, else of the line
pub data Blames (s : List ℕ) (P : ℕ) : FaultKind → Type 0 where
  blames_token : NoRow s P ⊎ Unclosed s P → Blames s P in_token
  blames_term : (NoRow s P ⊎ Unclosed s P → ⊥) → 0 < open_brackets (take (P - 1) s) → Blames s P in_term
  blames_line : (NoRow s P ⊎ Unclosed s P → ⊥) → open_brackets (take (P - 1) s) ≡ 0 → Blames s P in_line
