-- What is proved of the grammar: the reader of bytes reads exactly its texts, each text is one sentence,
-- and where it stops is the least place, with the brackets open there.
use Rattle.std.specs.Prelude.{◌≡◌, ℕ, suc, ◌+◌, true, List, [], ◌∷◌, ◌++◌, length, ◌≢◌}
use Rattle.tokens.specs.declared.kind.Kind.TheVariants.{Stray}
use Rattle.tokens.specs.Bytes.{class, space}
use Rattle.tokens.specs.Token.{IsRow, first}
use Rattle.grammar.specs.Written.{Sentence}
use Rattle.grammar.specs.Grammar.{Goal, Text, brackets}
use Rattle.grammar.specs.Machine.{VerdictOf, good, bad, edge, verdict}
use Rattle.grammar.specs.Sentences.{sentences, begin}
use Rattle.grammar.specs.Faults.{Fails, open_brackets}

abbrev pub judged : Goal → List ℕ → VerdictOf Sentence
judged g s = verdict sentences s (edge first) (begin g)

pub data RowGoesOn (u : List ℕ) (c : ℕ) : Type 0 where
  goes_on : (w : List ℕ) → IsRow (u ++ c ∷ w) → RowGoesOn u c

-- u was read, and c cannot stand behind it: no row of tokens goes on so if c begins no token or is a space before the first one
pub record StopsAt (u : List ℕ) (c : ℕ) : Type 0 where
  pub stray : class c ≡ Stray → (w : List ℕ) → IsRow (u ++ c ∷ w) → ⊥
  pub space_first : u ≡ [] → space c ≡ true → (w : List ℕ) → IsRow (u ++ c ∷ w) → ⊥
  pub otherwise : class c ≢ Stray → (u ≡ [] → space c ≢ true) → RowGoesOn u c

-- what a verdict says of the text
pub data Judged (g : Goal) (s : List ℕ) : VerdictOf Sentence → Type 0 where
  reads : {x : Sentence} → Text g s x → Judged g s (good x)
  fails_at_end : {n : ℕ} → Fails g s (suc (length s)) → n + open_brackets s ≡ brackets → Judged g s (bad n [])
  fails_at : {n : ℕ} {u : List ℕ} {c : ℕ} {r : List ℕ}
      → s ≡ u ++ c ∷ r → Fails g s (suc (length u)) → n + open_brackets u ≡ brackets → StopsAt u c
      → Judged g s (bad n (c ∷ r))

-- the reader of bytes is right about every text
abbrev pub Exact : Type 0
Exact = (g : Goal) (s : List ℕ) → Judged g s (judged g s)

-- a text is at most one sentence
abbrev pub OneSentence : Type 0
OneSentence = (g : Goal) (s : List ℕ) (x y : Sentence) → Text g s x → Text g s y → x ≡ y

-- every text is read
abbrev pub AllRead : Type 0
AllRead = (g : Goal) (s : List ℕ) (x : Sentence) → Text g s x → judged g s ≡ good x
