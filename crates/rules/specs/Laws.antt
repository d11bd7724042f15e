-- Laws of stores: rules alike, what each call keeps, and that the same calls lead to the same meaning.
use Rattle.std.specs.Prelude.{◌≡◌, ℕ, false, List, [], ◌∷◌, Some, Option, Result, ◌≢◌}
use Rattle.rules.specs.declared.fault.Full.{Full}
use Rattle.rules.specs.Meaning.{Meaning, Value, End, Lawful, Fresh, rule_at, next_in, holds}
use Rattle.rules.specs.Calls.{Same, Adds, Erases}

-- the rules of a row, labels aside
abbrev pub rules_of : List Value → List ℕ → List (Option Value)
rules_of vs [] = []
rules_of vs (l ∷ ls) = rule_at vs l ∷ rules_of vs ls

-- rules alike: the same rows with labels aside, and the same known indicators
pub record Alike (m n : Meaning) : Type 0 where
  pub row : (f a : ℕ) → rules_of n.rules (n.row f a) ≡ rules_of m.rules (m.row f a)
  pub known : (f a : ℕ) → n.known f a ≡ m.known f a

-- two stores that mean the same answer the same to a call, and mean the same after it
abbrev pub SameAdds : Type 0
SameAdds =
    (e : End) (m n m' n' : Meaning) (v : Value) (r s : Result ℕ Full)
    → Same m n → Adds e m v r m' → Adds e n v s n' → (s ≡ r) × Same m' n'

abbrev pub SameErases : Type 0
SameErases = (m n m' n' : Meaning) (l : ℕ) → Same m n → Erases m l m' → Erases n l n' → Same m' n'

-- what was added is read back for good
abbrev pub KeptByAdds : Type 0
KeptByAdds =
    (e : End) (m n : Meaning) (v w : Value) (r : Result ℕ Full) (l : ℕ)
    → Adds e m v r n → rule_at m.rules l ≡ Some w → rule_at n.rules l ≡ Some w

abbrev pub KeptByErases : Type 0
KeptByErases =
    (m n : Meaning) (w : Value) (k l : ℕ)
    → Erases m k n → rule_at m.rules l ≡ Some w → rule_at n.rules l ≡ Some w

-- an erased label stands in no row
abbrev pub GoneByErases : Type 0
GoneByErases = (m n : Meaning) (l : ℕ) → Lawful m → Erases m l n → (f a : ℕ) → holds l (n.row f a) ≡ false

-- and no search along a row answers it
abbrev pub SkippedByErases : Type 0
SkippedByErases =
    (m n : Meaning) (l : ℕ) → Lawful m → Erases m l n
    → (f a : ℕ) (after : Option ℕ) → next_in (n.row f a) after ≢ Some l

-- what holds of every store holds of a fresh one, and every call keeps it
abbrev pub LawfulFresh : Type 0
LawfulFresh = (labels space : ℕ) (m : Meaning) → Fresh labels space m → Lawful m

abbrev pub LawfulByAdds : Type 0
LawfulByAdds = (e : End) (m n : Meaning) (v : Value) (r : Result ℕ Full) → Lawful m → Adds e m v r n → Lawful n

abbrev pub LawfulByErases : Type 0
LawfulByErases = (m n : Meaning) (l : ℕ) → Lawful m → Erases m l n → Lawful n

-- all of these
pub record StoresAgree : Type 0 where
  pub same_adds : SameAdds
  pub same_erases : SameErases
  pub kept_by_adds : KeptByAdds
  pub kept_by_erases : KeptByErases
  pub gone_by_erases : GoneByErases
  pub skipped_by_erases : SkippedByErases
  pub lawful_fresh : LawfulFresh
  pub lawful_by_adds : LawfulByAdds
  pub lawful_by_erases : LawfulByErases
