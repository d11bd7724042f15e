-- What a rule store means, whatever its make: every rule ever added, by label; for each indicator, that is for each name and
-- number of arguments, the row of labels of its live rules; and the known indicators.
use Rattle.std.specs.Prelude.{◌≡◌, ℕ, zero, suc, ◌+◌, ◌≤◌, Bool, true, false, cond, not, ◌&&◌, ◌||◌, List, [], ◌∷◌}
use Rattle.std.specs.Prelude.{◌++◌, length, Some, None, Option, ◌==◌, nat_le, nat_lt}
use Rattle.terms.specs.declared.node.Node.{Node}
use Rattle.rules.specs.Indicators.{is_one}

pub record Value : Type 0 where
  pub nodes : List Node
  pub head : ℕ
  pub body : ℕ
  pub variables : ℕ
  pub name : ℕ
  pub arity : ℕ

pub record Meaning : Type 0 where
  pub rules : List Value
  pub row : ℕ → ℕ → List ℕ
  pub known : ℕ → ℕ → Bool
  -- so many labels, and so many nodes of all rules, may be used
  pub labels : ℕ
  pub space : ℕ

abbrev pub is_of : Value → ℕ → ℕ → Bool
is_of v f a = is_one v.name v.arity f a

-- the nodes of all rules ever added
abbrev pub used : List Value → ℕ
used [] = 0
used (v ∷ vs) = length v.nodes + used vs

-- no label is left, or this rule's nodes would pass the space
abbrev pub is_full_of : ℕ → ℕ → List Value → Value → Bool
is_full_of labels space vs v = nat_le labels (length vs) || nat_lt space (used vs + length v.nodes)

abbrev pub is_full : Meaning → Value → Bool
is_full m v = is_full_of m.labels m.space m.rules v

abbrev pub rule_at : List Value → ℕ → Option Value
rule_at [] l = None
rule_at (v ∷ vs) zero = Some v
rule_at (v ∷ vs) (suc l) = rule_at vs l

abbrev pub first_of : List ℕ → Option ℕ
first_of [] = None
first_of (x ∷ xs) = Some x

-- the label behind this one; none if it is not there
abbrev pub behind : ℕ → List ℕ → Option ℕ
behind l [] = None
behind l (x ∷ xs) = cond (x == l) (first_of xs) (behind l xs)

-- the next live rule, from the start or after a label
abbrev pub next_in : List ℕ → Option ℕ → Option ℕ
next_in xs None = first_of xs
next_in xs (Some l) = behind l xs

abbrev pub without : ℕ → List ℕ → List ℕ
without l [] = []
without l (x ∷ xs) = cond (x == l) xs (x ∷ without l xs)

pub data End : Type 0 where
  front : End
  back : End

abbrev pub placed : End → ℕ → List ℕ → List ℕ
placed front l xs = l ∷ xs
placed back l xs = xs ++ l ∷ []

abbrev pub holds : ℕ → List ℕ → Bool
holds l [] = false
holds l (x ∷ xs) = x == l || holds l xs

-- no label stands twice
abbrev pub distinct : List ℕ → Bool
distinct [] = true
distinct (x ∷ xs) = not (holds x xs) && distinct xs

abbrev pub is_of_rule : Option Value → ℕ → ℕ → Bool
is_of_rule None f a = false
is_of_rule (Some v) f a = is_of v f a

abbrev pub ever_added : List Value → ℕ → ℕ → Bool
ever_added [] f a = false
ever_added (v ∷ vs) f a = is_of v f a || ever_added vs f a

-- What holds of every store: no label stands twice in a row, a row holds labels of rules of its indicator,
-- and an indicator is known exactly if a rule of it was ever added.
pub record Lawful (m : Meaning) : Type 0 where
  pub once : (f a : ℕ) → distinct (m.row f a) ≡ true
  pub own : (f a l : ℕ) → holds l (m.row f a) ≡ true → is_of_rule (rule_at m.rules l) f a ≡ true
  pub ever : (f a : ℕ) → m.known f a ≡ ever_added m.rules f a
  pub few : length m.rules ≤ m.labels
  pub room : used m.rules ≤ m.space

-- a fresh store: no label is used, and nothing is known
pub record Fresh (labels space : ℕ) (m : Meaning) : Type 0 where
  pub rules : m.rules ≡ []
  pub row : (f a : ℕ) → m.row f a ≡ []
  pub known : (f a : ℕ) → m.known f a ≡ false
  pub labels_are : m.labels ≡ labels
  pub space_is : m.space ≡ space

-- the sizes that a store can have: 1 to 1,024 labels, 256 to 65,536 nodes
abbrev pub is_size : ℕ → ℕ → Bool
is_size labels space = nat_le 1 labels && nat_le labels 1024 && nat_le 256 space && nat_le space 65536
