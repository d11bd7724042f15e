-- What each call of a store answers and leaves.
use Rattle.std.specs.Prelude.{◌≡◌, ℕ, true, false, cond, ◌||◌, [], ◌∷◌, ◌++◌, length, Ok, Err, Result}
use Rattle.rules.specs.declared.rule.Rule.{Rule}
use Rattle.rules.specs.declared.fault.Full.{Full}
use Rattle.rules.specs.declared.fault.MakeFault.{MakeFault}
use Rattle.rules.specs.declared.fault.MakeFault.TheVariants.{Size, Memory}
use Rattle.rules.specs.Meaning.{Meaning, Value, is_of, is_full, is_size, End, placed, without}

abbrev pub value_of : Rule → Value
value_of r = record {
  nodes = r.nodes.now;
  head = r.head;
  body = r.body;
  variables = r.variables;
  name = r.indicator.name;
  arity = r.indicator.arity;
}

-- two stores mean the same
pub record Same (m n : Meaning) : Type 0 where
  pub rules : n.rules ≡ m.rules
  pub row : (f a : ℕ) → n.row f a ≡ m.row f a
  pub known : (f a : ℕ) → n.known f a ≡ m.known f a
  pub labels : n.labels ≡ m.labels
  pub space : n.space ≡ m.space

-- the rule has the next label, stands in its row at this end, and makes its indicator known; nothing else changes
pub record Added (e : End) (m : Meaning) (v : Value) (l : ℕ) (n : Meaning) : Type 0 where
  pub fits : is_full m v ≡ false
  pub label : l ≡ length m.rules
  pub rules : n.rules ≡ m.rules ++ v ∷ []
  pub row : (f a : ℕ) → n.row f a ≡ cond (is_of v f a) (placed e l (m.row f a)) (m.row f a)
  pub known : (f a : ℕ) → n.known f a ≡ (is_of v f a || m.known f a)
  pub labels : n.labels ≡ m.labels
  pub space : n.space ≡ m.space

abbrev pub Adds : End → Meaning → Value → Result ℕ Full → Meaning → Type 0
Adds e m v (Ok l) n = Added e m v l n
Adds e m v (Err x) n = (is_full m v ≡ true) × Same m n

-- the label leaves its row; the rule can still be read, and its indicator stays known
pub record Erases (m : Meaning) (l : ℕ) (n : Meaning) : Type 0 where
  pub rules : n.rules ≡ m.rules
  pub row : (f a : ℕ) → n.row f a ≡ without l (m.row f a)
  pub known : (f a : ℕ) → n.known f a ≡ m.known f a
  pub labels : n.labels ≡ m.labels
  pub space : n.space ≡ m.space

-- something that was made for a size that a store can have; nothing for another size, nor for want of memory
abbrev pub Makes : {S : Type 0} → (S → Type 0) → ℕ → ℕ → Result S MakeFault → Type 0
Makes made labels space (Ok s) = (is_size labels space ≡ true) × made s
Makes made labels space (Err Size) = is_size labels space ≡ false
Makes made labels space (Err Memory) = is_size labels space ≡ true
