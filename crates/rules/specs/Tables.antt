-- What a table of rules means, and what its calls answer and leave.
use Rattle.std.specs.Prelude.{◌≡◌, ℕ, zero, suc, ◌≤◌, true, false, List, [], ◌∷◌, ◌++◌, length, map, Ok, Err, Result}
use Rattle.std.specs.Prelude.{Some, None, Option}
use Rattle.std.specs.List.{list_all}
use Rattle.rules.specs.declared.fault.Full.{Full}
use Rattle.rules.specs.Indicators.{fits}
use Rattle.rules.specs.Meaning.{Value, used, is_full_of}

-- a rule, and what its store notes on it
pub record Kept (T : Type 0) : Type 0 where
  pub rule : Value
  pub note : T

-- every rule ever added, by label; so many labels, and so many nodes of all rules, may be used
pub record Table (T : Type 0) : Type 0 where
  pub kept : List (Kept T)
  pub labels : ℕ
  pub space : ℕ

module _ {T : Type 0} where
  abbrev pub rules_in : List (Kept T) → List Value
  rules_in ks = map (λ k. k.rule) ks

  abbrev pub note_at : List (Kept T) → ℕ → Option T
  note_at [] l = None
  note_at (k ∷ ks) zero = Some k.note
  note_at (k ∷ ks) (suc l) = note_at ks l

  -- with another note on the rule of label l
  abbrev pub noted : List (Kept T) → ℕ → T → List (Kept T)
  noted [] l n = []
  noted (k ∷ ks) zero n = record { rule = k.rule; note = n } ∷ ks
  noted (k ∷ ks) (suc l) n = k ∷ noted ks l n

  -- the rule has the next label, with this note; nothing else changes
  pub record Entered (t : Table T) (v : Value) (n : T) (l : ℕ) (u : Table T) : Type 0 where
    pub fits : is_full_of t.labels t.space (rules_in t.kept) v ≡ false
    pub label : l ≡ length t.kept
    pub kept : u.kept ≡ t.kept ++ record { rule = v; note = n } ∷ []
    pub labels : u.labels ≡ t.labels
    pub space : u.space ≡ t.space

  abbrev pub Enters : Table T → Value → T → Result ℕ Full → Table T → Type 0
  Enters t v n (Ok l) u = Entered t v n l u
  Enters t v n (Err x) u = (is_full_of t.labels t.space (rules_in t.kept) v ≡ true) × (u ≡ t)

  abbrev pub IsEmpty : ℕ → ℕ → Table T → Type 0
  IsEmpty labels space t = t ≡ record { kept = []; labels = labels; space = space }

  -- No more rules and nodes than the table may hold, no more labels and no more space than a store can have, and each
  -- rule is of an indicator.
  pub record IsWithin (t : Table T) : Type 0 where
    pub few : length t.kept ≤ t.labels
    pub room : used (rules_in t.kept) ≤ t.space
    pub small : t.labels ≤ 1024
    pub short : t.space ≤ 65536
    pub named : list_all (λ v. fits v.name v.arity) (rules_in t.kept) ≡ true
