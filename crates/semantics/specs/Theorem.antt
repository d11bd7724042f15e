-- The promises, by outcome: what the steps of a query tell is what its search tree holds.
use Rattle.std.specs.Prelude.{◌≡◌, ℕ, zero, suc, ◌+◌, ◌*◌, ◌≤◌, ◌↔◌, List, [], ◌∷◌, ◌++◌}
use Rattle.std.proofs.Math.Option.{Option, none, some}
use Rattle.terms.specs.Term.{Term}
use Rattle.semantics.specs.Rules.{Rules}
use Rattle.semantics.specs.Environment.{Env}
use Rattle.semantics.specs.Language.{Language}
use Rattle.semantics.specs.Steps.{State, asked, step}
use Rattle.semantics.specs.Tree.{Ending, out, cut, ball, uncaught, beyond, Walk, walked, tree}
use Rattle.semantics.specs.Runs.{End, no_more, error, Ran, finished, also, told, answered, over, spent, Made, run, more}

abbrev pub answers : Walk → List Env
answers (walked xs e r v) = xs

abbrev pub nth : List Env → ℕ → Option Env
nth [] i = none
nth (x ∷ xs) zero = some x
nth (x ∷ xs) (suc i) = nth xs i

-- a is the leaf i of a tree: its answer i at every height from some height on
abbrev pub Leaf : (ℕ → Walk) → ℕ → Env → Type 0
Leaf t i a = (h₀ : ℕ) × ((h : ℕ) → h₀ ≤ h → nth (answers (t h)) i ≡ some a)

-- the end that an ending of a whole tree tells; a cut by the query itself counts as out
abbrev pub end_of : Ending → Option End
end_of out = some no_more
end_of (cut zero) = some no_more
end_of (cut (suc m)) = none
end_of (ball e m) = none
end_of (uncaught e) = some (error e)
end_of beyond = none

-- a height reaches all of the tree: these are its leaves, its end, the rules left, and how many nodes it has
pub data Whole : Walk → List Env → End → Rules → ℕ → Type 0 where
  whole : {xs : List Env} {e : Ending} {z : End} {r : Rules} {v : ℕ} → end_of e ≡ some z →
      Whole (walked xs e r v) xs z r v

-- every height reaches all of the tree, or ends beyond
pub data Reaches : Walk → Type 0 where
  all : {w : Walk} {xs : List Env} {z : End} {r : Rules} {v : ℕ} → Whole w xs z r v → Reaches w
  part : {xs : List Env} {r : Rules} {v : ℕ} → Reaches (walked xs beyond r v)

-- more height changes nothing that was reached, and only adds answers
pub data Extends : Walk → Walk → Type 0 where
  same : {w : Walk} → Extends w w
  further : {xs : List Env} {r : Rules} {v : ℕ} {w : Walk} (ys : List Env) → answers w ≡ xs ++ ys →
      Extends (walked xs beyond r v) w

-- so many steps suffice for a tree of v nodes
abbrev pub bound : ℕ → ℕ
bound v = 2 * v + 1

pub record CompleteList (l : Language) (g : Term) (b : Env) (r : Rules) : Type 0 where
  -- whatever number of steps was made, what was told are the first leaves; and every leaf is told
  pub first_leaves : (i : ℕ) (a : Env) →
      Leaf (tree l g b r) i a ↔ ((n : ℕ) × (nth (told (run l n r (asked g b))) i ≡ some a))
  -- "no" or an error is told exactly of the trees that end so, after exactly their leaves, with their rules left
  pub honest_end : (xs : List Env) (z : End) (r' : Rules) →
      ((h : ℕ) × (v : ℕ) × Whole (tree l g b r h) xs z r' v) ↔ ((n : ℕ) × (run l n r (asked g b) ≡ finished xs z r'))
  -- the end of a finite tree is told within a number of steps that the tree alone fixes
  pub reached_end : (h v n : ℕ) (xs : List Env) (z : End) (r' : Rules) →
      Whole (tree l g b r h) xs z r' v → bound v ≤ n → run l n r (asked g b) ≡ finished xs z r'
  -- a height reaches all of the tree, or ends beyond; what it reached, every greater height reaches
  pub heights_reach : (h : ℕ) → Reaches (tree l g b r h)
  pub heights_extend : (h h' : ℕ) → h ≤ h' → Extends (tree l g b r h) (tree l g b r h')

-- for every language, query, bindings and rules
abbrev pub Complete : Type 0
Complete = (l : Language) (g : Term) (b : Env) (r : Rules) → CompleteList l g b r

-- there is one step at most, and none exactly at the end
pub record OneStep (l : Language) : Type 0 where
  pub ends : (r : Rules) → step l r [] ≡ none
  pub goes_on : (r : Rules) (s : State) → step l r s ≡ none → s ≡ []

-- the steps that were made until something was told, before the rest of a run
abbrev pub onward : Made → Ran → Ran
onward m u = elim m.stop [ answered a ↦ also a u | over z ↦ finished [] z m.rules | spent ↦ u ]

-- steps until something is told are counted exactly
pub record Counted (l : Language) : Type 0 where
  pub few : (n : ℕ) (r : Rules) (s : State) → (more l n r s).steps ≤ n
  pub all_spent : (n : ℕ) (r : Rules) (s : State) → (more l n r s).stop ≡ spent → (more l n r s).steps ≡ n
  pub exact : (n j : ℕ) (r : Rules) (s : State) →
      run l ((more l n r s).steps + j) r s ≡ onward (more l n r s) (run l j (more l n r s).rules (more l n r s).state)
