-- What a walk to the height h says of the machine: where it then stands, after at most j + 2 v steps for v visits.
use Rattle.std.proofs.Common.{◌≡◌, ℕ, ◌+◌, ◌*◌, ◌≤◌, Bool, true, false, List, [], ◌∷◌}
use Rattle.terms.specs.Term.{Term}
use Rattle.semantics.specs.Rules.{Rules}
use Rattle.semantics.specs.Environment.{Env}
use Rattle.semantics.specs.Language.{Language}
use Rattle.semantics.specs.Steps.{Element, State, fails, step_at}
use Rattle.semantics.specs.Tree.{Ending, out, cut, ball, uncaught, beyond, Walk, walked}
use Rattle.semantics.proofs.RunsProperties.{Runs}
use Rattle.semantics.proofs.Standing.{Base, Marks, Balls}

-- what is told of the answers: nothing while they are collected
abbrev pub shown : Bool → List Env → List Env
shown true xs = []
shown false xs = xs

pub data In (m : ℕ) : List ℕ → Type 0 where
  first : {o : List ℕ} → In m (m ∷ o)
  next : {j : ℕ} {o : List ℕ} → In m o → In m (j ∷ o)

-- where the machine stands after n steps, by the ending of the walk, with the answers xs and the rules r left by it
pub data Lands (l : Language) (h n : ℕ) (k : Base) (ρ : Marks) (β : Balls) (o : List ℕ) (xs : List Env) (r : Rules) :
    Ending → Rules → State → Type 0 where
  at_out : Lands l h n k ρ β o xs r out r (k xs)
  at_cut : {m : ℕ} → Lands l h n k ρ β o xs r (cut m) r (ρ m xs)
  at_ball : {e : Term} {m : ℕ} → In m o → Lands l h n k ρ β o xs r (ball e m) r (β m e xs)
  at_uncaught : {e : Term} {x : Element} {s : State} → step_at l x r s ≡ fails e r →
      Lands l h n k ρ β o xs r (uncaught e) r (x ∷ s)
  at_beyond : {r' : Rules} {x : Element} {s : State} → h ≤ n → Lands l h n k ρ β o xs r beyond r' (x ∷ s)

pub data Claim (l : Language) (h j : ℕ) (r : Rules) (s : State) (k : Base) (ρ : Marks) (β : Balls) (f : Bool)
    (o : List ℕ) : Walk → Type 0 where
  claim : {xs : List Env} {e : Ending} {r' r'' : Rules} {s' : State} {n v : ℕ} → n ≤ j + 2 * v →
      Runs l n r s (shown f xs) r'' s' → Lands l h n k ρ β o xs r' e r'' s' → Claim l h j r s k ρ β f o (walked xs e r' v)
