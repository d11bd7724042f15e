-- A query of the tree stands as a query of the machine and its contexts, above a state that changes with the answers.
use Rattle.std.proofs.Common.{◌≡◌, ℕ, ◌<◌, Bool, true, false, cond, eqb, List, [], ◌∷◌, ◌++◌, refl, ap, arith, eq-eqb}
use Rattle.std.proofs.Common.{ne_eqb}
use Rattle.terms.specs.Term.{Term}
use Rattle.semantics.specs.Environment.{Env}
use Rattle.semantics.specs.Actions.{call_of, fail_goal}
use Rattle.semantics.specs.Language.{Language}
use Rattle.semantics.specs.Steps.{on, Query, context, Contexts, State, back, before, collects, put, land}
use Rattle.semantics.specs.Tree.{at, leave, Items}

-- a state for each list of answers given since
abbrev pub Base : Type 0
Base = List Env → State

-- what stands after a cut to a marker, and where a ball for a marker lands
abbrev pub Marks : Type 0
Marks = ℕ → Base

abbrev pub Balls : Type 0
Balls = ℕ → Term → Base

abbrev pub with_mark : Marks → ℕ → Base → Marks
with_mark ρ n k m xs = cond (eqb m n) (k xs) (ρ m xs)

abbrev pub with_ball : Balls → ℕ → (Term → Base) → Balls
with_ball β n v m e xs = cond (eqb m n) (v e xs) (β m e xs)

pub same_mark : (ρ : Marks) (n : ℕ) (k : Base) → with_mark ρ n k n ≡ k
same_mark ρ n k = ap {B = Base} (λ t xs. cond t (k xs) (ρ n xs)) (eq-eqb n n refl)

pub other_mark : (ρ : Marks) (n : ℕ) (k : Base) (m : ℕ) → m < n → with_mark ρ n k m ≡ ρ m
other_mark ρ n k m d = ap {B = Base} (λ t xs. cond t (k xs) (ρ m xs)) (ne_eqb m n (omega arith))

pub other_ball : (β : Balls) (n : ℕ) (v : Term → Base) (m : ℕ) → m < n → with_ball β n v m ≡ β m
other_ball β n v m d = ap {B = Term → Base} (λ t e xs. cond t (v e xs) (β m e xs)) (ne_eqb m n (omega arith))

-- later: the answers ws were given
abbrev pub later : List Env → Base → Base
later ws k xs = k (ws ++ xs)

abbrev pub later_m : List Env → Marks → Marks
later_m ws ρ m xs = ρ m (ws ++ xs)

abbrev pub later_b : List Env → Balls → Balls
later_b ws β m e xs = β m e (ws ++ xs)

-- an answer is told (false) or joins a collector (true)
pub data Sink (l : Language) : Bool → Base → Type 0 where
  tells_it : {k : Base} → ((xs : List Env) → collects (k xs) ≡ false) →
      ((xs : List Env) (b : Env) → k xs ≡ k (xs ++ b ∷ [])) → Sink l false k
  keeps_it : {k : Base} → ((xs : List Env) → collects (k xs) ≡ true) →
      ((xs : List Env) (b : Env) → put l b (k xs) ≡ k (xs ++ b ∷ [])) → Sink l true k

-- where a ball goes that is thrown under these catches
pub data Aims (l : Language) (β : Balls) (n : ℕ) : List ℕ → Contexts → Base → Type 0 where
  nowhere : {k : Base} → Aims l β n [] [] k
  towards : {m : ℕ} {o : List ℕ} {d u : Term} {q : Query} {c : Contexts} {k : Base} → m < n →
      ((e : Term) (xs : List Env) → land l e d u q c (back m (k xs)) ≡ β m e xs) →
      Aims l β n (m ∷ o) (context m d u q ∷ c) k

-- the last context does not go on
pub data Stops (n : ℕ) : Contexts → Base → Type 0 where
  bare : {k : Base} → Stops n [] k
  behind : {m : ℕ} {d u : Term} {q : Query} {c : Contexts} {k : Base} → m < n →
      ((xs : List Env) → before m (k xs) ≡ false) → Stops n (context m d u q ∷ c) k

-- With n the next marker: the cuts of a goal that bears m lead to ρ m, and balls for m to β m.
-- A call and `fail` never cut to the marker that they bear.
pub data Stands (l : Language) (ρ : Marks) (β : Balls) (f : Bool) (n : ℕ) :
    Items → List ℕ → Query → Contexts → Base → Type 0 where
  done : {o : List ℕ} {c : Contexts} {k : Base} →
      Aims l β n o c k → Stops n c k → Sink l f k → Stands l ρ β f n [] o [] c k
  goes_on : {g : Term} {m : ℕ} {q : Items} {o : List ℕ} {q' : Query} {c : Contexts} {k : Base} → m < n →
      ((xs : List Env) → back m (k xs) ≡ ρ m xs) → ((xs : List Env) → back m (ρ m xs) ≡ ρ m xs) →
      Stands l ρ β f n q o q' c k → Stands l ρ β f n q o q' c (ρ m) →
      Stands l ρ β f n (at g m ∷ q) o (on g m ∷ q') c k
  goes_call : {g : Term} {m : ℕ} {q : Items} {o : List ℕ} {q' : Query} {c : Contexts} {k : Base} →
      Stands l ρ β f n q o q' c k → Stands l ρ β f n (at (call_of g) m ∷ q) o (on (call_of g) m ∷ q') c k
  goes_fail : {m : ℕ} {q : Items} {o : List ℕ} {q' : Query} {c : Contexts} {k : Base} →
      Aims l β n o c k → Stands l ρ β f n (at fail_goal m ∷ q) o (on fail_goal m ∷ q') c k
  goes_off : {m : ℕ} {d u : Term} {q : Items} {o : List ℕ} {q' : Query} {c : Contexts} {k : Base} → m < n →
      ((xs : List Env) → before m (k xs) ≡ true) → Aims l β n (m ∷ o) (context m d u q' ∷ c) k →
      Stands l ρ β f n q o q' c k → Stands l ρ β f n (leave m ∷ q) (m ∷ o) [] (context m d u q' ∷ c) k
