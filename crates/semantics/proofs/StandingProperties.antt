-- What stands goes on standing: after answers, under a further element, and under a new marker.
use Rattle.std.proofs.Common.{◌≡◌, ℕ, suc, ◌<◌, Bool, true, false, eqb, List, [], ◌∷◌, ◌++◌, refl, ap, ◌∙◌}
use Rattle.std.proofs.Common.{append_assoc, arith, eq-eqb, ne_eqb}
use Rattle.terms.specs.Term.{Term}
use Rattle.semantics.specs.Rules.{Clause, Live, live}
use Rattle.semantics.specs.Environment.{Env}
use Rattle.semantics.specs.Language.{Language}
use Rattle.semantics.specs.Steps.{on, Query, Contexts, Moment, Element, goal, try, retry, mark, State, back, before}
use Rattle.semantics.specs.Steps.{collects, put, land, tries, retries}
use Rattle.semantics.specs.Tree.{at, Items}
use Rattle.semantics.proofs.Standing.{Base, Marks, Balls, with_mark, with_ball, same_mark, other_mark, other_ball}
use Rattle.semantics.proofs.Standing.{later, later_m, later_b, Sink, tells_it, keeps_it, Aims, nowhere, towards, Stops}
use Rattle.semantics.proofs.Standing.{bare, behind, Stands, done, goes_on, goes_call, goes_fail, goes_off}

-- where a ball goes that is thrown at the first goal
pub stands_aims : {l : Language} {ρ : Marks} {β : Balls} {f : Bool} {n : ℕ} {q : Items} {o : List ℕ} {q' : Query}
    {c : Contexts} {k : Base} → Stands l ρ β f n q o q' c k → Aims l β n o c k
stands_aims (done a s i) = a
stands_aims (goes_on d e i x y) = stands_aims x
stands_aims (goes_call x) = stands_aims x
stands_aims (goes_fail a) = a
stands_aims (goes_off d e a x) = a

later_stops : (ws : List Env) {n : ℕ} {c : Contexts} {k : Base} → Stops n c k → Stops n c (later ws k)
later_stops ws bare = bare
later_stops ws (behind d e) = behind d (λ xs. e (ws ++ xs))

module _ {l : Language} (ws : List Env) where
  later_sink : {f : Bool} {k : Base} → Sink l f k → Sink l f (later ws k)
  later_sink (tells_it {k} e i) =
      tells_it (λ xs. e (ws ++ xs)) (λ xs b. i (ws ++ xs) b ∙ ap k (append_assoc ws xs (b ∷ [])))
  later_sink (keeps_it {k} e i) =
      keeps_it (λ xs. e (ws ++ xs)) (λ xs b. i (ws ++ xs) b ∙ ap k (append_assoc ws xs (b ∷ [])))

  pub later_aims : {β : Balls} {n : ℕ} {o : List ℕ} {c : Contexts} {k : Base} →
      Aims l β n o c k → Aims l (later_b ws β) n o c (later ws k)
  later_aims nowhere = nowhere
  later_aims (towards d e) = towards d (λ b xs. e b (ws ++ xs))

  -- after some answers
  pub later_stands : {ρ : Marks} {β : Balls} {f : Bool} {n : ℕ} {q : Items} {o : List ℕ} {q' : Query} {c : Contexts}
      {k : Base} → Stands l ρ β f n q o q' c k → Stands l (later_m ws ρ) (later_b ws β) f n q o q' c (later ws k)
  later_stands (done a s i) = done (later_aims a) (later_stops ws s) (later_sink i)
  later_stands (goes_on d e i x y) =
      goes_on d (λ xs. e (ws ++ xs)) (λ xs. i (ws ++ xs)) (later_stands x) (later_stands y)
  later_stands (goes_call x) = goes_call (later_stands x)
  later_stands (goes_fail a) = goes_fail (later_aims a)
  later_stands (goes_off d e a x) = goes_off d (λ xs. e (ws ++ xs)) (later_aims a) (later_stands x)

-- an element that does not collect and is no marker below n
pub record Skipped (l : Language) (n : ℕ) (y : Element) : Type 0 where
  pub backs : (m : ℕ) (k : State) → m < n → back m (y ∷ k) ≡ back m k
  pub befores : (m : ℕ) (k : State) → m < n → before m (y ∷ k) ≡ before m k
  pub collected : (k : State) → collects (y ∷ k) ≡ collects k
  pub puts : (b : Env) (k : State) → put l b (y ∷ k) ≡ y ∷ put l b k

pub goal_skipped : {l : Language} {n : ℕ} (q : Query) (c : Contexts) (p : Moment) → Skipped l n (goal q c p)
goal_skipped q c p =
    record { backs = λ m k d. refl; befores = λ m k d. refl; collected = λ k. refl; puts = λ b k. refl }

try_skipped : {l : Language} {n : ℕ} (g : Term) (x : Clause) (q : Query) (c : Contexts) (p : Moment) →
    Skipped l n (try g x q c p)
try_skipped g x q c p =
    record { backs = λ m k d. refl; befores = λ m k d. refl; collected = λ k. refl; puts = λ b k. refl }

retry_skipped : {l : Language} {n : ℕ} (h t : Term) (x : Live) (q : Query) (c : Contexts) (p : Moment) →
    Skipped l n (retry h t x q c p)
retry_skipped h t x q c p =
    record { backs = λ m k d. refl; befores = λ m k d. refl; collected = λ k. refl; puts = λ b k. refl }

pub mark_skipped : {l : Language} {n : ℕ} (p : Moment) → Skipped l n (mark n p)
mark_skipped {n} p = record {
  backs = λ m k d. let f : eqb m n ≡ false = ne_eqb m n (omega arith) in rw f;
  befores = λ m k d. let f : eqb m n ≡ false = ne_eqb m n (omega arith) in rw f;
  collected = λ k. refl;
  puts = λ b k. refl;
}

module _ {l : Language} {n : ℕ} {y : Element} (z : Skipped l n y) where
  under_sink : {f : Bool} {k : Base} → Sink l f k → Sink l f (λ xs. y ∷ k xs)
  under_sink (tells_it {k} e i) =
      tells_it (λ xs. z.collected (k xs) ∙ e xs) (λ xs b. ap {B = State} (λ s. y ∷ s) (i xs b))
  under_sink (keeps_it {k} e i) =
      keeps_it (λ xs. z.collected (k xs) ∙ e xs) (λ xs b. z.puts b (k xs) ∙ ap {B = State} (λ s. y ∷ s) (i xs b))

  under_aims : {β : Balls} {o : List ℕ} {c : Contexts} {k : Base} → Aims l β n o c k → Aims l β n o c (λ xs. y ∷ k xs)
  under_aims nowhere = nowhere
  under_aims (towards {m} {d} {u} {q} {c} {k} i e) =
      towards i (λ b xs. ap (land l b d u q c) (z.backs m (k xs) i) ∙ e b xs)

  under_stops : {c : Contexts} {k : Base} → Stops n c k → Stops n c (λ xs. y ∷ k xs)
  under_stops bare = bare
  under_stops (behind {m} {k} d e) = behind d (λ xs. z.befores m (k xs) d ∙ e xs)

  -- under one more element
  pub under : {ρ : Marks} {β : Balls} {f : Bool} {q : Items} {o : List ℕ} {q' : Query} {c : Contexts} {k : Base} →
      Stands l ρ β f n q o q' c k → Stands l ρ β f n q o q' c (λ xs. y ∷ k xs)
  under (done a s i) = done (under_aims a) (under_stops s) (under_sink i)
  under (goes_on {m} {k} d e i x w) = goes_on d (λ xs. z.backs m (k xs) d ∙ e xs) i (under x) w
  under (goes_call x) = goes_call (under x)
  under (goes_fail a) = goes_fail (under_aims a)
  under (goes_off {m} {k} d e a x) = goes_off d (λ xs. z.befores m (k xs) d ∙ e xs) (under_aims a) (under x)

module _ {l : Language} {n : ℕ} {ρ : Marks} {β : Balls} {f : Bool} {q : Items} {o : List ℕ} {q' : Query} {c : Contexts}
    {k : Base} (z : Stands l ρ β f n q o q' c k) where
  -- under the tries, or retract tries, of these rules
  pub under_tries : (g : Term) (xs : List Live) (q'' : Query) (c'' : Contexts) (p : Moment) →
      Stands l ρ β f n q o q' c (λ ys. tries g xs q'' c'' p (k ys))
  under_tries g [] q'' c'' p = z
  under_tries g (live i x ∷ xs) q'' c'' p = under (try_skipped g x q'' c'' p) (under_tries g xs q'' c'' p)

  pub under_retries : (h t : Term) (xs : List Live) (q'' : Query) (c'' : Contexts) (p : Moment) →
      Stands l ρ β f n q o q' c (λ ys. retries h t xs q'' c'' p (k ys))
  under_retries h t [] q'' c'' p = z
  under_retries h t (x ∷ xs) q'' c'' p = under (retry_skipped h t x q'' c'' p) (under_retries h t xs q'' c'' p)

raise_stops : {n : ℕ} {c : Contexts} {k : Base} → Stops n c k → Stops (suc n) c k
raise_stops bare = bare
raise_stops (behind d e) = behind (omega arith) e

raise_aims : {l : Language} {n : ℕ} {β : Balls} {o : List ℕ} {c : Contexts} {k : Base} (β' : Balls) →
    ((m : ℕ) → m < n → β' m ≡ β m) → Aims l β n o c k → Aims l β' (suc n) o c k
raise_aims β' v nowhere = nowhere
raise_aims β' v (towards {m} d e) = towards (omega arith) (λ u xs. rw (v m d) (e u xs))

-- one marker more, with the same cuts and balls below it
raise : {l : Language} {n : ℕ} {ρ : Marks} {β : Balls} {f : Bool} {q : Items} {o : List ℕ} {q' : Query} {c : Contexts}
    {k : Base} (ρ' : Marks) (β' : Balls) → ((m : ℕ) → m < n → ρ' m ≡ ρ m) → ((m : ℕ) → m < n → β' m ≡ β m) →
    Stands l ρ β f n q o q' c k → Stands l ρ' β' f (suc n) q o q' c k
raise ρ' β' t v (done a s i) = done (raise_aims β' v a) (raise_stops s) i
raise ρ' β' t v (goes_on {m} d e i x w) =
    goes_on (omega arith) (λ xs. rw (t m d) (e xs)) (λ xs. rw (t m d) (i xs)) (raise ρ' β' t v x)
    (rw (t m d) (raise ρ' β' t v w))
raise ρ' β' t v (goes_call x) = goes_call (raise ρ' β' t v x)
raise ρ' β' t v (goes_fail a) = goes_fail (raise_aims β' v a)
raise ρ' β' t v (goes_off d e a x) = goes_off (omega arith) e (raise_aims β' v a) (raise ρ' β' t v x)

module _ {l : Language} {n : ℕ} {ρ : Marks} {β : Balls} {f : Bool} {q : Items} {o : List ℕ} {q' : Query} {c : Contexts}
    {k : Base} (p : Moment) where
  -- above a new marker for cuts, and for balls
  pub above_mark : (k' : Base) → Stands l ρ β f n q o q' c k →
      Stands l (with_mark ρ n k') β f (suc n) q o q' c (λ xs. mark n p ∷ k xs)
  above_mark k' x = raise (with_mark ρ n k') β (λ m d. other_mark ρ n k' m d) (λ m d. refl) (under (mark_skipped p) x)

  pub above_ball : (v : Term → Base) → Stands l ρ β f n q o q' c k →
      Stands l ρ (with_ball β n v) f (suc n) q o q' c (λ xs. mark n p ∷ k xs)
  above_ball v x = raise ρ (with_ball β n v) (λ m d. refl) (λ m d. other_ball β n v m d) (under (mark_skipped p) x)

-- one more goal whose cuts bear the new marker
pub bears_new : {l : Language} (ρ : Marks) {β : Balls} {f : Bool} {n : ℕ} {q : Items} {o : List ℕ} {q' : Query}
    {c : Contexts} {k : Base} (g : Term) (p : Moment) →
    Stands l (with_mark ρ n (λ xs. mark n p ∷ k xs)) β f (suc n) q o q' c (λ xs. mark n p ∷ k xs) →
    Stands l (with_mark ρ n (λ xs. mark n p ∷ k xs)) β f (suc n) (at g n ∷ q) o (on g n ∷ q') c (λ xs. mark n p ∷ k xs)
bears_new ρ {n} {k} g p c =
    let e : eqb n n ≡ true = eq-eqb n n refl in
    goes_on (omega arith) (λ xs. rw e) (λ xs. rw e (rw e)) c (rw (same_mark ρ n (λ xs. mark n p ∷ k xs)) c)

-- a query whose first goal's cuts bear the new marker
pub fresh : {l : Language} {ρ : Marks} {β : Balls} {f : Bool} {n : ℕ} {q : Items} {o : List ℕ} {q' : Query} {c : Contexts}
    {k : Base} (g : Term) (p : Moment) → Stands l ρ β f n q o q' c k →
    Stands l (with_mark ρ n (λ xs. mark n p ∷ k xs)) β f (suc n) (at g n ∷ q) o (on g n ∷ q') c (λ xs. mark n p ∷ k xs)
fresh {ρ} {k} g p x = bears_new ρ g p (above_mark p (λ xs. mark _ p ∷ k xs) x)

-- one more goal whose cuts bear the marker of the first
pub beside : {l : Language} {ρ : Marks} {β : Balls} {f : Bool} {n m : ℕ} {q : Items} {o : List ℕ} {q' : Query}
    {c : Contexts} {k : Base} {g : Term} (g' : Term) → m < n → ((xs : List Env) → back m (k xs) ≡ ρ m xs) →
    ((xs : List Env) → back m (ρ m xs) ≡ ρ m xs) → Stands l ρ β f n q o q' c k → Stands l ρ β f n q o q' c (ρ m) →
    Stands l ρ β f n (at g' m ∷ at g m ∷ q) o (on g' m ∷ on g m ∷ q') c k
beside g' d e i x y = goes_on d e i (goes_on d e i x y) (goes_on d i i y y)
