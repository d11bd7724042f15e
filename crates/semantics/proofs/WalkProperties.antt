-- Every walk says what the machine does, by induction on its height.
use Rattle.std.proofs.Common.{◌≡◌, ℕ, zero, suc, ◌+◌, ◌<◌, Bool, true, false, cond, eqb, List, [], ◌∷◌, ◌++◌, map, sym}
use Rattle.std.proofs.Common.{refl, ap, ◌∙◌, arith, eq-eqb}
use mathlib.Core.List.{map-append}
use mathlib.Core.Option.{Option, none, some}
use Rattle.terms.specs.Term.{Term, size}
use Rattle.semantics.specs.Rules.{Rules, Live, live, live_rules, add_rule, erase_rule, name_of, arity_of, clause_size}
use Rattle.semantics.specs.Environment.{Env}
use Rattle.semantics.specs.Errors.{error_at, no_procedure}
use Rattle.semantics.specs.Actions.{Action, go_on, leaves, both, either, cuts, calls, calling, nots, catches, throws}
use Rattle.semantics.specs.Actions.{raises, finds, invokes, retracts, stores, call_of, cut_goal, fail_goal}
use Rattle.semantics.specs.Language.{Language, Calls, does, errs}
use Rattle.semantics.specs.Steps.{on, throw, Query, context, Contexts, Moment, Element, goal, mark, collector, back}
use Rattle.semantics.specs.Steps.{goes, tells, rebound, taking, marking, tries, retries, raise, list_size, land}
use Rattle.semantics.specs.Steps.{throw_to, act, step_at}
use Rattle.semantics.specs.Tree.{at, leave, Items, out, walked, visit, and_then, thrown, each_rule, each_retract, close}
use Rattle.semantics.specs.Tree.{over, walk}
use Rattle.semantics.proofs.RunsProperties.{here, moves, speaks, runs_once}
use Rattle.semantics.proofs.Standing.{Base, Marks, Balls, with_mark, with_ball, later, later_m, later_b, Sink, tells_it}
use Rattle.semantics.proofs.Standing.{keeps_it, Aims, nowhere, towards, Stops, bare, behind, Stands, done, goes_on}
use Rattle.semantics.proofs.Standing.{goes_call, goes_fail, goes_off}
use Rattle.semantics.proofs.StandingProperties.{stands_aims, later_stands, goal_skipped, under, under_tries}
use Rattle.semantics.proofs.StandingProperties.{under_retries, above_mark, above_ball, bears_new, fresh, beside}
use Rattle.semantics.proofs.Claims.{first, at_out, at_ball, at_uncaught, at_beyond, Claim, claim}
use Rattle.semantics.proofs.ClaimsProperties.{unshown, claim_visit, claim_try, claim_step, claim_open, claim_slack}
use Rattle.semantics.proofs.ClaimsProperties.{claim_cut, claim_then, claim_close, claim_handle, claim_collect}

-- what is shown of each walk to the height h
abbrev pub Sound : Language → ℕ → Type 0
Sound l h =
    (ρ : Marks) (β : Balls) (f : Bool) (q : Items) (o : List ℕ) (q' : Query) (c : Contexts) (k : Base)
    (p : Moment) (r : Rules) →
    Stands l ρ β f p.marker q o q' c k →
    Claim l h 0 r (goal q' c p ∷ k []) k ρ β f o (walk l h q o p.env p.marker r)

-- an answer is told, or joins a collector
answers : {l : Language} {h n : ℕ} {f : Bool} {o : List ℕ} {c : Contexts} {k : Base} {ρ : Marks} {β : Balls}
    (p : Moment) (r : Rules) → Stops n c k → Sink l f k →
    Claim l h 0 r (goal [] c p ∷ k []) k ρ β f o (walked (p.env ∷ []) out r 1)
answers {l} {k} p r bare (tells_it e i) =
    let z : step_at l (goal [] [] p) r (k []) ≡ tells p.env r (k (p.env ∷ [])) = rw (e [])
    (ap (tells p.env r) (i [] p.env)) in
    claim {n = 1} (omega arith) (speaks z here) at_out
answers {l} {k} p r bare (keeps_it e i) =
    let z : step_at l (goal [] [] p) r (k []) ≡ goes r (k (p.env ∷ [])) = rw (e []) (ap (goes r) (i [] p.env)) in
    claim {n = 1} (omega arith) (moves z here) at_out
answers {l} {k} p r (behind {m} {d} {u} {q} {c} x y) (tells_it e i) =
    let z : step_at l (goal [] (context m d u q ∷ c) p) r (k []) ≡ tells p.env r (k (p.env ∷ [])) = rw
    (y [], e []) (ap (tells p.env r) (i [] p.env)) in
    claim {n = 1} (omega arith) (speaks z here) at_out
answers {l} {k} p r (behind {m} {d} {u} {q} {c} x y) (keeps_it e i) =
    let z : step_at l (goal [] (context m d u q ∷ c) p) r (k []) ≡ goes r (k (p.env ∷ [])) = rw (y [], e [])
    (ap (goes r) (i [] p.env)) in
    claim {n = 1} (omega arith) (moves z here) at_out

-- a step that throws the ball e
balled : {l : Language} {h n : ℕ} {o : List ℕ} {c : Contexts} {k : Base} {ρ : Marks} {β : Balls} (f : Bool) (e : Term)
    (r : Rules) (x : Element) → Aims l β n o c k → step_at l x r (k []) ≡ throw_to l e c r (k []) →
    Claim l h 1 r (x ∷ k []) k ρ β f o (thrown e o r)
balled f e r x nowhere z = claim {n = 0} (omega arith) (unshown f here) (at_uncaught z)
balled f e r x (towards d i) z = claim {n = 1} (omega arith) (unshown f (runs_once (z
    ∙ ap (goes r) (i e [])))) (at_ball first)

-- the same at a node of the tree
balled_node : {l : Language} {h n : ℕ} {o : List ℕ} {c : Contexts} {k : Base} {ρ : Marks} {β : Balls} (f : Bool)
    (e : Term)
    (r : Rules) (x : Element) → Aims l β n o c k → step_at l x r (k []) ≡ throw_to l e c r (k []) →
    Claim l h 0 r (x ∷ k []) k ρ β f o (visit (thrown e o r))
balled_node f e r x nowhere z = claim {n = 0} (omega arith) (unshown f here) (at_uncaught z)
balled_node f e r x (towards d i) z =
    claim {n = 1} (omega arith) (unshown f (runs_once (z ∙ ap (goes r) (i e [])))) (at_ball first)

module _ (l : Language) (h : ℕ) (ih : Sound l h) (f : Bool) (q : Items) (o : List ℕ) (q' : Query) (c : Contexts)
    (p : Moment) where
  -- each rule in its turn
  by_rules : (g : Term) (xs : List Live) (ρ : Marks) (β : Balls) (k : Base) (r : Rules) →
      Stands l ρ β f p.marker q o q' c k →
      Claim l h 0 r (tries g xs q' c p (mark p.marker p ∷ k [])) (λ ys. mark p.marker p ∷ k ys)
      (with_mark ρ p.marker (λ ys. mark p.marker p ∷ k ys)) β f o
      (each_rule l (walk l h) g xs q o p.env p.marker r)
  by_rules g [] ρ β k r z = claim {n = 0} (omega arith) (unshown f here) at_out
  by_rules g (live i x ∷ xs) ρ β k r z =
      go (l.enter p.env g x) refl (λ ws r'. by_rules g xs (later_m ws ρ) (later_b ws β)
      (later ws k) r' (later_stands ws z))
    where
      go : (y : Option (Env × Term)) → l.enter p.env g x ≡ y →
          ((ws : List Env) (r' : Rules) →
          Claim l h 0 r' (tries g xs q' c p (mark p.marker p ∷ k (ws ++ [])))
          (λ ys. mark p.marker p ∷ k (ws ++ ys))
          (later_m ws (with_mark ρ p.marker (λ ys. mark p.marker p ∷ k ys))) (later_b ws β) f o
          (each_rule l (walk l h) g xs q o p.env p.marker r')) →
          Claim l h 0 r (tries g (live i x ∷ xs) q' c p (mark p.marker p ∷ k [])) (λ ys. mark p.marker p ∷ k ys)
          (with_mark ρ p.marker (λ ys. mark p.marker p ∷ k ys)) β f o
          (visit (elim y [
            | none ↦ each_rule l (walk l h) g xs q o p.env p.marker r
            | some y ↦ and_then (walk l h (at y.1 p.marker ∷ q) o y.0 (suc p.marker) r)
                (λ r'. each_rule l (walk l h) g xs q o p.env p.marker r')
          ]))
      go none e u = claim_try (rw (e, step_at)) (omega arith) (u [] r)
      go (some y) e u =
          claim_try (rw (e, step_at)) (omega arith)
          (claim_then _ (ih _ β f _ o _ c _ (rebound y.0 (marking (clause_size x + 1) p)) r
          (under_tries (fresh y.1 p z) g xs q' c p)) u)

  -- each rule that is taken back, in its turn
  by_retracts : (h' t : Term) (xs : List Live) (ρ : Marks) (β : Balls) (k : Base) (r : Rules) →
      Stands l ρ β f p.marker q o q' c k →
      Claim l h 0 r (retries h' t xs q' c p (k [])) k ρ β f o
      (each_retract l (walk l h) h' t xs q o p.env p.marker r)
  by_retracts h' t [] ρ β k r z = claim {n = 0} (omega arith) (unshown f here) at_out
  by_retracts h' t (live i x ∷ xs) ρ β k r z =
      go (l.matches p.env h' t x) refl
      (λ ws r'. by_retracts h' t xs (later_m ws ρ) (later_b ws β) (later ws k) r' (later_stands ws z))
    where
      go : (y : Option Env) → l.matches p.env h' t x ≡ y →
          ((ws : List Env) (r' : Rules) →
          Claim l h 0 r' (retries h' t xs q' c p (k (ws ++ []))) (later ws k) (later_m ws ρ) (later_b ws β) f o
          (each_retract l (walk l h) h' t xs q o p.env p.marker r')) →
          Claim l h 0 r (retries h' t (live i x ∷ xs) q' c p (k [])) k ρ β f o
          (visit (elim y [
            | none ↦ each_retract l (walk l h) h' t xs q o p.env p.marker r
            | some b ↦ and_then (walk l h q o b p.marker (erase_rule i r))
                (λ r'. each_retract l (walk l h) h' t xs q o p.env p.marker r')
          ]))
      go none e u = claim_try (rw (e, step_at)) (omega arith) (u [] r)
      go (some b) e u =
          claim_try (rw (e, step_at)) (omega arith)
          (claim_then _ (ih ρ β f q o q' c _ (rebound b (taking (clause_size x) p)) (erase_rule i r)
          (under_retries z h' t xs q' c p)) u)

-- by what the first goal does
module _ (l : Language) (h : ℕ) (ih : Sound l h) (g : Term) (m : ℕ) (ρ : Marks) (β : Balls) (f : Bool) (q : Items)
    (o : List ℕ) (q' : Query) (c : Contexts) (k : Base) (p : Moment) (r : Rules)
    (x : Stands l ρ β f p.marker q o q' c k) where
  abbrev Here : Action → Type 0
  Here a =
      step_at l (goal (on g m ∷ q') c p) r (k []) ≡ act l a g m q' c p r (k []) →
      Claim l (suc h) 0 r (goal (on g m ∷ q') c p ∷ k []) k ρ β f o
      (visit (over l (walk l h) a g m q o p.env p.marker r))

  by_calls : (t : Term) → Here (calls t)
  by_calls t e =
      claim_visit e (omega arith) (claim_close p.marker _ (ih _ β f _ o _ c _ (marking _ p) r (fresh t _ x)))

  by_nots : (t : Term) → Here (nots t)
  by_nots t e =
      claim_visit e (omega arith) (claim_close n _ (claim_then _
      (ih ρ' β f _ o _ c (λ ys. goal q' c (marking 4 p) ∷ k' ys)
      (marking 4 p) r (under (goal_skipped q' c (marking 4 p)) inner))
      (λ ws r'. ih (later_m ws ρ') (later_b ws β) f q o q' c (later ws k') (marking 4 p) r'
      (later_stands ws (above_mark (taking 4 p) k' x)))))
    where
      n : ℕ
      n = p.marker

      k' : Base
      k' ys = mark n (taking 4 p) ∷ k ys

      ρ' : Marks
      ρ' = with_mark ρ n k'

      inner : Stands l ρ' β f (suc n) (at (call_of t) n ∷ at cut_goal n ∷ at fail_goal n ∷ []) o
          (on (call_of t) n ∷ on cut_goal n ∷ on fail_goal n ∷ []) c k'
      inner = goes_call (bears_new ρ cut_goal (taking 4 p) (goes_fail (stands_aims (above_mark (taking 4 p) k' x))))

  by_throws : (e : Term) → Here (throws e)
  by_throws e z = balled_node f e r _ (stands_aims x) z

  -- an error: one step, and then the throw
  raised : (e : Term) → step_at l (goal (on g m ∷ q') c p) r (k []) ≡ raise e q' c p r (k []) →
      Claim l (suc h) 0 r (goal (on g m ∷ q') c p ∷ k []) k ρ β f o (visit (thrown e o r))
  raised e z = claim_visit z (omega arith) (balled f e r (goal (throw e ∷ q') c (taking (size e + 2) p))
      (stands_aims x) refl)

  by_catches : (t d u : Term) → Here (catches t d u)
  by_catches t d u e =
      claim_visit e (omega arith) (claim_handle n (taking 2 p) v _
      (ih ρ (with_ball β n v) f _ (n ∷ o) _ (context n d u q' ∷ c) (λ ys. mark n (taking 2 p) ∷ k ys)
      (marking 2 p) r inner)
      (λ a ws r'. go a ws r' (l.accept p.env a d)))
    where
      n : ℕ
      n = p.marker

      v : Term → Base
      v a ys = land l a d u q' c (mark n (taking 2 p) ∷ k ys)

      inner : Stands l ρ (with_ball β n v) f (suc n) (at (call_of t) 0 ∷ leave n ∷ q) (n ∷ o) (on (call_of t) 0 ∷ [])
          (context n d u q' ∷ c) (λ ys. mark n (taking 2 p) ∷ k ys)
      inner =
          let j : eqb n n ≡ true = eq-eqb n n refl in
          goes_call (goes_off (omega arith) (λ ys. rw j) (towards (omega arith) (λ a ys. rw j))
          (above_ball (taking 2 p) v x))

      landed : Term → Env → Moment
      landed a b = record { env = b; marker = n; units = (taking 2 p).units + (size a + 2) }

      go : (a : Term) (ws : List Env) (r' : Rules) (z : Option Env) →
          Claim l h 1 r'
          (elim z [
            | none ↦ goal (throw a ∷ []) c (landed a p.env) ∷ k (ws ++ [])
            | some b ↦ goal (on (call_of u) 0 ∷ q') c (landed a b) ∷ k (ws ++ [])
          ])
          (later ws k) (later_m ws ρ) (later_b ws β) f o
          (elim z [ none ↦ thrown a o r' | some b ↦ walk l h (at (call_of u) 0 ∷ q) o b n r' ])
      go a ws r' none = balled f a r' _ (stands_aims (later_stands ws x)) refl
      go a ws r' (some b) =
          claim_slack (ih (later_m ws ρ) (later_b ws β) f _ o _ c (later ws k)
          (landed a b) r' (goes_call (later_stands ws x)))

  by_finds : (t y s : Term) → Here (finds t y s)
  by_finds t y s e =
      claim_visit e (omega arith) (claim_collect _
      (ih (λ m xs. ρ m []) (λ m a xs. β m a []) true _ o _ c k' (taking 2 p) r (goes_call (inner (stands_aims x))))
      (λ ys r'. go ys r' (l.gather p.env (map (λ a. l.copy_of a t) ys) s) refl))
    where
      k' : Base
      k' ys = collector t s q' c (map (λ a. l.copy_of a t) ys) (taking 2 p) ∷ k []

      sink : Sink l true k'
      sink =
          keeps_it (λ ys. refl)
          (λ ys a. ap (λ zs. collector t s q' c zs (taking 2 p) ∷ k [])
          (sym (map-append (λ a. l.copy_of a t) ys (a ∷ []))))

      inner : {o : List ℕ} {c' : Contexts} → Aims l β p.marker o c' k →
          Stands l (λ m xs. ρ m []) (λ m a xs. β m a []) true p.marker [] o [] c' k'
      inner nowhere = done nowhere bare sink
      inner (towards d i) = done (towards d (λ a ys. i a [])) (behind d (λ ys. refl)) sink

      go : (ys : List Env) (r' : Rules) (z : Option Env) → l.gather p.env (map (λ a. l.copy_of a t) ys) s ≡ z →
          Claim l h 1 r' (k' ys) k ρ β f o
          (elim z [ none ↦ walked [] out r' 0 | some b ↦ walk l h q o b p.marker r' ])
      go ys r' none e = claim {n = 1} (omega arith) (unshown f (runs_once (rw (e, step_at)))) at_out
      go ys r' (some b) e =
          claim_step (rw (e, step_at))
          (ih ρ β f q o q' c k (rebound b (taking (list_size (map (λ a. l.copy_of a t) ys)) (taking 2 p))) r' x)

  by_invokes : (a : List ℕ) (i : ℕ) → Here (invokes a i)
  by_invokes a i e = go (r.known a i) e
    where
      go : (b : Bool) →
          step_at l (goal (on g m ∷ q') c p) r (k []) ≡
          cond b (goes r (tries g (live_rules r a i) q' c p (mark p.marker p ∷ k [])))
          (raise (error_at (no_procedure a i) a i) q' c p r (k [])) →
          Claim l (suc h) 0 r (goal (on g m ∷ q') c p ∷ k []) k ρ β f o
          (visit (cond b (close p.marker (each_rule l (walk l h) g (live_rules r a i) q o p.env p.marker r))
          (thrown (error_at (no_procedure a i) a i) o r)))
      go true e =
          claim_visit e (omega arith)
          (claim_close p.marker p (by_rules l h ih f q o q' c p g (live_rules r a i) ρ β k r x))
      go false e = raised (error_at (no_procedure a i) a i) e

  by_action : (a : Action) → m < p.marker → ((xs : List Env) → back m (k xs) ≡ ρ m xs) →
      ((xs : List Env) → back m (ρ m xs) ≡ ρ m xs) → Stands l ρ β f p.marker q o q' c (ρ m) → Here a
  by_action (go_on b) d i j y e = claim_visit e (omega arith) (ih ρ β f q o q' c k (rebound b p) r x)
  by_action leaves d i j y e = claim {n = 1} (omega arith) (unshown f (runs_once e)) at_out
  by_action (both s t) d i j y e = claim_visit e (omega arith) (ih ρ β f _ o _ c k (taking 2 p) r (beside s d i j x y))
  by_action (either s t) d i j y e =
      claim_visit e (omega arith) (claim_then _
      (ih ρ β f _ o _ c (λ ys. goal (on t m ∷ q') c (taking 2 p) ∷ k ys) (taking 2 p) r
      (under (goal_skipped (on t m ∷ q') c (taking 2 p)) (goes_on d i j x y)))
      (λ ws r'. ih (later_m ws ρ) (later_b ws β) f _ o _ c (later ws k)
      (taking 2 p) r' (later_stands ws (goes_on d i j x y))))
  by_action cuts d i j y e =
      claim_visit (e ∙ ap (λ s. goes r (goal q' c p ∷ s)) (i [])) (omega arith)
      (claim_cut m (ih ρ β f q o q' c (ρ m) p r y))
  by_action (calls t) d i j y e = by_calls t e
  by_action (calling t) d i j y e =
      claim_visit e (omega arith) (ih ρ β f _ o _ c k (taking (3 + arity_of t) p) r (goes_call x))
  by_action (nots t) d i j y e = by_nots t e
  by_action (catches t a u) d i j y e = by_catches t a u e
  by_action (throws a) d i j y e = by_throws a e
  by_action (raises a) d i j y e = raised a e
  by_action (finds t y' s) d i j y e = by_finds t y' s e
  by_action (invokes a n) d i j y e = by_invokes a n e
  by_action (retracts h' t) d i j y e =
      claim_visit e (omega arith) (by_retracts l h ih f q o q' c p h' t (live_rules r (name_of h')
      (arity_of h')) ρ β k r x)
  by_action (stores a z) d i j y e = claim_visit e (omega arith) (ih ρ β f q o q' c k p (add_rule a z r) x)

pub sound : (l : Language) (h : ℕ) → Sound l h
sound l zero ρ β f q o q' c k p r z = claim {n = 0} (omega arith) (unshown f here) (at_beyond (omega arith))
sound l (suc h) ρ β f q o q' c k p r (done a s i) = answers p r s i
sound l (suc h) ρ β f q o q' c k p r (goes_on {g} {m} {q = u} {q' = u'} d e i x y) =
    by_action l h (sound l h) g m ρ β f u o u' c k p r x (l.action p.env g) d e i y refl
sound l (suc h) ρ β f q o q' c k p r (goes_call {g} {m} {q = u} {q' = u'} x) =
    go (sound l h) (l.action p.env (call_of g)) (l.call_calls p.env g) refl
  where
    go : Sound l h → (a : Action) → Calls a →
        act l (l.action p.env (call_of g)) (call_of g) m u' c p r (k []) ≡ act l a (call_of g) m u' c p r (k []) →
        Claim l (suc h) 0 r (goal (on (call_of g) m ∷ u') c p ∷ k []) k ρ β f o
        (visit (over l (walk l h) a (call_of g) m u o p.env p.marker r))
    go ih a (does t) e = by_calls l h ih (call_of g) m ρ β f u o u' c k p r x t e
    go ih a (errs t) e = raised l h ih (call_of g) m ρ β f u o u' c k p r x t e
sound l (suc h) ρ β f q o q' c k p r (goes_fail {m} {q = u} {q' = u'} x) =
    let e : step_at l (goal (on fail_goal m ∷ u') c p) r (k []) ≡ goes r (k []) = rw (l.fail_leaves p.env) in
    rw (l.fail_leaves p.env) (claim {n = 1} {v = 1} (omega arith) (unshown f (runs_once e)) at_out)
sound l (suc h) ρ β f q o q' c k p r (goes_off {m} {d} {u = y} {q = u} {o = v} {q' = u'} {c = c'} i e a x) =
    let z : step_at l (goal [] (context m d y u' ∷ c') p) r (k []) ≡ goes r (goal u' c' p ∷ k []) = rw (e []) in
    claim_visit z (omega arith) (claim_open m (sound l h ρ β f u v u' c' k p r x))
