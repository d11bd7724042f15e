-- How claims join: a step before, answers before, a marker or a collector below, and one walk then another.
use Rattle.std.proofs.Common.{◌≡◌, ℕ, suc, ◌+◌, ◌*◌, ◌≤◌, Bool, true, false, cond, eqb, List, [], ◌∷◌, ◌++◌, refl}
use Rattle.std.proofs.Common.{append-nil, arith}
use borrow.Author.Tests.{eqb-false}
use Rattle.terms.specs.Term.{Term}
use Rattle.semantics.specs.Rules.{Rules}
use Rattle.semantics.specs.Environment.{Env}
use Rattle.semantics.specs.Language.{Language}
use Rattle.semantics.specs.Steps.{Moment, Element, mark, State, goes, step_at}
use Rattle.semantics.specs.Tree.{Ending, out, cut, ball, Walk, walked, after, visit, and_then, close, after_cut, handle}
use Rattle.semantics.specs.Tree.{collect}
use Rattle.semantics.proofs.RunsProperties.{Runs, moves, runs_then, runs_on}
use Rattle.semantics.proofs.Standing.{Base, Marks, Balls, with_mark, with_ball, later, later_m, later_b}
use Rattle.semantics.proofs.Claims.{shown, In, first, next, Lands, at_out, at_cut, at_ball, at_uncaught, at_beyond}
use Rattle.semantics.proofs.Claims.{Claim, claim}

shown_append : (f : Bool) (xs ys : List Env) → shown f (xs ++ ys) ≡ shown f xs ++ shown f ys
shown_append true xs ys = refl
shown_append false xs ys = refl

-- nothing told is nothing shown
pub unshown : {l : Language} {n : ℕ} {r r' : Rules} {s s' : State} (f : Bool) →
    Runs l n r s [] r' s' → Runs l n r s (shown f []) r' s'
unshown true c = c
unshown false c = c

pub not_in : {m : ℕ} → In m [] → ⊥
not_in i = elim i [ ]

-- a ball for another marker is not for this one
out_of : {m n : ℕ} {o : List ℕ} → In m (n ∷ o) → (m ≡ n → ⊥) → In m o
out_of first d = absurd (d refl)
out_of (next i) d = i

module _ {l : Language} {k : Base} {ρ : Marks} {β : Balls} {o : List ℕ} {r : Rules} where
  -- more steps, of which at least as many more as the height
  lands_more : {h h' n n' : ℕ} {xs : List Env} {r' : Rules} {s : State} {e : Ending} → (h ≤ n → h' ≤ n') →
      Lands l h n k ρ β o xs r e r' s → Lands l h' n' k ρ β o xs r e r' s
  lands_more d at_out = at_out
  lands_more d at_cut = at_cut
  lands_more d (at_ball i) = at_ball i
  lands_more d (at_uncaught z) = at_uncaught z
  lands_more d (at_beyond i) = at_beyond (d i)

  -- after the answers xs
  lands_after : {h n n' : ℕ} (xs : List Env) {ys : List Env} {r' : Rules} {s : State} {e : Ending} → n ≤ n' →
      Lands l h n (later xs k) (later_m xs ρ) (later_b xs β) o ys r e r' s → Lands l h n' k ρ β o (xs ++ ys) r e r' s
  lands_after xs d at_out = at_out
  lands_after xs d at_cut = at_cut
  lands_after xs d (at_ball i) = at_ball i
  lands_after xs d (at_uncaught z) = at_uncaught z
  lands_after xs d (at_beyond i) = at_beyond (omega arith)

  -- under one more open catch
  lands_open : {h n : ℕ} {xs : List Env} {r' : Rules} {s : State} {e : Ending} (m : ℕ) →
      Lands l h n k ρ β o xs r e r' s → Lands l h n k ρ β (m ∷ o) xs r e r' s
  lands_open m at_out = at_out
  lands_open m at_cut = at_cut
  lands_open m (at_ball i) = at_ball (next i)
  lands_open m (at_uncaught z) = at_uncaught z
  lands_open m (at_beyond i) = at_beyond i

module _ {l : Language} {h j : ℕ} {r : Rules} {s : State} {k : Base} {ρ : Marks} {β : Balls} {f : Bool} {o : List ℕ} where
  -- one step, at a node that is visited
  pub claim_visit : {x : Element} {r' : Rules} {s' : State} {w : Walk} → step_at l x r s ≡ goes r' s' → j ≤ 1 →
      Claim l h j r' s' k ρ β f o w → Claim l (suc h) 0 r (x ∷ s) k ρ β f o (visit w)
  claim_visit e i (claim {n} {v} d c z) =
      claim {n = suc n} (omega arith) (moves e c) (lands_more (λ u. omega arith) z)

  -- the same, where the height is not yet used
  pub claim_try : {x : Element} {r' : Rules} {s' : State} {w : Walk} → step_at l x r s ≡ goes r' s' → j ≤ 1 →
      Claim l h j r' s' k ρ β f o w → Claim l h 0 r (x ∷ s) k ρ β f o (visit w)
  claim_try e i (claim {n} {v} d c z) =
      claim {n = suc n} (omega arith) (moves e c) (lands_more (λ u. omega arith) z)

  -- one step that no node counts for
  pub claim_step : {x : Element} {r' : Rules} {s' : State} {w : Walk} → step_at l x r s ≡ goes r' s' →
      Claim l h j r' s' k ρ β f o w → Claim l h (suc j) r (x ∷ s) k ρ β f o w
  claim_step e (claim {n} {v} d c z) =
      claim {n = suc n} (omega arith) (moves e c) (lands_more (λ u. omega arith) z)

  pub claim_open : {w : Walk} (m : ℕ) → Claim l h j r s k ρ β f o w → Claim l h j r s k ρ β f (m ∷ o) w
  claim_open m (claim d c z) = claim d c (lands_open m z)

  pub claim_slack : {w : Walk} → Claim l h j r s k ρ β f o w → Claim l h (suc j) r s k ρ β f o w
  claim_slack (claim d c z) = claim (omega arith) c z

  -- a run that told the answers xs in at most 2 v steps, and then a claim
  claim_after : {n : ℕ} {r' : Rules} {s' : State} {w : Walk} (xs : List Env) (v : ℕ) → n ≤ 0 + 2 * v →
      Runs l n r s (shown f xs) r' s' → Claim l h j r' s' (later xs k) (later_m xs ρ) (later_b xs β) f o w →
      Claim l h j r s k ρ β f o (after xs v w)
  claim_after {n} xs v a b (claim {xs = ys} {n = n'} {v = v'} d c z) =
      claim {n = n + n'} (omega arith) (rw (shown_append f xs ys) (runs_then b c)) (lands_after xs (omega arith) z)

  pub claim_cut : (m : ℕ) {w : Walk} → Claim l h j r s (ρ m) ρ β f o w → Claim l h j r s k ρ β f o (after_cut m w)
  claim_cut m (claim d c at_out) = claim d c at_cut
  claim_cut m (claim d c at_cut) = claim d c at_cut
  claim_cut m (claim d c (at_ball i)) = claim d c (at_ball i)
  claim_cut m (claim d c (at_uncaught z)) = claim d c (at_uncaught z)
  claim_cut m (claim d c (at_beyond z)) = claim d c (at_beyond z)

  -- one walk, and then another from where the first ended out
  pub claim_then : {k' : Base} {u : Walk} (w : Rules → Walk) → Claim l h 0 r s k' ρ β f o u →
      ((xs : List Env) (r' : Rules) →
      Claim l h j r' (k' (xs ++ [])) (later xs k) (later_m xs ρ) (later_b xs β) f o (w r')) →
      Claim l h j r s k ρ β f o (and_then u w)
  claim_then w (claim {xs} {r'} {v} d c at_out) y = claim_after xs v d (rw append-nil c) (y xs r')
  claim_then w (claim d c at_cut) y = claim (omega arith) c at_cut
  claim_then w (claim d c (at_ball i)) y = claim (omega arith) c (at_ball i)
  claim_then w (claim d c (at_uncaught z)) y = claim (omega arith) c (at_uncaught z)
  claim_then w (claim d c (at_beyond z)) y = claim (omega arith) c (at_beyond z)

module _ {l : Language} {h : ℕ} {r : Rules} {s : State} {k : Base} {ρ : Marks} {β : Balls} {f : Bool} {o : List ℕ} where
  -- the marker below leaves
  passed : {xs : List Env} {r' : Rules} {m n v : ℕ} {p : Moment} → n ≤ 0 + 2 * v →
      Runs l n r s (shown f xs) r' (mark m p ∷ k xs) → Claim l h 1 r s k ρ β f o (walked xs out r' v)
  passed {n} d c = claim {n = n + 1} (omega arith) (runs_on c refl) at_out

  -- above a new marker for cuts
  pub claim_close : {w : Walk} (n : ℕ) (p : Moment) →
      Claim l h 0 r s (λ xs. mark n p ∷ k xs) (with_mark ρ n (λ xs. mark n p ∷ k xs)) β f o w →
      Claim l h 1 r s k ρ β f o (close n w)
  claim_close n p (claim d c at_out) = passed d c
  claim_close n p (claim {xs} {r'} {n = i} {v} d c (at_cut {m})) = go (eqb m n) c
    where
      go : (t : Bool) → Runs l i r s (shown f xs) r' (cond t (mark n p ∷ k xs) (ρ m xs)) →
          Claim l h 1 r s k ρ β f o (walked xs (cond t out (cut m)) r' v)
      go true c = passed d c
      go false c = claim (omega arith) c at_cut
  claim_close n p (claim d c (at_ball i)) = claim (omega arith) c (at_ball i)
  claim_close n p (claim d c (at_uncaught z)) = claim (omega arith) c (at_uncaught z)
  claim_close n p (claim d c (at_beyond z)) = claim (omega arith) c (at_beyond z)

  -- above a new marker for balls
  pub claim_handle : {w : Walk} (n : ℕ) (p : Moment) (a : Term → Base) (u : Term → Rules → Walk) →
      Claim l h 0 r s (λ xs. mark n p ∷ k xs) ρ (with_ball β n a) f (n ∷ o) w →
      ((e : Term) (xs : List Env) (r' : Rules) →
      Claim l h 1 r' (a e (xs ++ [])) (later xs k) (later_m xs ρ) (later_b xs β) f o (u e r')) →
      Claim l h 1 r s k ρ β f o (handle n u w)
  claim_handle n p a u (claim d c at_out) y = passed d c
  claim_handle n p a u (claim d c at_cut) y = claim (omega arith) c at_cut
  claim_handle n p a u (claim {xs} {r'} {n = i} {v} d c (at_ball {e} {m} z)) y = go (eqb m n) refl c
    where
      go : (t : Bool) → eqb m n ≡ t → Runs l i r s (shown f xs) r' (cond t (a e xs) (β m e xs)) →
          Claim l h 1 r s k ρ β f o (cond t (after xs v (u e r')) (walked xs (ball e m) r' v))
      go true q c = claim_after xs v d (rw append-nil c) (y e xs r')
      go false q c = claim (omega arith) c (at_ball (out_of z (eqb-false m n q)))
  claim_handle n p a u (claim d c (at_uncaught z)) y = claim (omega arith) c (at_uncaught z)
  claim_handle n p a u (claim d c (at_beyond z)) y = claim (omega arith) c (at_beyond z)

  -- above a collector, while nothing is told
  pub claim_collect : {k' : Base} {w : Walk} (u : List Env → Rules → Walk) →
      Claim l h 0 r s k' (λ m xs. ρ m []) (λ m e xs. β m e []) true o w →
      ((xs : List Env) (r' : Rules) → Claim l h 1 r' (k' xs) k ρ β f o (u xs r')) →
      Claim l h 1 r s k ρ β f o (collect u w)
  claim_collect u (claim {xs} {r'} {v} d c at_out) y = claim_after [] v d (unshown f c) (y xs r')
  claim_collect u (claim d c at_cut) y = claim (omega arith) (unshown f c) at_cut
  claim_collect u (claim d c (at_ball i)) y = claim (omega arith) (unshown f c) (at_ball i)
  claim_collect u (claim d c (at_uncaught z)) y = claim (omega arith) (unshown f c) (at_uncaught z)
  claim_collect u (claim d c (at_beyond z)) y = claim (omega arith) (unshown f c) (at_beyond z)
