-- A walk ends in a cut only to a marker that its query bears.
use Rattle.std.proofs.Common.{◌≡◌, ℕ, zero, suc, Bool, true, false, cond, eqb, ◌⊎◌, List, [], ◌∷◌, map, refl, inl, inr}
use mathlib.Core.Option.{Option, none, some}
use borrow.Author.Tests.{eqb-false}
use Rattle.terms.specs.Term.{Term}
use Rattle.semantics.specs.Rules.{Rules, Live, live, live_rules, erase_rule, add_rule, name_of, arity_of}
use Rattle.semantics.specs.Environment.{Env}
use Rattle.semantics.specs.Errors.{error_at, no_procedure}
use Rattle.semantics.specs.Actions.{Action, go_on, leaves, both, either, cuts, calls, calling, nots, catches, throws}
use Rattle.semantics.specs.Actions.{raises, finds, invokes, retracts, stores, call_of}
use Rattle.semantics.specs.Language.{Language}
use Rattle.semantics.specs.Tree.{at, leave, Items, Ending, out, cut, ball, uncaught, beyond, Walk, walked, after, visit}
use Rattle.semantics.specs.Tree.{and_then, close, after_cut, handle, collect, thrown, rest, Walker, each_rule}
use Rattle.semantics.specs.Tree.{each_retract, recover, collected, over, walk}

abbrev Marked : Type 1
Marked = ℕ → Type 0

-- the balls that a walk may end in are for catches of this list; the cuts are to such markers
pub data Within (P : Marked) : Ending → Type 0 where
  by_out : Within P out
  by_cut : {m : ℕ} → P m → Within P (cut m)
  by_ball : {e : Term} {m : ℕ} → Within P (ball e m)
  by_uncaught : {e : Term} → Within P (uncaught e)
  by_beyond : Within P beyond

pub data Only (P : Marked) : Walk → Type 0 where
  only : {xs : List Env} {e : Ending} {r : Rules} {v : ℕ} → Within P e → Only P (walked xs e r v)

data Bears (P : Marked) : Items → Type 0 where
  bears_none : Bears P []
  bears_at : {g : Term} {m : ℕ} {q : Items} → P m → Bears P q → Bears P (at g m ∷ q)
  bears_leave : {m : ℕ} {q : Items} → Bears P q → Bears P (leave m ∷ q)

abbrev Also : Marked → ℕ → Marked
Also P n m = (m ≡ n) ⊎ P m

more_bears : {P : Marked} {q : Items} (n : ℕ) → Bears P q → Bears (Also P n) q
more_bears n bears_none = bears_none
more_bears n (bears_at p c) = bears_at (inr p) (more_bears n c)
more_bears n (bears_leave c) = bears_leave (more_bears n c)

module _ {P : Marked} where
  only_after : (xs : List Env) (v : ℕ) {w : Walk} → Only P w → Only P (after xs v w)
  only_after xs v (only c) = only c

  only_visit : {w : Walk} → Only P w → Only P (visit w)
  only_visit (only c) = only c

  only_then : {u : Walk} (w : Rules → Walk) → Only P u → ((r : Rules) → Only P (w r)) → Only P (and_then u w)
  only_then w (only {xs} {r} {v} by_out) d = only_after xs v (d r)
  only_then w (only (by_cut p)) d = only (by_cut p)
  only_then w (only by_ball) d = only by_ball
  only_then w (only by_uncaught) d = only by_uncaught
  only_then w (only by_beyond) d = only by_beyond

  only_cut : (m : ℕ) {w : Walk} → P m → Only P w → Only P (after_cut m w)
  only_cut m p (only by_out) = only (by_cut p)
  only_cut m p (only (by_cut q)) = only (by_cut q)
  only_cut m p (only by_ball) = only by_ball
  only_cut m p (only by_uncaught) = only by_uncaught
  only_cut m p (only by_beyond) = only by_beyond

  only_close : (n : ℕ) {w : Walk} → Only (Also P n) w → Only P (close n w)
  only_close n (only by_out) = only by_out
  only_close n (only {xs} {r} {v} (by_cut {m} p)) = only (go (eqb m n) refl p)
    where
      go : (t : Bool) → eqb m n ≡ t → Also P n m → Within P (cond t out (cut m))
      go true e p = by_out
      go false e (inl z) = absurd (eqb-false m n e z)
      go false e (inr p) = by_cut p
  only_close n (only by_ball) = only by_ball
  only_close n (only by_uncaught) = only by_uncaught
  only_close n (only by_beyond) = only by_beyond

  only_handle : (n : ℕ) {w : Walk} (u : Term → Rules → Walk) → Only P w →
      ((e : Term) (r : Rules) → Only P (u e r)) → Only P (handle n u w)
  only_handle n u (only by_out) d = only by_out
  only_handle n u (only (by_cut p)) d = only (by_cut p)
  only_handle n u (only {xs} {r} {v} (by_ball {e} {m})) d = go (eqb m n)
    where
      go : (t : Bool) → Only P (cond t (after xs v (u e r)) (walked xs (ball e m) r v))
      go true = only_after xs v (d e r)
      go false = only by_ball
  only_handle n u (only by_uncaught) d = only by_uncaught
  only_handle n u (only by_beyond) d = only by_beyond

  only_collect : {w : Walk} (u : List Env → Rules → Walk) → Only P w →
      ((xs : List Env) (r : Rules) → Only P (u xs r)) → Only P (collect u w)
  only_collect u (only {xs} {r} {v} by_out) d = only_after [] v (d xs r)
  only_collect u (only (by_cut p)) d = only (by_cut p)
  only_collect u (only by_ball) d = only by_ball
  only_collect u (only by_uncaught) d = only by_uncaught
  only_collect u (only by_beyond) d = only by_beyond

  only_thrown : (e : Term) (o : List ℕ) (r : Rules) → Only P (thrown e o r)
  only_thrown e [] r = only by_uncaught
  only_thrown e (m ∷ o) r = only by_ball

module _ (l : Language) where
  abbrev Fine : Walker → Type 1
  Fine w =
      (P : Marked) → P 0 → (q : Items) (o : List ℕ) (b : Env) (n : ℕ) (r : Rules) → Bears P q → Only P (w q o b n r)

  module _ (w : Walker) (ih : Fine w) (P : Marked) (z : P 0) (q : Items) (o : List ℕ) (b : Env) (n : ℕ)
      (c : Bears P q) where
    fine_rules : (g : Term) (xs : List Live) (r : Rules) → Only (Also P n) (each_rule l w g xs q o b n r)
    fine_rules g [] r = only by_out
    fine_rules g (live i x ∷ xs) r = only_visit (go (l.enter b g x) (λ r'. fine_rules g xs r'))
      where
        go : (y : Option (Env × Term)) → ((r' : Rules) → Only (Also P n) (each_rule l w g xs q o b n r')) →
            Only (Also P n) (elim y [
              | none ↦ each_rule l w g xs q o b n r
              | some y ↦ and_then (w (at y.1 n ∷ q) o y.0 (suc n) r) (λ r'. each_rule l w g xs q o b n r')
            ])
        go none d = d r
        go (some y) d =
            only_then _ (ih (Also P n) (inr z) _ o _ (suc n) r (bears_at (inl refl) (more_bears n c))) d

    fine_retracts : (h t : Term) (xs : List Live) (r : Rules) → Only P (each_retract l w h t xs q o b n r)
    fine_retracts h t [] r = only by_out
    fine_retracts h t (live i x ∷ xs) r = only_visit (go (l.matches b h t x) (λ r'. fine_retracts h t xs r'))
      where
        go : (y : Option Env) → ((r' : Rules) → Only P (each_retract l w h t xs q o b n r')) →
            Only P (elim y [
              | none ↦ each_retract l w h t xs q o b n r
              | some b' ↦ and_then (w q o b' n (erase_rule i r)) (λ r'. each_retract l w h t xs q o b n r')
            ])
        go none d = d r
        go (some b') d = only_then _ (ih P z q o b' n _ c) d

    fine_recover : (d u e : Term) (r : Rules) → Only P (recover l w d u q o b n e r)
    fine_recover d u e r = go (l.accept b e d)
      where
        go : (t : Option Env) → Only P (elim t [ none ↦ thrown e o r | some b' ↦ w (at (call_of u) 0 ∷ q) o b' n r ])
        go none = only_thrown e o r
        go (some b') = ih P z _ o b' n r (bears_at z c)

    fine_collected : (t s : Term) (xs : List Env) (r : Rules) → Only P (collected l w t s q o b n xs r)
    fine_collected t s xs r = go (l.gather b (map (λ a. l.copy_of a t) xs) s)
      where
        go : (t : Option Env) → Only P (elim t [ none ↦ walked [] out r 0 | some b' ↦ w q o b' n r ])
        go none = only by_out
        go (some b') = ih P z q o b' n r c

    fine_invokes : (g : Term) (f : List ℕ) (a : ℕ) (r : Rules) (k : Bool) →
        Only P (cond k (close n (each_rule l w g (live_rules r f a) q o b n r))
        (thrown (error_at (no_procedure f a) f a) o r))
    fine_invokes g f a r true = only_close n (fine_rules g (live_rules r f a) r)
    fine_invokes g f a r false = only_thrown _ o r

    fine_action : (a : Action) (g : Term) (m : ℕ) → P m → (r : Rules) → Only P (over l w a g m q o b n r)
    fine_action (go_on b') g m p r = ih P z q o b' n r c
    fine_action leaves g m p r = only by_out
    fine_action (both s t) g m p r = ih P z _ o b n r (bears_at p (bears_at p c))
    fine_action (either s t) g m p r =
        only_then _ (ih P z _ o b n r (bears_at p c)) (λ r'. ih P z _ o b n r' (bears_at p c))
    fine_action cuts g m p r = only_cut m p (ih P z q o b n r c)
    fine_action (calls t) g m p r =
        only_close n (ih (Also P n) (inr z) _ o b (suc n) r (bears_at (inl refl) (more_bears n c)))
    fine_action (calling t) g m p r = ih P z _ o b n r (bears_at p c)
    fine_action (nots t) g m p r =
        only_close n (only_then _
        (ih (Also P n) (inr z) _ o b (suc n) r
        (bears_at (inl refl) (bears_at (inl refl) (bears_at (inl refl) bears_none))))
        (λ r'. ih (Also P n) (inr z) q o b (suc n) r' (more_bears n c)))
    fine_action (catches t d u) g m p r =
        only_handle n _ (ih P z _ (n ∷ o) b (suc n) r (bears_at z (bears_leave c))) (λ e r'. fine_recover d u e r')
    fine_action (throws e) g m p r = only_thrown e o r
    fine_action (raises e) g m p r = only_thrown e o r
    fine_action (finds t y s) g m p r =
        only_collect _ (ih P z _ o b n r (bears_at z bears_none)) (λ xs r'. fine_collected t s xs r')
    fine_action (invokes f a) g m p r = fine_invokes g f a r (r.known f a)
    fine_action (retracts h t) g m p r = fine_retracts h t (live_rules r (name_of h) (arity_of h)) r
    fine_action (stores e x) g m p r = ih P z q o b n (add_rule e x r) c

  fine : (h : ℕ) → Fine (walk l h)
  fine zero P z q o b n r c = only by_beyond
  fine (suc h) P z q o b n r bears_none = only by_out
  fine (suc h) P z q o b n r (bears_at {g} {m} {q = u} p c) =
      only_visit (fine_action (walk l h) (fine h) P z u o b n c (l.action b g) g m p r)
  fine (suc h) P z q o b n r (bears_leave {q = u} c) = only_visit (fine h P z u (rest o) b n r c)

-- the walk of a lone goal that bears 0 ends in no other cut
pub cuts_only_to_zero : (l : Language) (g : Term) (b : Env) (r : Rules) (h : ℕ) →
    Only (λ m. m ≡ 0) (walk l h (at g 0 ∷ []) [] b 1 r)
cuts_only_to_zero l g b r h = fine l h (λ m. m ≡ 0) refl (at g 0 ∷ []) [] b 1 r (bears_at refl bears_none)
