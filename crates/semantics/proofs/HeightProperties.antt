-- More height changes nothing that a walk reached, and only adds answers.
use Rattle.std.proofs.Common.{◌≡◌, ℕ, zero, suc, ◌≤◌, Bool, true, false, cond, eqb, List, [], ◌∷◌, ◌++◌, map, sym, refl}
use Rattle.std.proofs.Common.{ap, ◌∙◌, append_assoc, append-nil, arith}
use mathlib.Core.Option.{Option, none, some}
use Rattle.terms.specs.Term.{Term}
use Rattle.semantics.specs.Rules.{Rules, Live, live, live_rules, erase_rule, add_rule, name_of, arity_of}
use Rattle.semantics.specs.Environment.{Env}
use Rattle.semantics.specs.Errors.{error_at, no_procedure}
use Rattle.semantics.specs.Actions.{Action, go_on, leaves, both, either, cuts, calls, calling, nots, catches, throws}
use Rattle.semantics.specs.Actions.{raises, finds, invokes, retracts, stores, call_of}
use Rattle.semantics.specs.Language.{Language}
use Rattle.semantics.specs.Tree.{at, leave, Items, out, cut, ball, uncaught, beyond, Walk, walked, after, visit}
use Rattle.semantics.specs.Tree.{and_then, close, after_cut, handle, collect, thrown, rest, Walker, each_rule}
use Rattle.semantics.specs.Tree.{each_retract, recover, collected, over, walk}
use Rattle.semantics.specs.Theorem.{answers, Extends, same, further}

-- the answers of a walk that begins with those of another
abbrev Begins : List Env → Walk → Type 0
Begins xs w = (ys : List Env) × (answers w ≡ xs ++ ys)

begins_same : (w : Walk) → Begins (answers w) w
begins_same w = ([], sym (append-nil (answers w)))

begins_after : (xs : List Env) (v : ℕ) (w : Walk) → Begins xs (after xs v w)
begins_after xs v (walked ys e r i) = (ys, refl)

begins_visit : (w : Walk) → Begins (answers w) (visit w)
begins_visit (walked xs e r v) = ([], sym (append-nil xs))

begins_then : (w : Walk) (f : Rules → Walk) → Begins (answers w) (and_then w f)
begins_then (walked xs out r v) f = begins_after xs v (f r)
begins_then (walked xs (cut m) r v) f = ([], sym (append-nil xs))
begins_then (walked xs (ball e m) r v) f = ([], sym (append-nil xs))
begins_then (walked xs (uncaught e) r v) f = ([], sym (append-nil xs))
begins_then (walked xs beyond r v) f = ([], sym (append-nil xs))

begins_close : (m : ℕ) (w : Walk) → Begins (answers w) (close m w)
begins_close m (walked xs out r v) = ([], sym (append-nil xs))
begins_close m (walked xs (cut n) r v) = ([], sym (append-nil xs))
begins_close m (walked xs (ball e n) r v) = ([], sym (append-nil xs))
begins_close m (walked xs (uncaught e) r v) = ([], sym (append-nil xs))
begins_close m (walked xs beyond r v) = ([], sym (append-nil xs))

begins_cut : (m : ℕ) (w : Walk) → Begins (answers w) (after_cut m w)
begins_cut m (walked xs out r v) = ([], sym (append-nil xs))
begins_cut m (walked xs (cut n) r v) = ([], sym (append-nil xs))
begins_cut m (walked xs (ball e n) r v) = ([], sym (append-nil xs))
begins_cut m (walked xs (uncaught e) r v) = ([], sym (append-nil xs))
begins_cut m (walked xs beyond r v) = ([], sym (append-nil xs))

begins_handle : (m : ℕ) (f : Term → Rules → Walk) (w : Walk) → Begins (answers w) (handle m f w)
begins_handle m f (walked xs out r v) = ([], sym (append-nil xs))
begins_handle m f (walked xs (cut n) r v) = ([], sym (append-nil xs))
begins_handle m f (walked xs (ball e n) r v) = go (eqb n m)
  where
    go : (t : Bool) → Begins xs (cond t (after xs v (f e r)) (walked xs (ball e n) r v))
    go true = begins_after xs v (f e r)
    go false = ([], sym (append-nil xs))
begins_handle m f (walked xs (uncaught e) r v) = ([], sym (append-nil xs))
begins_handle m f (walked xs beyond r v) = ([], sym (append-nil xs))

-- a walk that ends beyond, before one that begins with its answers
beyond_before : {xs : List Env} {r : Rules} {v : ℕ} {w' : Walk} (w : Walk) (ys : List Env) → answers w ≡ xs ++ ys →
    Begins (answers w) w' → Extends (walked xs beyond r v) w'
beyond_before {xs} w ys e b = further (ys ++ b.0) (b.1 ∙ ap (λ zs. zs ++ b.0) e ∙ append_assoc xs ys b.0)

extends_after : (xs : List Env) (v : ℕ) {u w : Walk} → Extends u w → Extends (after xs v u) (after xs v w)
extends_after xs v same = same
extends_after xs v (further {xs = ys} {w = walked zs e r i} as' d) =
    further as' (ap (λ zs. xs ++ zs) d ∙ sym (append_assoc xs ys as'))

extends_visit : {u w : Walk} → Extends u w → Extends (visit u) (visit w)
extends_visit same = same
extends_visit (further {w} ys e) = beyond_before w ys e (begins_visit w)

extends_then : {u w : Walk} (f g : Rules → Walk) → Extends u w → ((r : Rules) → Extends (f r) (g r)) →
    Extends (and_then u f) (and_then w g)
extends_then f g (same {w = walked xs out r v}) d = extends_after xs v (d r)
extends_then f g (same {w = walked xs (cut m) r v}) d = same
extends_then f g (same {w = walked xs (ball e m) r v}) d = same
extends_then f g (same {w = walked xs (uncaught e) r v}) d = same
extends_then f g (same {w = walked xs beyond r v}) d = same
extends_then f g (further {w} ys e) d = beyond_before w ys e (begins_then w g)

extends_close : (m : ℕ) {u w : Walk} → Extends u w → Extends (close m u) (close m w)
extends_close m same = same
extends_close m (further {w} ys e) = beyond_before w ys e (begins_close m w)

extends_cut : (m : ℕ) {u w : Walk} → Extends u w → Extends (after_cut m u) (after_cut m w)
extends_cut m same = same
extends_cut m (further {w} ys e) = beyond_before w ys e (begins_cut m w)

extends_handle : (m : ℕ) {u w : Walk} (f g : Term → Rules → Walk) → Extends u w →
    ((e : Term) (r : Rules) → Extends (f e r) (g e r)) → Extends (handle m f u) (handle m g w)
extends_handle m f g (same {w = walked xs out r v}) d = same
extends_handle m f g (same {w = walked xs (cut n) r v}) d = same
extends_handle m f g (same {w = walked xs (ball e n) r v}) d = go (eqb n m)
  where
    go : (t : Bool) →
        Extends (cond t (after xs v (f e r)) (walked xs (ball e n) r v)) (cond t (after xs v (g e r))
        (walked xs (ball e n) r v))
    go true = extends_after xs v (d e r)
    go false = same
extends_handle m f g (same {w = walked xs (uncaught e) r v}) d = same
extends_handle m f g (same {w = walked xs beyond r v}) d = same
extends_handle m f g (further {w} ys e) d = beyond_before w ys e (begins_handle m g w)

extends_collect : {u w : Walk} (f g : List Env → Rules → Walk) → Extends u w →
    ((xs : List Env) (r : Rules) → Extends (f xs r) (g xs r)) → Extends (collect f u) (collect g w)
extends_collect f g (same {w = walked xs out r v}) d = extends_after [] v (d xs r)
extends_collect f g (same {w = walked xs (cut n) r v}) d = same
extends_collect f g (same {w = walked xs (ball e n) r v}) d = same
extends_collect f g (same {w = walked xs (uncaught e) r v}) d = same
extends_collect f g (same {w = walked xs beyond r v}) d = same
extends_collect f g (further {w} ys e) d = further (answers (collect g w)) refl

-- of two walkers, the second of which walks further
abbrev Further : Walker → Walker → Type 0
Further u w = (q : Items) (o : List ℕ) (b : Env) (n : ℕ) (r : Rules) → Extends (u q o b n r) (w q o b n r)

module _ (l : Language) (u w : Walker) (d : Further u w) (q : Items) (o : List ℕ) (b : Env) (n : ℕ) where
  rules_extend : (g : Term) (xs : List Live) (r : Rules) →
      Extends (each_rule l u g xs q o b n r) (each_rule l w g xs q o b n r)
  rules_extend g [] r = same
  rules_extend g (live i x ∷ xs) r = extends_visit (go (l.enter b g x) (λ r'. rules_extend g xs r'))
    where
      go : (y : Option (Env × Term)) → ((r' : Rules) →
          Extends (each_rule l u g xs q o b n r') (each_rule l w g xs q o b n r')) →
          Extends
          (elim y [
            | none ↦ each_rule l u g xs q o b n r
            | some y ↦ and_then (u (at y.1 n ∷ q) o y.0 (suc n) r) (λ r'. each_rule l u g xs q o b n r')
          ])
          (elim y [
            | none ↦ each_rule l w g xs q o b n r
            | some y ↦ and_then (w (at y.1 n ∷ q) o y.0 (suc n) r) (λ r'. each_rule l w g xs q o b n r')
          ])
      go none z = z r
      go (some y) z = extends_then _ _ (d _ o y.0 (suc n) r) z

  retracts_extend : (h t : Term) (xs : List Live) (r : Rules) →
      Extends (each_retract l u h t xs q o b n r) (each_retract l w h t xs q o b n r)
  retracts_extend h t [] r = same
  retracts_extend h t (live i x ∷ xs) r = extends_visit (go (l.matches b h t x) (λ r'. retracts_extend h t xs r'))
    where
      go : (y : Option Env) →
          ((r' : Rules) → Extends (each_retract l u h t xs q o b n r') (each_retract l w h t xs q o b n r')) →
          Extends
          (elim y [
            | none ↦ each_retract l u h t xs q o b n r
            | some b' ↦ and_then (u q o b' n (erase_rule i r)) (λ r'. each_retract l u h t xs q o b n r')
          ])
          (elim y [
            | none ↦ each_retract l w h t xs q o b n r
            | some b' ↦ and_then (w q o b' n (erase_rule i r)) (λ r'. each_retract l w h t xs q o b n r')
          ])
      go none z = z r
      go (some b') z = extends_then _ _ (d q o b' n (erase_rule i r)) z

  recover_extends : (c t e : Term) (r : Rules) → Extends (recover l u c t q o b n e r) (recover l w c t q o b n e r)
  recover_extends c t e r = go (l.accept b e c)
    where
      go : (z : Option Env) →
          Extends (elim z [ none ↦ thrown e o r | some b' ↦ u (at (call_of t) 0 ∷ q) o b' n r ])
          (elim z [ none ↦ thrown e o r | some b' ↦ w (at (call_of t) 0 ∷ q) o b' n r ])
      go none = same
      go (some b') = d _ o b' n r

  collected_extends : (t s : Term) (xs : List Env) (r : Rules) →
      Extends (collected l u t s q o b n xs r) (collected l w t s q o b n xs r)
  collected_extends t s xs r = go (l.gather b (map (λ a. l.copy_of a t) xs) s)
    where
      go : (z : Option Env) →
          Extends (elim z [ none ↦ walked [] out r 0 | some b' ↦ u q o b' n r ])
          (elim z [ none ↦ walked [] out r 0 | some b' ↦ w q o b' n r ])
      go none = same
      go (some b') = d q o b' n r

  invokes_extend : (g : Term) (f : List ℕ) (a : ℕ) (r : Rules) (k : Bool) →
      Extends
      (cond k (close n (each_rule l u g (live_rules r f a) q o b n r)) (thrown (error_at (no_procedure f a) f a) o r))
      (cond k (close n (each_rule l w g (live_rules r f a) q o b n r)) (thrown (error_at (no_procedure f a) f a) o r))
  invokes_extend g f a r true = extends_close n (rules_extend g (live_rules r f a) r)
  invokes_extend g f a r false = same

  over_extends : (a : Action) (g : Term) (m : ℕ) (r : Rules) →
      Extends (over l u a g m q o b n r) (over l w a g m q o b n r)
  over_extends (go_on b') g m r = d q o b' n r
  over_extends leaves g m r = same
  over_extends (both s t) g m r = d _ o b n r
  over_extends (either s t) g m r = extends_then _ _ (d _ o b n r) (λ r'. d _ o b n r')
  over_extends cuts g m r = extends_cut m (d q o b n r)
  over_extends (calls t) g m r = extends_close n (d _ o b (suc n) r)
  over_extends (calling t) g m r = d _ o b n r
  over_extends (nots t) g m r = extends_close n (extends_then _ _ (d _ o b (suc n) r) (λ r'. d q o b (suc n) r'))
  over_extends (catches t c s) g m r = extends_handle n _ _ (d _ (n ∷ o) b (suc n) r) (λ e r'. recover_extends c s e r')
  over_extends (throws e) g m r = same
  over_extends (raises e) g m r = same
  over_extends (finds t y s) g m r = extends_collect _ _ (d _ o b n r) (λ xs r'. collected_extends t s xs r')
  over_extends (invokes f a) g m r = invokes_extend g f a r (r.known f a)
  over_extends (retracts h t) g m r = retracts_extend h t (live_rules r (name_of h) (arity_of h)) r
  over_extends (stores e x) g m r = d q o b n (add_rule e x r)

pub walk_extends : (l : Language) (h h' : ℕ) → h ≤ h' → Further (walk l h) (walk l h')
walk_extends l zero h' i q o b n r = further (answers (walk l h' q o b n r)) refl
walk_extends l (suc h) zero i q o b n r = absurd (omega arith)
walk_extends l (suc h) (suc h') i [] o b n r = same
walk_extends l (suc h) (suc h') i (at g m ∷ q) o b n r =
    extends_visit (over_extends l (walk l h) (walk l h')
    (walk_extends l h h' (omega arith)) q o b n (l.action b g) g m r)
walk_extends l (suc h) (suc h') i (leave m ∷ q) o b n r =
    extends_visit (walk_extends l h h' (omega arith) q (rest o) b n r)
