-- The search tree of a query: its walk to a height gives the answers in order, an ending and the rules left.
-- It knows nothing of elements, units or limits.
use Rattle.std.specs.Prelude.{ℕ, zero, suc, ◌+◌, cond, List, [], ◌∷◌, ◌++◌, map, ◌==◌}
use Rattle.std.proofs.Math.Option.{none, some}
use Rattle.terms.specs.Term.{Term}
use Rattle.semantics.specs.Rules.{Rules, Live, live, live_rules, add_rule, erase_rule, name_of, arity_of}
use Rattle.semantics.specs.Environment.{Env}
use Rattle.semantics.specs.Errors.{error_at, no_procedure}
use Rattle.semantics.specs.Actions.{Action, go_on, leaves, both, either, cuts, calls, calling, nots, catches, throws}
use Rattle.semantics.specs.Actions.{raises, finds, invokes, retracts, stores, call_of, cut_goal, fail_goal}
use Rattle.semantics.specs.Language.{Language}

-- what is left to walk: a goal with the marker that its cuts bear, or the end of what the catch m guards
pub data Item : Type 0 where
  at : Term → ℕ → Item
  leave : ℕ → Item

abbrev pub Items : Type 0
Items = List Item

-- all was walked; a cut to m; a ball for the catch m; a ball that nothing catches; the height did not suffice
pub data Ending : Type 0 where
  out : Ending
  cut : ℕ → Ending
  ball : Term → ℕ → Ending
  uncaught : Term → Ending
  beyond : Ending

-- the answers in order, the ending, the rules left, and how many nodes of the tree were visited
pub data Walk : Type 0 where
  walked : List Env → Ending → Rules → ℕ → Walk

-- these answers and visits before those of the walk
abbrev pub after : List Env → ℕ → Walk → Walk
after xs v (walked ys e r w) = walked (xs ++ ys) e r (v + w)

abbrev pub visit : Walk → Walk
visit (walked xs e r v) = walked xs e r (suc v)

-- one walk and then another: the second only if the first ended out
abbrev pub and_then : Walk → (Rules → Walk) → Walk
and_then (walked xs out r v) w = after xs v (w r)
and_then (walked xs (cut m) r v) w = walked xs (cut m) r v
and_then (walked xs (ball e m) r v) w = walked xs (ball e m) r v
and_then (walked xs (uncaught e) r v) w = walked xs (uncaught e) r v
and_then (walked xs beyond r v) w = walked xs beyond r v

-- a cut to m ends here
abbrev pub close : ℕ → Walk → Walk
close m (walked xs out r v) = walked xs out r v
close m (walked xs (cut n) r v) = walked xs (cond (n == m) out (cut n)) r v
close m (walked xs (ball e n) r v) = walked xs (ball e n) r v
close m (walked xs (uncaught e) r v) = walked xs (uncaught e) r v
close m (walked xs beyond r v) = walked xs beyond r v

-- behind a cut to m, nothing else of the goals before it is walked
abbrev pub after_cut : ℕ → Walk → Walk
after_cut m (walked xs out r v) = walked xs (cut m) r v
after_cut m (walked xs (cut n) r v) = walked xs (cut n) r v
after_cut m (walked xs (ball e n) r v) = walked xs (ball e n) r v
after_cut m (walked xs (uncaught e) r v) = walked xs (uncaught e) r v
after_cut m (walked xs beyond r v) = walked xs beyond r v

-- a ball for m is handled
abbrev pub handle : ℕ → (Term → Rules → Walk) → Walk → Walk
handle m f (walked xs out r v) = walked xs out r v
handle m f (walked xs (cut n) r v) = walked xs (cut n) r v
handle m f (walked xs (ball e n) r v) = cond (n == m) (after xs v (f e r)) (walked xs (ball e n) r v)
handle m f (walked xs (uncaught e) r v) = walked xs (uncaught e) r v
handle m f (walked xs beyond r v) = walked xs beyond r v

-- the answers are collected and not told
abbrev pub collect : (List Env → Rules → Walk) → Walk → Walk
collect f (walked xs out r v) = after [] v (f xs r)
collect f (walked xs (cut n) r v) = walked [] (cut n) r v
collect f (walked xs (ball e n) r v) = walked [] (ball e n) r v
collect f (walked xs (uncaught e) r v) = walked [] (uncaught e) r v
collect f (walked xs beyond r v) = walked [] beyond r v

-- a ball goes to the last open catch
abbrev pub aim : Term → List ℕ → Ending
aim e [] = uncaught e
aim e (m ∷ o) = ball e m

abbrev pub thrown : Term → List ℕ → Rules → Walk
thrown e o r = walked [] (aim e o) r 0

abbrev pub rest : List ℕ → List ℕ
rest [] = []
rest (m ∷ o) = o

-- the walk of a query under the open catches, from these bindings, the next marker and the rules on
abbrev pub Walker : Type 0
Walker = Items → List ℕ → Env → ℕ → Rules → Walk

module _ (l : Language) where
  -- each rule in its turn
  abbrev pub each_rule : Walker → Term → List Live → Items → List ℕ → Env → ℕ → Rules → Walk
  each_rule w g [] q o b n r = walked [] out r 0
  each_rule w g (live l' x ∷ xs) q o b n r =
      visit (elim (l.enter b g x) [
        | none ↦ each_rule w g xs q o b n r
        | some y ↦ and_then (w (at y.1 n ∷ q) o y.0 (suc n) r) (λ r'. each_rule w g xs q o b n r')
      ])

  -- each rule that is taken back, in its turn
  abbrev pub each_retract : Walker → Term → Term → List Live → Items → List ℕ → Env → ℕ → Rules → Walk
  each_retract w h t [] q o b n r = walked [] out r 0
  each_retract w h t (live l' x ∷ xs) q o b n r =
      visit (elim (l.matches b h t x) [
        | none ↦ each_retract w h t xs q o b n r
        | some b' ↦ and_then (w q o b' n (erase_rule l' r)) (λ r'. each_retract w h t xs q o b n r')
      ])

  -- a ball e for a catch with this catcher and recovery, before q and under o
  abbrev pub recover : Walker → Term → Term → Items → List ℕ → Env → ℕ → Term → Rules → Walk
  recover w d u q o b n e r =
      elim (l.accept b e d) [ none ↦ thrown e o r | some b' ↦ w (at (call_of u) 0 ∷ q) o b' n r ]

  -- the list of the results, before q
  abbrev pub collected : Walker → Term → Term → Items → List ℕ → Env → ℕ → List Env → Rules → Walk
  collected w t s q o b n xs r =
      elim (l.gather b (map (λ a. l.copy_of a t) xs) s) [ none ↦ walked [] out r 0 | some b' ↦ w q o b' n r ]

  -- the walk of a goal g that does this and bears m, before q, over the walk w to the height below
  abbrev pub over : Walker → Action → Term → ℕ → Walker
  over w (go_on b') g m q o b n r = w q o b' n r
  over w leaves g m q o b n r = walked [] out r 0
  over w (both s t) g m q o b n r = w (at s m ∷ at t m ∷ q) o b n r
  over w (either s t) g m q o b n r = and_then (w (at s m ∷ q) o b n r) (λ r'. w (at t m ∷ q) o b n r')
  over w cuts g m q o b n r = after_cut m (w q o b n r)
  over w (calls t) g m q o b n r = close n (w (at t n ∷ q) o b (suc n) r)
  over w (calling t) g m q o b n r = w (at (call_of t) m ∷ q) o b n r
  over w (nots t) g m q o b n r =
      close n (and_then (w (at (call_of t) n ∷ at cut_goal n ∷ at fail_goal n ∷ []) o b (suc n) r)
      (λ r'. w q o b (suc n) r'))
  over w (catches t d u) g m q o b n r =
      handle n (recover w d u q o b n) (w (at (call_of t) 0 ∷ leave n ∷ q) (n ∷ o) b (suc n) r)
  over w (throws e) g m q o b n r = thrown e o r
  over w (raises e) g m q o b n r = thrown e o r
  over w (finds t g' s) g m q o b n r = collect (collected w t s q o b n) (w (at (call_of g') 0 ∷ []) o b n r)
  over w (invokes f a) g m q o b n r =
      cond (r.known f a) (close n (each_rule w g (live_rules r f a) q o b n r))
      (thrown (error_at (no_procedure f a) f a) o r)
  over w (retracts h t) g m q o b n r = each_retract w h t (live_rules r (name_of h) (arity_of h)) q o b n r
  over w (stores e x) g m q o b n r = w q o b n (add_rule e x r)

  -- the walk to a height
  abbrev pub walk : ℕ → Walker
  walk zero q o b n r = walked [] beyond r 0
  walk (suc h) [] o b n r = walked (b ∷ []) out r 1
  walk (suc h) (at g m ∷ q) o b n r = visit (over (walk h) (l.action b g) g m q o b n r)
  walk (suc h) (leave m ∷ q) o b n r = visit (walk h q (rest o) b n r)

  -- the tree of a query: its walk from the rules at the beginning, with no catch open
  abbrev pub tree : Term → Env → Rules → ℕ → Walk
  tree g b r h = walk h (at g 0 ∷ []) [] b 1 r
