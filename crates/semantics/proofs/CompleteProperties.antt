-- Exactly the leaves and the end, from what each height says.
use Rattle.std.proofs.Common.{◌≡◌, ℕ, zero, suc, ◌≤◌, List, [], ◌∷◌, ◌++◌, sym, refl, ap, ◌∙◌, subst, arith}
use mathlib.Core.Option.{none, some}
use native.Mathlib.Decide.{dec_le}
use Rattle.semantics.specs.Rules.{Rules}
use Rattle.semantics.specs.Environment.{Env}
use Rattle.semantics.specs.Language.{Language}
use Rattle.semantics.specs.Steps.{State, Outcome, goes, tells, fails, step_at, asked, step}
use Rattle.semantics.specs.Tree.{cut, Walk, tree}
use Rattle.semantics.specs.Runs.{End, no_more, error, Ran, ran, finished, also, told, run}
use Rattle.semantics.specs.Theorem.{answers, nth, end_of, Whole, whole, Reaches, all, part, bound, Complete, OneStep}
use Rattle.semantics.proofs.TreeProperties.{Matches, by_out, by_cut, by_uncaught, by_beyond, tree_matches}
use Rattle.semantics.proofs.CutProperties as cuts
use Rattle.semantics.proofs.CutProperties.{Only, only, cuts_only_to_zero}
use Rattle.semantics.proofs.HeightProperties.{walk_extends}

-- what some steps told comes first in what more steps tell
data First : Ran → Ran → Type 0 where
  first_same : {u : Ran} → First u u
  first_longer : {xs : List Env} {r : Rules} {s : State} {u : Ran} (zs : List Env) → xs ++ zs ≡ told u →
      First (ran xs r s) u

also_told : (a : Env) (u : Ran) → told (also a u) ≡ a ∷ told u
also_told a (ran xs r s) = refl
also_told a (finished xs z r) = refl

also_first : {u v : Ran} (a : Env) → First u v → First (also a u) (also a v)
also_first a first_same = first_same
also_first a (first_longer {u} zs e) = first_longer zs (ap {B = List Env} (λ ws. a ∷ ws) e ∙ sym (also_told a u))

nth_append : (xs zs : List Env) (i : ℕ) (a : Env) → nth xs i ≡ some a → nth (xs ++ zs) i ≡ some a
nth_append [] zs i a e = let z : ◌≡◌ {A = ℕ} 0 1 = cc in absurd (omega arith)
nth_append (x ∷ xs) zs zero a e = e
nth_append (x ∷ xs) zs (suc i) a e = nth_append xs zs i a e

nth_first : {u v : Ran} (i : ℕ) (a : Env) → First u v → nth (told u) i ≡ some a → nth (told v) i ≡ some a
nth_first i a first_same e = e
nth_first i a (first_longer {xs} zs d) e = subst (λ ys. nth ys i ≡ some a) d (nth_append xs zs i a e)

finished_first : {u v : Ran} {xs : List Env} {z : End} {r : Rules} → First u v → u ≡ finished xs z r →
    v ≡ finished xs z r
finished_first first_same e = e
finished_first (first_longer zs d) e = let z : ◌≡◌ {A = ℕ} 0 1 = cc in absurd (omega arith)

run_grows : (l : Language) (n j : ℕ) (r : Rules) (s : State) → n ≤ j → First (run l n r s) (run l j r s)
run_grows l n j r [] d = first_same
run_grows l zero j r (x ∷ s) d = first_longer (told (run l j r (x ∷ s))) refl
run_grows l (suc n) zero r (x ∷ s) d = absurd (omega arith)
run_grows l (suc n) (suc j) r (x ∷ s) d = go (step_at l x r s) (λ r' s'. run_grows l n j r' s' (omega arith))
  where
    go : (o : Outcome) → ((r' : Rules) (s' : State) → First (run l n r' s') (run l j r' s')) →
        First
        (elim o [
          | goes r' s' ↦ run l n r' s'
          | tells a r' s' ↦ also a (run l n r' s')
          | fails e r' ↦ finished []
              (error e) r'
        ])
        (elim o [
          | goes r' s' ↦ run l j r' s'
          | tells a r' s' ↦ also a (run l j r' s')
          | fails e r' ↦ finished []
              (error e) r'
        ])
    go (goes r' s') ih = ih r' s'
    go (tells a r' s') ih = also_first a (ih r' s')
    go (fails e r') ih = first_same

module _ (l : Language) (r : Rules) (s : State) where
  -- an end that was told stays
  stays : (n j : ℕ) {xs : List Env} {z : End} {r' : Rules} → n ≤ j → run l n r s ≡ finished xs z r' →
      run l j r s ≡ finished xs z r'
  stays n j d e = finished_first (run_grows l n j r s d) e

  -- and there is no other
  one_end : (n j : ℕ) {xs ys : List Env} {z z' : End} {r' r'' : Rules} →
      run l n r s ≡ finished xs z r' → run l j r s ≡ finished ys z' r'' → finished xs z r' ≡ finished ys z' r''
  one_end n j e d = elim (dec_le n j) [ yes k ↦ sym (stays n j k e) ∙ d | no k ↦ sym e ∙ stays j n (omega arith) d ]

  -- what was told is told at the end
  ended_tells : (n j i : ℕ) (a : Env) {xs : List Env} {z : End} {r' : Rules} → run l j r s ≡ finished xs z r' →
      nth (told (run l n r s)) i ≡ some a → nth xs i ≡ some a
  ended_tells n j i a {xs} d e =
      elim (dec_le n j) [
        | yes k ↦ subst (λ u. nth (told u) i ≡ some a) d (nth_first i a (run_grows l n j r s k) e)
        | no k ↦ subst (λ u. nth (told u) i ≡ some a) (stays j n (omega arith) d) e
      ]

  -- some number of steps tells just the answers of a height
  reached : (h : ℕ) (w : Walk) → Matches l r s h w → (n : ℕ) × (told (run l n r s) ≡ answers w)
  reached h w (by_out {v} c) = (bound v, ap told (c (bound v) (omega arith)))
  reached h w (by_cut {v} c) = (bound v, ap told (c (bound v) (omega arith)))
  reached h w (by_uncaught {v} c) = (bound v, ap told (c (bound v) (omega arith)))
  reached h w (by_beyond {n} d c) = (n, ap told c)

  -- what was told stands at each height that is no less than the steps
  stands : (n h i : ℕ) (a : Env) (w : Walk) → Matches l r s h w → n ≤ h → nth (told (run l n r s)) i ≡ some a →
      nth (answers w) i ≡ some a
  stands n h i a w (by_out {v} c) d e = ended_tells n (bound v) i a (c (bound v) (omega arith)) e
  stands n h i a w (by_cut {v} c) d e = ended_tells n (bound v) i a (c (bound v) (omega arith)) e
  stands n h i a w (by_uncaught {v} c) d e = ended_tells n (bound v) i a (c (bound v) (omega arith)) e
  stands n h i a w (by_beyond {n = j} k c) d e =
      subst (λ u. nth (told u) i ≡ some a) c (nth_first i a (run_grows l n j r s (omega arith)) e)

  -- the end of a whole tree is told
  whole_told : (h v n : ℕ) (xs : List Env) (z : End) (r' : Rules) (w : Walk) → Matches l r s h w → Whole w xs z r' v →
      bound v ≤ n → run l n r s ≡ finished xs z r'
  whole_told h v n xs z r' w (by_out c) (whole e) d = c n d ∙ ap (λ y. finished xs y r') (cc)
  whole_told h v n xs z r' w (by_cut {m} c) (whole e) d = c n d ∙ ap (λ y. finished xs y r') (cut_no m e)
    where
      cut_no : (m : ℕ) → end_of (cut m) ≡ some z → no_more ≡ z
      cut_no zero e = cc
      cut_no (suc m) e = let z : ◌≡◌ {A = ℕ} 0 1 = cc in absurd (omega arith)
  whole_told h v n xs z r' w (by_uncaught c) (whole e) d = c n d ∙ ap (λ y. finished xs y r') (cc)
  whole_told h v n xs z r' w (by_beyond k c) (whole e) d = let z : ◌≡◌ {A = ℕ} 0 1 = cc in absurd (omega arith)

-- a whole walk, or one that ends beyond
reaches : {l : Language} {r : Rules} {s : State} {h : ℕ} (w : Walk) → Matches l r s h w → Only (λ m. m ≡ 0) w →
    Reaches w
reaches w (by_out c) o = all (whole refl)
reaches w (by_cut c) (only (cuts.by_cut e)) = all (whole (ap (λ m. end_of (cut m)) e))
reaches w (by_uncaught c) o = all (whole refl)
reaches w (by_beyond d c) o = part

-- where the end was told, the height of as many steps is whole
whole_at : (l : Language) (r : Rules) (s : State) (n : ℕ) (xs : List Env) (z : End) (r' : Rules) (w : Walk) →
    Matches l r s n w →
    Reaches w → run l n r s ≡ finished xs z r' → (v : ℕ) × Whole w xs z r' v
whole_at l r s n xs z r' w c (all {xs = ys} {z = y} {r = r''} {v} d) e =
    let t : finished ys y r'' ≡ finished xs z r' = one_end l r s (bound v) n (whole_told l r s n v
    (bound v) ys y r'' w c d (omega arith)) e in (
      v,
      subst (λ xs. Whole w xs z r' v) (cc) (subst (λ z. Whole w ys z r' v) (cc) (subst (λ r'. Whole w ys y r' v)
          (cc) d)),
    )
whole_at l r s n xs z r' w (by_beyond {n = j} k c) part e =
    let t : run l j r s ≡ finished xs z r' = stays l r s n j k e in let q : ◌≡◌ {A = ℕ} 0 1 = cc in absurd (omega arith)

pub complete : Complete
complete l g b r = record {
  first_leaves = λ i a. (
    (λ f. let c = reached l r s f.0 (tree l g b r f.0) (tree_matches l g b r f.0) in
        (c.0, subst (λ xs. nth xs i ≡ some a) (sym c.1) (f.1 f.0 (omega arith)))),
    (λ c. (c.0, λ h d. stands l r s c.0 h i a (tree l g b r h) (tree_matches l g b r h) d c.1)),
  );
  honest_end = λ xs z r'. (
    (λ f. (
      bound f.1,
      whole_told l r s f.0 f.1 (bound f.1) xs z r' _ (tree_matches l g b r f.0)
          f.2 (omega arith),
    )),
    (λ c. let d = whole_at l r s c.0 xs z r' (tree l g b r c.0) (tree_matches l g b r c.0)
        (at_height c.0) c.1 in
        (c.0, d.0, d.1)),
  );
  reached_end = λ h v n xs z r' d i. whole_told l r s h v n xs z r' (tree l g b r h) (tree_matches l g b r h) d i;
  heights_reach = at_height;
  heights_extend = λ h h' d. walk_extends l h h' d _ _ _ _ _;
}
  where
    s : State
    s = asked g b

    at_height : (h : ℕ) → Reaches (tree l g b r h)
    at_height h = reaches (tree l g b r h) (tree_matches l g b r h) (cuts_only_to_zero l g b r h)

pub one_step_at_most : (l : Language) → OneStep l
one_step_at_most l = record { ends = λ r. refl; goes_on = go }
  where
    go : (r : Rules) (s : State) → step l r s ≡ none → s ≡ []
    go r [] e = refl
    go r (x ∷ s) e = let z : ◌≡◌ {A = ℕ} 0 1 = cc in absurd (omega arith)
