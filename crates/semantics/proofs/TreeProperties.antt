-- What the steps of a query tell, by the walk of its tree to a height.
use Rattle.std.proofs.Common.{◌≡◌, ℕ, suc, ◌+◌, ◌-◌, ◌≤◌, Bool, true, false, cond, eqb, List, [], ◌∷◌, refl, subst}
use Rattle.std.proofs.Common.{arith}
use Rattle.terms.specs.Term.{Term, size}
use Rattle.semantics.specs.Rules.{Rules}
use Rattle.semantics.specs.Environment.{Env}
use Rattle.semantics.specs.Language.{Language}
use Rattle.semantics.specs.Steps.{on, Moment, mark, State, asked}
use Rattle.semantics.specs.Tree.{at, out, cut, uncaught, beyond, Walk, walked, tree}
use Rattle.semantics.specs.Runs.{no_more, error, ran, finished, run}
use Rattle.semantics.specs.Theorem.{bound}
use Rattle.semantics.proofs.RunsProperties.{Runs, runs_on, run_ran, run_ended, run_failed}
use Rattle.semantics.proofs.Standing.{with_mark, nowhere, bare, tells_it, done}
use Rattle.semantics.proofs.StandingProperties.{fresh}
use Rattle.semantics.proofs.Claims.{at_out, at_cut, at_ball, at_uncaught, at_beyond, Claim, claim}
use Rattle.semantics.proofs.ClaimsProperties.{not_in}
use Rattle.semantics.proofs.WalkProperties.{sound}

-- from so many steps on the end is told; or at least h steps are made, and just the answers of the walk are told
pub data Matches (l : Language) (r : Rules) (s : State) (h : ℕ) : Walk → Type 0 where
  by_out : {xs : List Env} {r' : Rules} {v : ℕ} → ((n : ℕ) → bound v ≤ n → run l n r s ≡ finished xs no_more r') →
      Matches l r s h (walked xs out r' v)
  by_cut : {xs : List Env} {m : ℕ} {r' : Rules} {v : ℕ} → ((n : ℕ) → bound v ≤ n →
      run l n r s ≡ finished xs no_more r') →
      Matches l r s h (walked xs (cut m) r' v)
  by_uncaught : {xs : List Env} {e : Term} {r' : Rules} {v : ℕ} →
      ((n : ℕ) → bound v ≤ n → run l n r s ≡ finished xs (error e) r') → Matches l r s h (walked xs (uncaught e) r' v)
  by_beyond : {xs : List Env} {r' r'' : Rules} {s' : State} {v n : ℕ} → h ≤ n → run l n r s ≡ ran xs r'' s' →
      Matches l r s h (walked xs beyond r' v)

module _ {l : Language} {r : Rules} {s : State} where
  ended : {i n : ℕ} {r' : Rules} {xs : List Env} → i ≤ n → Runs l i r s xs r' [] → run l n r s ≡ finished xs no_more r'
  ended {i} {n} {r'} {xs} d c =
      let e : i + (n - i) ≡ n = omega arith in
      subst (λ j. run l j r s ≡ finished xs no_more r') e (run_ended (n - i) c)

module _ (l : Language) (g : Term) (b : Env) (r : Rules) (h : ℕ) where
  abbrev first : Moment
  first = record { env = b; marker = 0; units = size g + 1 }

  top : {w : Walk} →
      Claim l h 0 r (asked g b) (λ xs. mark 0 first ∷ []) (with_mark (λ m xs. []) 0 (λ xs. mark 0 first ∷ []))
      (λ m e xs. []) false [] w →
      Matches l r (asked g b) h w
  top (claim {n} {v} d c at_out) = by_out (λ j i. ended {i = n + 1} (omega arith) (runs_on c refl))
  top (claim {xs} {r'} {n} {v} d c (at_cut {m})) = by_cut (go (eqb m 0) c)
    where
      go : (t : Bool) → Runs l n r (asked g b) xs r' (cond t (mark 0 first ∷ []) []) →
          (j : ℕ) → bound v ≤ j → run l j r (asked g b) ≡ finished xs no_more r'
      go true c j i = ended {i = n + 1} (omega arith) (runs_on c refl)
      go false c j i = ended {i = n} (omega arith) c
  top (claim d c (at_ball i)) = absurd (not_in i)
  top (claim {xs} {r'} {n} {v} d c (at_uncaught {e} z)) = by_uncaught go
    where
      go : (j : ℕ) → bound v ≤ j → run l j r (asked g b) ≡ finished xs (error e) r'
      go j i =
          let k : n + suc (j - suc n) ≡ j = omega arith in
          subst (λ j. run l j r (asked g b) ≡ finished xs (error e) r') k (run_failed (j - suc n) z c)
  top (claim {n} d c (at_beyond i)) = by_beyond {n = n + 0} (omega arith) (run_ran c)

  pub tree_matches : Matches l r (asked g b) h (tree l g b r h)
  tree_matches =
      top (sound l h _ (λ m e xs. []) false (at g 0 ∷ []) [] (on g 0 ∷ []) [] (λ xs. mark 0 first ∷ [])
      (record { env = b; marker = 1; units = size g + 1 }) r
      (fresh g first (done nowhere bare (tells_it (λ xs. refl) (λ xs a. refl)))))
