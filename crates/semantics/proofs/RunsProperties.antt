-- Runs of steps as a relation, how they join, and what `run` tells of them.
use Rattle.std.proofs.Common.{◌≡◌, ℕ, zero, suc, ◌+◌, List, [], ◌∷◌, ◌++◌, refl, ap, ◌∙◌, append-nil, suc-add, zero-add}
use Rattle.terms.specs.Term.{Term}
use Rattle.semantics.specs.Rules.{Rules}
use Rattle.semantics.specs.Environment.{Env}
use Rattle.semantics.specs.Language.{Language}
use Rattle.semantics.specs.Steps.{Element, State, goes, tells, fails, step_at}
use Rattle.semantics.specs.Runs.{End, no_more, error, Ran, ran, finished, also, run}

-- n steps that tell xs lead from r and s to r' and s'
pub data Runs (l : Language) : ℕ → Rules → State → List Env → Rules → State → Type 0 where
  here : {r : Rules} {s : State} → Runs l zero r s [] r s
  moves : {n : ℕ} {x : Element} {r r' r'' : Rules} {s s' s'' : State} {xs : List Env} →
      step_at l x r s ≡ goes r' s' → Runs l n r' s' xs r'' s'' → Runs l (suc n) r (x ∷ s) xs r'' s''
  speaks : {n : ℕ} {x : Element} {r r' r'' : Rules} {s s' s'' : State} {a : Env} {xs : List Env} →
      step_at l x r s ≡ tells a r' s' → Runs l n r' s' xs r'' s'' → Runs l (suc n) r (x ∷ s) (a ∷ xs) r'' s''

pub runs_then : {l : Language} {m n : ℕ} {r r' r'' : Rules} {s s' s'' : State} {xs ys : List Env} →
    Runs l m r s xs r' s' → Runs l n r' s' ys r'' s'' → Runs l (m + n) r s (xs ++ ys) r'' s''
runs_then here d = rw zero-add d
runs_then (moves e c) d = rw suc-add (moves e (runs_then c d))
runs_then (speaks e c) d = rw suc-add (speaks e (runs_then c d))

pub runs_once : {l : Language} {x : Element} {r r' : Rules} {s s' : State} →
    step_at l x r s ≡ goes r' s' → Runs l 1 r (x ∷ s) [] r' s'
runs_once e = moves e here

-- one more step at the end
pub runs_on : {l : Language} {n : ℕ} {x : Element} {r r' r'' : Rules} {s s' s'' : State} {xs : List Env} →
    Runs l n r s xs r' (x ∷ s') → step_at l x r' s' ≡ goes r'' s'' → Runs l (n + 1) r s xs r'' s''
runs_on c e = rw append-nil at (runs_then c (runs_once e))

-- these answers were told first
abbrev pub also_all : List Env → Ran → Ran
also_all [] u = u
also_all (a ∷ xs) u = also a (also_all xs u)

pub also_ran : (xs : List Env) (r : Rules) (s : State) → also_all xs (ran [] r s) ≡ ran xs r s
also_ran [] r s = refl
also_ran (a ∷ xs) r s = ap (also a) (also_ran xs r s)

pub also_finished : (xs : List Env) (z : End) (r : Rules) → also_all xs (finished [] z r) ≡ finished xs z r
also_finished [] z r = refl
also_finished (a ∷ xs) z r = ap (also a) (also_finished xs z r)

-- `run` goes on where the steps of a run lead
pub run_goes_on : {l : Language} {n : ℕ} {r r' : Rules} {s s' : State} {xs : List Env} (j : ℕ) →
    Runs l n r s xs r' s' → run l (n + j) r s ≡ also_all xs (run l j r' s')
run_goes_on j here = rw zero-add
run_goes_on j (moves e c) = rw (suc-add, e, run) (run_goes_on j c)
run_goes_on j (speaks {a} e c) = rw (suc-add, e, run) (ap (also a) (run_goes_on j c))

pub run_ran : {l : Language} {n : ℕ} {x : Element} {r r' : Rules} {s s' : State} {xs : List Env} →
    Runs l n r s xs r' (x ∷ s') → run l (n + 0) r s ≡ ran xs r' (x ∷ s')
run_ran {x} {r'} {s'} {xs} c = run_goes_on 0 c ∙ also_ran xs r' (x ∷ s')

pub run_ended : {l : Language} {n : ℕ} {r r' : Rules} {s : State} {xs : List Env} (j : ℕ) →
    Runs l n r s xs r' [] → run l (n + j) r s ≡ finished xs no_more r'
run_ended {r'} {xs} j c = run_goes_on j c ∙ also_finished xs no_more r'

pub run_failed : {l : Language} {n : ℕ} {x : Element} {e : Term} {r r' r'' : Rules} {s s' : State} {xs : List Env}
    (j : ℕ) →
    step_at l x r' s' ≡ fails e r'' → Runs l n r s xs r' (x ∷ s') → run l (n + suc j) r s ≡ finished xs (error e) r''
run_failed {e} {r''} {xs} j d c = run_goes_on (suc j) c ∙ rw (d, run) (also_finished xs (error e) r'')
