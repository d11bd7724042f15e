-- Runs: so many steps and what they told, and steps until something is told.
use Rattle.std.specs.Prelude.{ℕ, zero, suc, List, [], ◌∷◌}
use Rattle.terms.specs.Term.{Term}
use Rattle.semantics.specs.Rules.{Rules}
use Rattle.semantics.specs.Environment.{Env}
use Rattle.semantics.specs.Language.{Language}
use Rattle.semantics.specs.Steps.{State, goes, tells, fails, step_at}

-- the end of a search: "no", or an error with its ball
pub data End : Type 0 where
  no_more : End
  error : Term → End

-- the answers told so far, and then: the search is still open, or its end was told
pub data Ran : Type 0 where
  ran : List Env → Rules → State → Ran
  finished : List Env → End → Rules → Ran

-- this answer was told first
abbrev pub also : Env → Ran → Ran
also a (ran xs r s) = ran (a ∷ xs) r s
also a (finished xs z r) = finished (a ∷ xs) z r

abbrev pub told : Ran → List Env
told (ran xs r s) = xs
told (finished xs z r) = xs

-- why steps stopped: an answer was told, or the end, or all steps were made
pub data Stop : Type 0 where
  answered : Env → Stop
  over : End → Stop
  spent : Stop

-- the number of steps made, why they stopped, and the rules and the state then
pub record Made : Type 0 where
  pub steps : ℕ
  pub stop : Stop
  pub rules : Rules
  pub state : State

abbrev pub made : ℕ → Stop → Rules → State → Made
made n o r s = record { steps = n; stop = o; rules = r; state = s }

abbrev pub one_more : Made → Made
one_more x = made (suc x.steps) x.stop x.rules x.state

module _ (l : Language) where
  -- after n steps, or fewer if the end came before; an empty state is the end "no"
  abbrev pub run : ℕ → Rules → State → Ran
  run n r [] = finished [] no_more r
  run zero r (x ∷ s) = ran [] r (x ∷ s)
  run (suc n) r (x ∷ s) =
      elim (step_at l x r s) [
        | goes r' s' ↦ run n r' s'
        | tells a r' s' ↦ also a (run n r' s')
        | fails e r' ↦ finished [] (error e) r'
      ]

  -- steps until an answer, an end or n steps
  abbrev pub more : ℕ → Rules → State → Made
  more n r [] = made 0 (over no_more) r []
  more zero r (x ∷ s) = made 0 spent r (x ∷ s)
  more (suc n) r (x ∷ s) =
      elim (step_at l x r s) [
        | goes r' s' ↦ one_more (more n r' s')
        | tells a r' s' ↦ made 1 (answered a) r' s'
        | fails e r' ↦ made 1 (over (error e)) r' []
      ]
