-- What a query tells over rules given as texts: each answer and the end, with the number of steps that it took.
use Rattle.std.specs.Prelude.{ℕ, zero, suc, ◌+◌, cond, List, [], ◌∷◌, ◌++◌, map, length, codes}
use Rattle.std.proofs.Math.Option.{Option, none, some}
use Rattle.terms.specs.Term.{Term, var}
use Rattle.text.specs.Numbering.{is_lone}
use Rattle.writer.specs.Shown.{firsts, shown}
use Rattle.semantics.specs.Environment.{Env, empty_env, resolve}
use Rattle.semantics.specs.Prolog.{prolog}
use Rattle.semantics.specs.Steps.{asked}
use Rattle.semantics.specs.Tree.{Walk, walked, tree}
use Rattle.semantics.specs.Runs.{End, no_more, error, answered, over, spent, Made, more}
use Rattle.semantics.specs.Theorem.{end_of}
use Rattle.worked.specs.Reading.{Asked, query_of, rules_of}

-- an answer or the end after so many steps, with what is shown
pub data Reply : Type 0 where
  answer : ℕ → List ℕ → Reply
  no : ℕ → Reply
  failure : ℕ → List ℕ → Reply
  spends : ℕ → Reply

-- the values of the variables that have a name, from number i on
abbrev pub values_from : ℕ → List (List ℕ) → Env → List Term
values_from i [] a = []
values_from i (x ∷ xs) a = cond (is_lone x) (values_from (i + 1) xs a) (resolve a (var i) ∷ values_from (i + 1) xs a)

-- terms in one line, a tab between them
abbrev pub behind : List ℕ → List Term → List ℕ
behind seen [] = []
behind seen (t ∷ ts) = 9 ∷ (shown seen t ++ behind (firsts seen t) ts)

abbrev pub line_of : List Term → List ℕ
line_of [] = codes "-"
line_of (t ∷ ts) = shown [] t ++ behind (firsts [] t) ts

abbrev pub shown_answer : Asked → Env → List ℕ
shown_answer q a = line_of (values_from 0 q.names a)

-- the steps go on from answer to answer, at most k times
abbrev pub replies : ℕ → Asked → Made → List Reply
replies zero q m = []
replies (suc k) q m =
    elim m.stop [
      | answered a ↦ answer m.steps (shown_answer q a) ∷ replies k q (more prolog 1000 m.rules m.state)
      | over z ↦ elim z [ no_more ↦ no m.steps ∷ [] | error e ↦ failure m.steps (shown [] e) ∷ [] ]
      | spent ↦ spends m.steps ∷ []
    ]

abbrev pub played_from : List (List ℕ) → Option Asked → List Reply
played_from rs none = []
played_from rs (some q) =
    replies 20 q (more prolog 1000 (rules_of rs) (asked q.goal (empty_env (length q.names))))

abbrev pub played : List (List ℕ) → List ℕ → List Reply
played rs t = played_from rs (query_of t)

-- the leaves and the end of the tree, as they are shown
pub record Seen : Type 0 where
  pub leaves : List (List ℕ)
  pub end : Option (Option (List ℕ))

abbrev pub shown_end : Option End → Option (Option (List ℕ))
shown_end none = none
shown_end (some no_more) = some none
shown_end (some (error e)) = some (some (shown [] e))

abbrev pub seen_of : Asked → Walk → Seen
seen_of q (walked xs e r v) = record { leaves = map (λ a. shown_answer q a) xs; end = shown_end (end_of e) }

abbrev pub seen_from : List (List ℕ) → Option Asked → Seen
seen_from rs none = record { leaves = []; end = none }
seen_from rs (some q) = seen_of q (tree prolog q.goal (empty_env (length q.names)) (rules_of rs) 60)

-- the tree to the height 60
abbrev pub seen : List (List ℕ) → List ℕ → Seen
seen rs t = seen_from rs (query_of t)

-- what these replies say of the tree
abbrev pub told_leaves : List Reply → List (List ℕ)
told_leaves [] = []
told_leaves (answer n s ∷ rs) = s ∷ told_leaves rs
told_leaves (no n ∷ rs) = told_leaves rs
told_leaves (failure n s ∷ rs) = told_leaves rs
told_leaves (spends n ∷ rs) = told_leaves rs

abbrev pub told_end : List Reply → Option (Option (List ℕ))
told_end [] = none
told_end (answer n s ∷ rs) = told_end rs
told_end (no n ∷ rs) = some none
told_end (failure n s ∷ rs) = some (some s)
told_end (spends n ∷ rs) = told_end rs
