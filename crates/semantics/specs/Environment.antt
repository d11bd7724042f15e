-- What a goal is read under: the bindings made so far, and the next unused variable.
use Rattle.std.specs.Prelude.{ℕ, ◌+◌, List, [], ◌∷◌}
use Rattle.std.proofs.Math.Option.{Option, none, some}
use Rattle.terms.specs.Term.{Term, app, nil, cons}
use Rattle.terms.specs.Known.{empty_name, dot_name}
use Rattle.unification.specs.Substitution.{Bindings, apply}
use Rattle.unification.specs.Under.{under}
use Rattle.unification.specs.Copies.{copy, width, shift}
use Rattle.semantics.specs.Rules.{Clause}

pub record Env : Type 0 where
  pub bindings : Bindings
  pub fresh : ℕ

-- where a query over so many variables begins
abbrev pub empty_env : ℕ → Env
empty_env n = record { bindings = []; fresh = n }

abbrev pub resolve : Env → Term → Term
resolve b t = apply b.bindings t

-- so many more variables
abbrev pub widened : ℕ → Env → Env
widened n b = record { bindings = b.bindings; fresh = b.fresh + n }

-- a term over its own variables, with unused ones in their place
abbrev pub renewed : Env → Term → Term
renewed b t = shift b.fresh t

abbrev pub with_bindings : Env → Option Bindings → Option Env
with_bindings b none = none
with_bindings b (some σ) = some (record { bindings = σ; fresh = b.fresh })

abbrev pub unify_in : Env → Term → Term → Option Env
unify_in b s t = with_bindings b (under b.bindings s t)

abbrev pub with_body : Term → Option Env → Option (Env × Term)
with_body t none = none
with_body t (some b) = some (b, t)

-- a goal against a copy of a rule: the bindings and the body, if the heads unify
abbrev pub enter : Env → Term → Clause → Option (Env × Term)
enter b g x =
    with_body (renewed b x.body) (unify_in (widened x.variables b) g (renewed b x.head))

abbrev pub then_unify : Term → Term → Option Env → Option Env
then_unify s t none = none
then_unify s t (some b) = unify_in b s t

-- a head and a body against a copy of a rule
abbrev pub matches : Env → Term → Term → Clause → Option Env
matches b h t x =
    then_unify t (renewed b x.body) (unify_in (widened x.variables b) h (renewed b x.head))

-- a catcher against a copy of a ball
abbrev pub accept : Env → Term → Term → Option Env
accept b e c = unify_in (widened (width e) b) (renewed b e) c

-- the copy that a template leaves: its own variables, numbered by first appearance
abbrev pub copy_of : Env → Term → Term
copy_of b t = copy (resolve b t)

abbrev pub list_of : Env → List Term → Term
list_of b [] = app empty_name nil
list_of b (t ∷ ts) = app dot_name (cons (renewed b t) (cons (list_of (widened (width t) b) ts) nil))

abbrev pub widened_by : Env → List Term → Env
widened_by b [] = b
widened_by b (t ∷ ts) = widened_by (widened (width t) b) ts

-- the list of the results, each with new variables, against a term
abbrev pub gather : Env → List Term → Term → Option Env
gather b ts s = unify_in (widened_by b ts) (list_of b ts) s
