-- Well-formed bindings: each binds a variable that is still unbound, to a term of the other unbound variables.
use Rattle.std.specs.Prelude.{◌≡◌, ℕ, ◌<◌, cond, List, [], ◌∷◌, ◌==◌}
use Rattle.terms.specs.Term.{Term, var, int, app}
use Rattle.unification.specs.Substitution.{Sub, inst, bind, Bindings, All, In}

-- without x
abbrev pub without : ℕ → List ℕ → List ℕ
without x [] = []
without x (y ∷ ys) = cond (x == y) (without x ys) (y ∷ without x ys)

-- well-formed over the variables vs
abbrev pub Chain : List ℕ → Bindings → Type 0
Chain vs [] = Unit {0}
Chain vs (bind x u ∷ σ) = In vs x × All (In (without x vs)) u × Chain (without x vs) σ

-- the variables that stay unbound
abbrev pub left : List ℕ → Bindings → List ℕ
left vs [] = vs
left vs (bind x u ∷ σ) = left (without x vs) σ

-- a substitution that agrees with every binding
abbrev pub Follows : Sub → Bindings → Type 0
Follows θ [] = Unit {0}
Follows θ (bind x u ∷ σ) = (θ x ≡ inst θ u) × Follows θ σ

-- a variable that is bound to a variable is bound to an older one
abbrev pub Older : ℕ → Term → Type 0
Older x (var y) = y < x
Older x (int i) = Unit {0}
Older x (app f ts) = Unit {0}

abbrev pub Olders : Bindings → Type 0
Olders [] = Unit {0}
Olders (bind x u ∷ σ) = Older x u × Olders σ
