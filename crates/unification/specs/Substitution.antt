-- Substitutions, and bindings as substitutions of one variable after the other.
use Rattle.std.specs.Prelude.{◌≡◌, ℕ, Bool, true, cond, not, ◌&&◌, ◌⊎◌, List, [], ◌∷◌, ◌++◌, ◌==◌}
use Rattle.terms.specs.Term.{Term, Terms, var, int, app, nil, cons}

-- a substitution gives each variable a term
abbrev pub Sub : Type 0
Sub = ℕ → Term

-- the instance of a term under a substitution
abbrev mutual
  pub inst : Sub → Term → Term
  inst θ (var x) = θ x
  inst θ (int i) = int i
  inst θ (app f ts) = app f (insts θ ts)

  pub insts : Sub → Terms → Terms
  insts θ nil = nil
  insts θ (cons t ts) = cons (inst θ t) (insts θ ts)

-- the substitution of one variable
abbrev pub one : ℕ → Term → Sub
one x u y = cond (x == y) u (var y)

pub data Bind : Type 0 where
  bind : ℕ → Term → Bind

-- oldest first
abbrev pub Bindings : Type 0
Bindings = List Bind

-- one substitution after the other
abbrev pub apply : Bindings → Term → Term
apply [] t = t
apply (bind x u ∷ σ) t = apply σ (inst (one x u) t)

abbrev pub applys : Bindings → Terms → Terms
applys [] ts = ts
applys (bind x u ∷ σ) ts = applys σ (insts (one x u) ts)

-- the bound variables
abbrev pub domain : Bindings → List ℕ
domain [] = []
domain (bind x u ∷ σ) = x ∷ domain σ

-- every variable of a term is such
abbrev mutual
  pub All : (ℕ → Type 0) → Term → Type 0
  All P (var x) = P x
  All P (int i) = Unit {0}
  All P (app f ts) = Alls P ts

  pub Alls : (ℕ → Type 0) → Terms → Type 0
  Alls P nil = Unit {0}
  Alls P (cons t ts) = All P t × Alls P ts

abbrev pub In : List ℕ → ℕ → Type 0
In [] x = ⊥
In (y ∷ ys) x = (y ≡ x) ⊎ In ys x

-- the occurs check: x is not in the term
abbrev mutual
  pub lacks : ℕ → Term → Bool
  lacks x (var y) = not (x == y)
  lacks x (int i) = true
  lacks x (app f ts) = lackss x ts

  pub lackss : ℕ → Terms → Bool
  lackss x nil = true
  lackss x (cons t ts) = lacks x t && lackss x ts

-- the variables of a term from left to right, each as often as it stands there
abbrev mutual
  pub vars : Term → List ℕ
  vars (var x) = x ∷ []
  vars (int i) = []
  vars (app f ts) = varss ts

  pub varss : Terms → List ℕ
  varss nil = []
  varss (cons t ts) = vars t ++ varss ts
