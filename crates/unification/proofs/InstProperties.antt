-- One substitution after another, and substitutions that agree on the variables of a term.
use Rattle.std.proofs.Common.{◌≡◌, ℕ, sym, refl, ap, ◌∙◌, ap₂}
use Rattle.terms.specs.Term.{Term, Terms, var, int, app, nil, cons}
use Rattle.unification.specs.Substitution.{Sub, inst, insts, All, Alls}

mutual
  pub all_inst : (P : ℕ → Type 0) (φ : Sub) (t : Term) → All (λ y. All P (φ y)) t → All P (inst φ t)
  all_inst P φ (var x) a = a
  all_inst P φ (int i) a = tt
  all_inst P φ (app f ts) a = alls_insts P φ ts a

  alls_insts : (P : ℕ → Type 0) (φ : Sub) (ts : Terms) → Alls (λ y. All P (φ y)) ts → Alls P (insts φ ts)
  alls_insts P φ nil a = tt
  alls_insts P φ (cons t ts) a = (all_inst P φ t a.0, alls_insts P φ ts a.1)

mutual
  pub inst_inst : (θ φ ψ : Sub) (t : Term) → All (λ y. inst θ (φ y) ≡ ψ y) t → inst θ (inst φ t) ≡ inst ψ t
  inst_inst θ φ ψ (var x) h = h
  inst_inst θ φ ψ (int i) h = refl
  inst_inst θ φ ψ (app f ts) h = ap (app f) (insts_insts θ φ ψ ts h)

  insts_insts : (θ φ ψ : Sub) (ts : Terms) → Alls (λ y. inst θ (φ y) ≡ ψ y) ts
      → insts θ (insts φ ts) ≡ insts ψ ts
  insts_insts θ φ ψ nil h = refl
  insts_insts θ φ ψ (cons t ts) h = ap₂ cons (inst_inst θ φ ψ t h.0) (insts_insts θ φ ψ ts h.1)

mutual
  pub inst_var : (t : Term) → inst var t ≡ t
  inst_var (var x) = refl
  inst_var (int i) = refl
  inst_var (app f ts) = ap (app f) (insts_var ts)

  insts_var : (ts : Terms) → insts var ts ≡ ts
  insts_var nil = refl
  insts_var (cons t ts) = ap₂ cons (inst_var t) (insts_var ts)

pub inst_same : (θ φ : Sub) (t : Term) → All (λ y. θ y ≡ φ y) t → inst θ t ≡ inst φ t
inst_same θ φ t h = ap (inst θ) (sym (inst_var t)) ∙ inst_inst θ var φ t h

pub inst_identity : (θ : Sub) (t : Term) → All (λ y. θ y ≡ var y) t → inst θ t ≡ t
inst_identity θ t h = inst_same θ var t h ∙ inst_var t
