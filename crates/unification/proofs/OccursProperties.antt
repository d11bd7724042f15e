-- The occurs check: a term that lacks x has only other variables, and one that does not is no smaller than x under it.
use Rattle.std.proofs.Common.{◌≡◌, ℕ, ◌≤◌, true, false, eqb, List, sym, refl, ap, subst, inl, inr, arith}
use Rattle.std.proofs.lemmas.Bool.{eqb-true, ne_eqb, not-true, not-false, not_from_false, and_parts, and_from}
use Rattle.std.proofs.lemmas.Bool.{and_cases}
use Rattle.terms.specs.Term.{Term, Terms, var, int, app, nil, cons, size, sizes}
use Rattle.unification.specs.Substitution.{Sub, inst, insts, All, Alls, In, lacks, lackss}

mutual
  pub lacks_all : (x : ℕ) (t : Term) → lacks x t ≡ true → All (λ y. eqb x y ≡ false) t
  lacks_all x (var y) l = not-true (eqb x y) l
  lacks_all x (int i) l = tt
  lacks_all x (app f ts) l = lackss_alls x ts l

  lackss_alls : (x : ℕ) (ts : Terms) → lackss x ts ≡ true → Alls (λ y. eqb x y ≡ false) ts
  lackss_alls x nil l = tt
  lackss_alls x (cons t ts) l =
      let both = and_parts (lacks x t) (lackss x ts) l in
      (lacks_all x t both.0, lackss_alls x ts both.1)

mutual
  pub all_lacks : (x : ℕ) (vs : List ℕ) → (In vs x → ⊥) → (t : Term) → All (In vs) t → lacks x t ≡ true
  all_lacks x vs n (var y) a = not_from_false (eqb x y) (ne_eqb x y (λ e. n (subst (In vs) (sym e) a)))
  all_lacks x vs n (int i) a = refl
  all_lacks x vs n (app f ts) a = alls_lackss x vs n ts a

  alls_lackss : (x : ℕ) (vs : List ℕ) → (In vs x → ⊥) → (ts : Terms) → Alls (In vs) ts → lackss x ts ≡ true
  alls_lackss x vs n nil a = refl
  alls_lackss x vs n (cons t ts) a =
      and_from (lacks x t) (lackss x ts) (all_lacks x vs n t a.0) (alls_lackss x vs n ts a.1)

-- a part is no larger than the whole
mutual
  part_size : (θ : Sub) (x : ℕ) (t : Term) → lacks x t ≡ false → size (θ x) ≤ size (inst θ t)
  part_size θ x (var y) l =
      let e = ap (λ z. size (θ z)) (eqb-true x y (not-false (eqb x y) l)) in
      omega arith
  part_size θ x (int i) l = let z : ◌≡◌ {A = ℕ} 0 1 = cc in absurd (omega arith)
  part_size θ x (app f ts) l = let k = part_sizes θ x ts l in omega arith

  part_sizes : (θ : Sub) (x : ℕ) (ts : Terms) → lackss x ts ≡ false → size (θ x) ≤ sizes (insts θ ts)
  part_sizes θ x nil l = let z : ◌≡◌ {A = ℕ} 0 1 = cc in absurd (omega arith)
  part_sizes θ x (cons t ts) l =
      elim (and_cases (lacks x t) (lackss x ts) l) [
        | inl e ↦ let k = part_size θ x t e in omega arith
        | inr e ↦ let k = part_sizes θ x ts e in omega arith
      ]

-- so no substitution makes x the same as a compound that has x in it
pub no_cycle : (θ : Sub) (x : ℕ) (f : List ℕ) (ts : Terms) → lackss x ts ≡ false → θ x ≡ inst θ (app f ts) → ⊥
no_cycle θ x f ts l e = let k = part_sizes θ x ts l in let m = ap size e in omega arith
