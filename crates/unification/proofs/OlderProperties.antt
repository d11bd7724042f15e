-- Unification binds a variable to a variable only if that is older.
use Rattle.std.proofs.Common.{◌≡◌, ℕ, zero, suc, false, cond, eqb, ltb, [], ◌∷◌, ◌++◌, length, subst, arith}
use mathlib.Core.Option.{none, some}
use Rattle.std.proofs.lemmas.Bool.{eqb-false, ltb-true, ltb-false, cond_both}
use Rattle.terms.specs.Term.{Term, Terms, var, int, app, nil, cons}
use Rattle.terms.specs.Goals.{same}
use Rattle.unification.specs.Substitution.{bind, Bindings, apply, applys, lackss, vars}
use Rattle.unification.specs.Unifying.{same_int, Answer, before, unify_var, Rest, after, unify_term, unify_terms, rest}
use Rattle.unification.specs.Unifying.{unify}
use Rattle.unification.specs.Under.{under}
use Rattle.unification.specs.Chain.{Olders}

-- of the bindings of an answer, if it has some
abbrev Aged : Answer → Type 0
Aged none = Unit {0}
Aged (some σ) = Olders σ

olders_append : (σ τ : Bindings) → Olders σ → Olders τ → Olders (σ ++ τ)
olders_append [] τ a b = b
olders_append (bind x u ∷ σ) τ a b = (a.0, olders_append σ τ a.1 b)

before_aged : (σ : Bindings) (o : Answer) → Olders σ → Aged o → Aged (before σ o)
before_aged σ none a b = tt
before_aged σ (some τ) a b = olders_append σ τ a b

two_vars_aged : (x y : ℕ) → eqb x y ≡ false → Olders (cond (ltb x y) (bind y (var x)) (bind x (var y)) ∷ [])
two_vars_aged x y e =
    let n = eqb-false x y e in
    cond_both (ltb x y) (bind y (var x)) (bind x (var y)) (λ b. Olders (b ∷ []))
    (λ l. (ltb-true x y l, tt))
    (λ l. (let k = ltb-false x y l in omega arith, tt))

unify_var_aged : (x : ℕ) (t : Term) → Aged (unify_var x t)
unify_var_aged x (var y) =
    cond_both (eqb x y) (some []) (some (cond (ltb x y) (bind y (var x)) (bind x (var y)) ∷ [])) Aged
    (λ e. tt) (two_vars_aged x y)
unify_var_aged x (int i) = (tt, tt)
unify_var_aged x (app f ts) =
    cond_both (lackss x ts) (some (bind x (app f ts) ∷ [])) none Aged (λ e. (tt, tt)) (λ e. tt)

module _ (R : Rest) (good : (ps qs : Terms) → Aged (R ps qs)) where
  after_aged : (ps qs : Terms) (r o : Answer) → Aged r → Aged o → Aged (after R ps qs r o)
  after_aged ps qs r none a b = tt
  after_aged ps qs r (some []) a b = a
  after_aged ps qs r (some (x ∷ σ)) a b =
      let τ : Bindings = x ∷ σ in
      before_aged τ (R (applys τ ps) (applys τ qs)) b (good (applys τ ps) (applys τ qs))

  mutual
    unify_term_aged : (s t : Term) → Aged (unify_term R s t)
    unify_term_aged (var x) t = unify_var_aged x t
    unify_term_aged (int i) (var y) = unify_var_aged y (int i)
    unify_term_aged (int i) (int j) = cond_both (same_int i j) (some []) none Aged (λ e. tt) (λ e. tt)
    unify_term_aged (int i) (app g qs) = tt
    unify_term_aged (app f ps) (var y) = unify_var_aged y (app f ps)
    unify_term_aged (app f ps) (int j) = tt
    unify_term_aged (app f ps) (app g qs) =
        cond_both (same f g) (unify_terms R ps qs) none Aged (λ e. unify_terms_aged ps qs) (λ e. tt)

    unify_terms_aged : (ps qs : Terms) → Aged (unify_terms R ps qs)
    unify_terms_aged nil nil = tt
    unify_terms_aged nil (cons q qs) = tt
    unify_terms_aged (cons p ps) nil = tt
    unify_terms_aged (cons p ps) (cons q qs) =
        after_aged ps qs (unify_terms R ps qs) (unify_term R p q) (unify_terms_aged ps qs) (unify_term_aged p q)

rest_aged : (n : ℕ) (ps qs : Terms) → Aged (rest n ps qs)
rest_aged zero ps qs = tt
rest_aged (suc n) ps qs = unify_terms_aged (rest n) (rest_aged n) ps qs

pub under_older : (σ : Bindings) (s t : Term) → Olders σ → (σ' : Bindings) → under σ s t ≡ some σ' → Olders σ'
under_older σ s t a σ' e =
    let p = apply σ s in
    let q = apply σ t in
    let n = length (vars p ++ vars q) in
    subst Aged e (before_aged σ (unify p q) a (unify_term_aged (rest n) (rest_aged n) p q))
