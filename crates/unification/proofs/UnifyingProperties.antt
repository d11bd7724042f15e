-- Every answer of unification is right, by induction on the count of variables and then on the terms.
use Rattle.std.proofs.Common.{◌≡◌, ℕ, zero, suc, ◌<◌, false, cond, eqb, ltb, List, [], ◌∷◌, ◌++◌, length, ℤ, sym, refl}
use Rattle.std.proofs.Common.{ap, ◌∙◌, arith}
use mathlib.Core.Option.{none, some}
use Rattle.std.proofs.lemmas.Bool.{eqb-true, eqb-false, ne_eqb, both_ways, not_from_false, cond_both}
use Rattle.terms.specs.Term.{Term, Terms, var, int, app, nil, cons}
use Rattle.terms.specs.Goals.{same}
use Rattle.terms.proofs.TablesProperties.{same_true, same_eq}
use Rattle.unification.specs.Substitution.{Sub, inst, bind, Bindings, apply, applys, All, Alls, In, lackss}
use Rattle.unification.specs.Unifying.{same_int, Answer, before, unify_var, Rest, after, unify_term, unify_terms, rest}
use Rattle.unification.specs.Chain.{Chain, left, Follows}
use Rattle.unification.proofs.BindingsProperties.{as_sub, apply_inst, apply_app, inst_append}
use Rattle.unification.proofs.BindingsProperties.{follows_apply, follows_append}
use Rattle.unification.proofs.OccursProperties.{no_cycle}
use Rattle.unification.proofs.ChainProperties.{chain_append, chain_length, chain_alls}
use Rattle.unification.proofs.IntegersProperties.{same_int_true, same_int_false}
use Rattle.unification.proofs.SolvedProperties.{tuple, Unifies, Solved, joined, apart}
use Rattle.unification.proofs.SolvedProperties.{solved_iff, solved_sym, bind_solved}

two_vars_solved : (vs : List ℕ) (x y : ℕ) → In vs x → In vs y → eqb x y ≡ false
    → Solved vs (Unifies (var x) (var y)) (some (cond (ltb x y) (bind y (var x)) (bind x (var y)) ∷ []))
two_vars_solved vs x y i j e =
    let e' : eqb y x ≡ false = ne_eqb y x (λ p. eqb-false x y e (sym p)) in
    cond_both (ltb x y) (bind y (var x)) (bind x (var y)) (λ b. Solved vs (Unifies (var x) (var y)) (some (b ∷ [])))
    (λ _. solved_sym (var y) (var x) (bind_solved vs y (var x) j (not_from_false (eqb y x) e') i))
    (λ _. bind_solved vs x (var y) i (not_from_false (eqb x y) e) j)

unify_var_solved : (vs : List ℕ) (x : ℕ) (t : Term) → In vs x → All (In vs) t
    → Solved vs (Unifies (var x) t) (unify_var x t)
unify_var_solved vs x (var y) i a =
    cond_both (eqb x y) (some []) (some (cond (ltb x y) (bind y (var x)) (bind x (var y)) ∷ []))
    (Solved vs (Unifies (var x) (var y)))
    (λ e. let p = eqb-true x y e in joined tt (ap var p) (λ θ _. tt)) (two_vars_solved vs x y i a)
unify_var_solved vs x (int n) i a = bind_solved vs x (int n) i refl a
unify_var_solved vs x (app f ts) i a =
    cond_both (lackss x ts) (some (bind x (app f ts) ∷ [])) none (Solved vs (Unifies (var x) (app f ts)))
    (λ e. bind_solved vs x (app f ts) i e a) (λ e. apart (λ θ p. no_cycle θ x f ts e p))

-- how argument lists with fewer variables are unified is right
abbrev pub Solves : List ℕ → Rest → Type 0
Solves vs R =
    (ws : List ℕ) (ps qs : Terms) → length ws < length vs → Alls (In ws) ps → Alls (In ws) qs
    → Solved ws (Unifies (tuple ps) (tuple qs)) (R ps qs)

follows_tuple : (θ : Sub) (σ : Bindings) (ps qs : Terms) → Follows θ σ
    → Unifies (tuple ps) (tuple qs) θ → Unifies (tuple (applys σ ps)) (tuple (applys σ qs)) θ
follows_tuple θ σ ps qs f e =
    ap (inst θ) (sym (apply_app σ [] ps)) ∙ follows_apply θ σ f (tuple ps) ∙ e
    ∙ sym (follows_apply θ σ f (tuple qs)) ∙ ap (inst θ) (apply_app σ [] qs)

-- the first arguments, and then the others under what these bound
module _ (vs : List ℕ) (p q : Term) (ps qs : Terms) where
  both_solved : (σ : Bindings) {o : Answer} → Chain vs σ → Unifies p q (as_sub σ)
      → ((θ : Sub) → Unifies p q θ → Follows θ σ)
      → Solved (left vs σ) (Unifies (tuple (applys σ ps)) (tuple (applys σ qs))) o
      → Solved vs (Unifies (tuple (cons p ps)) (tuple (cons q qs))) (before σ o)
  both_solved σ c j g (joined {σ = τ} d k h) =
      let ρ = as_sub (σ ++ τ) in
      let here : apply σ p ≡ apply σ q = apply_inst σ p ∙ j ∙ sym (apply_inst σ q) in
      let firsts : inst ρ p ≡ inst ρ q =
      inst_append σ τ p ∙ ap (inst (as_sub τ)) here ∙ sym (inst_append σ τ q) in
      let others : inst ρ (tuple ps) ≡ inst ρ (tuple qs) =
      inst_append σ τ (tuple ps) ∙ ap (inst (as_sub τ)) (apply_app σ [] ps) ∙ k
      ∙ ap (inst (as_sub τ)) (sym (apply_app σ [] qs)) ∙ sym (inst_append σ τ (tuple qs)) in
      joined (chain_append vs σ τ c d) (cc)
      (λ θ e. let f = g θ (cc) in follows_append θ σ τ f (h θ (follows_tuple θ σ ps qs f (cc))))
  both_solved σ c j g (apart h) = apart (λ θ e. h θ (follows_tuple θ σ ps qs (g θ (cc)) (cc)))

  after_solved : (R : Rest) → Solves vs R → {o r : Answer} → Solved vs (Unifies p q) o
      → Solved vs (Unifies (tuple ps) (tuple qs)) r → Alls (In vs) ps → Alls (In vs) qs
      → Solved vs (Unifies (tuple (cons p ps)) (tuple (cons q qs))) (after R ps qs r o)
  after_solved R good (apart h) s a b = apart (λ θ e. h θ (cc))
  after_solved R good (joined {σ = []} c j g) (joined d k h) a b = both_solved [] c j g (joined d k h)
  after_solved R good (joined {σ = []} c j g) (apart h) a b = both_solved [] c j g (apart h)
  after_solved R good (joined {σ = x ∷ σ} c j g) s a b =
      let τ : Bindings = x ∷ σ in
      let l = chain_length vs τ c in
      both_solved τ c j g
      (good (left vs τ) (applys τ ps) (applys τ qs) (omega arith) (chain_alls vs τ c ps a) (chain_alls vs τ c qs b))

name_solved : {vs : List ℕ} (f g : List ℕ) (ps qs : Terms) {r : Answer}
    → Solved vs (Unifies (tuple ps) (tuple qs)) r → Solved vs (Unifies (app f ps) (app g qs)) (cond (same f g) r none)
name_solved {vs} f g ps qs {r} s =
    let V : Sub → Type 0 = Unifies (app f ps) (app g qs) in
    cond_both (same f g) r none (Solved vs V)
    (λ e. let n = same_true f g e in solved_iff (Unifies (tuple ps) (tuple qs)) V (λ θ k. cc) (λ θ k. cc) s)
    (λ e. apart (λ θ k. both_ways (same f g) e (same_eq f g (cc))))

int_solved : {vs : List ℕ} (i j : ℤ) → Solved vs (Unifies (int i) (int j)) (cond (same_int i j) (some []) none)
int_solved {vs} i j =
    cond_both (same_int i j) (some []) none (Solved vs (Unifies (int i) (int j)))
    (λ e. joined tt (ap int (same_int_true i j e)) (λ θ _. tt))
    (λ e. apart (λ θ k. same_int_false i j e (cc)))

module _ (vs : List ℕ) (R : Rest) (good : Solves vs R) where
  mutual
    pub unify_term_solved : (s t : Term) → All (In vs) s → All (In vs) t → Solved vs (Unifies s t) (unify_term R s t)
    unify_term_solved (var x) t a b = unify_var_solved vs x t a b
    unify_term_solved (int i) (var y) a b = solved_sym (var y) (int i) (unify_var_solved vs y (int i) b a)
    unify_term_solved (int i) (int j) a b = int_solved i j
    unify_term_solved (int i) (app g qs) a b = apart (λ θ e. let z : ◌≡◌ {A = ℕ} 0 1 = cc in omega arith)
    unify_term_solved (app f ps) (var y) a b = solved_sym (var y) (app f ps) (unify_var_solved vs y (app f ps) b a)
    unify_term_solved (app f ps) (int j) a b = apart (λ θ e. let z : ◌≡◌ {A = ℕ} 0 1 = cc in omega arith)
    unify_term_solved (app f ps) (app g qs) a b = name_solved f g ps qs (unify_terms_solved ps qs a b)

    unify_terms_solved : (ps qs : Terms) → Alls (In vs) ps → Alls (In vs) qs
        → Solved vs (Unifies (tuple ps) (tuple qs)) (unify_terms R ps qs)
    unify_terms_solved nil nil a b = joined tt refl (λ θ e. tt)
    unify_terms_solved nil (cons q qs) a b = apart (λ θ e. let z : ◌≡◌ {A = ℕ} 0 1 = cc in omega arith)
    unify_terms_solved (cons p ps) nil a b = apart (λ θ e. let z : ◌≡◌ {A = ℕ} 0 1 = cc in omega arith)
    unify_terms_solved (cons p ps) (cons q qs) a b =
        after_solved vs p q ps qs R good (unify_term_solved p q a.0 b.0) (unify_terms_solved ps qs a.1 b.1)
        a.1 b.1

pub rest_solved : (n : ℕ) (vs : List ℕ) (ps qs : Terms) → length vs < n → Alls (In vs) ps → Alls (In vs) qs
    → Solved vs (Unifies (tuple ps) (tuple qs)) (rest n ps qs)
rest_solved zero vs ps qs l a b = absurd (omega arith)
rest_solved (suc n) vs ps qs l a b =
    unify_terms_solved vs (rest n) (λ ws ps' qs' k. rest_solved n ws ps' qs' (omega arith)) ps qs a b
