-- What is proved: unification is most general, bindings can be carried on, and copies are canonical.
use Rattle.std.specs.Prelude.{◌≡◌, ℕ, ◌+◌, ◌<◌, ◌≤◌, true, List, [], length, ◌≢◌, slice_index}
use Rattle.std.proofs.Math.Option.{none, some}
use Rattle.terms.specs.Term.{Term, Terms, var, cons, size}
use Rattle.unification.specs.Substitution.{Sub, inst, Bindings, apply, domain, All, In, lacks, vars}
use Rattle.unification.specs.Unifying.{unify, unify_at}
use Rattle.unification.specs.Under.{and_then, under, unders}
use Rattle.unification.specs.Chain.{Chain, Follows, Olders}
use Rattle.unification.specs.Copies.{seen, copy_from, copy, width, shift}

pub record Lawful : Type 0 where
  -- the bindings make the two terms the same
  pub sound : (s t : Term) (σ : Bindings) → unify s t ≡ some σ → apply σ s ≡ apply σ t
  -- no bound variable is left in any term
  pub resolved : (s t : Term) (σ : Bindings) → unify s t ≡ some σ
      → (x : ℕ) → In (domain σ) x → (r : Term) → lacks x (apply σ r) ≡ true
  -- counting more variables than there are changes nothing
  pub enough : (s t : Term) (vs : List ℕ) (n : ℕ) → All (In vs) s → All (In vs) t → length vs ≤ n
      → unify_at n s t ≡ unify s t
  -- every other unifier is an instance
  pub general : (s t : Term) (σ : Bindings) → unify s t ≡ some σ
      → (θ : Sub) → inst θ s ≡ inst θ t → (r : Term) → inst θ (apply σ r) ≡ inst θ r
  -- where there is no answer there is no unifier
  pub complete : (s t : Term) → unify s t ≡ none → (θ : Sub) → inst θ s ≢ inst θ t

-- bindings σ over the variables vs, and the bindings σ' once s and t were unified under them
pub record Kept (vs : List ℕ) (σ : Bindings) (s t : Term) (σ' : Bindings) : Type 0 where
  pub chain : Chain vs σ'
  pub joins : apply σ' s ≡ apply σ' t
  pub forced : (θ : Sub) → Follows θ σ → inst θ s ≡ inst θ t → Follows θ σ'

pub record Usable : Type 0 where
  -- the first arguments, and then the others under what these bound
  pub next : (σ : Bindings) (p q : Term) (ps qs : Terms)
      → unders σ (cons p ps) (cons q qs) ≡ and_then (under σ p q) (λ τ. unders τ ps qs)
  pub kept : (vs : List ℕ) (σ : Bindings) (s t : Term) → Chain vs σ → All (In vs) s → All (In vs) t
      → (σ' : Bindings) → under σ s t ≡ some σ' → Kept vs σ s t σ'
  pub none_fits : (σ : Bindings) (s t : Term) → under σ s t ≡ none
      → (θ : Sub) → Follows θ σ → inst θ s ≢ inst θ t
  pub older : (σ : Bindings) (s t : Term) → Olders σ → (σ' : Bindings) → under σ s t ≡ some σ' → Olders σ'
  pub idempotent : (vs : List ℕ) (σ : Bindings) → Chain vs σ → (t : Term) → apply σ (apply σ t) ≡ apply σ t

pub record Canonical : Type 0 where
  -- terms that differ in the numbers of variables alone have one copy
  pub renamed : (n : ℕ) (f : ℕ → ℕ) (t : Term)
      → ((x y : ℕ) → In (vars t) x → In (vars t) y → f x ≡ f y → x ≡ y)
      → copy_from n (inst (λ x. var (f x)) t) ≡ copy_from n t
  -- and no others: the copy loses nothing but these numbers
  pub recovered : (t : Term) → inst (λ x. var (slice_index (seen [] t) x)) (copy t) ≡ t
  pub copy_copy : (t : Term) → copy (copy t) ≡ copy t
  pub copy_shift : (n : ℕ) (t : Term) → copy (shift n t) ≡ copy t
  pub shift_copy : (n : ℕ) (t : Term) → copy_from n t ≡ shift n (copy t)
  pub copy_size : (n : ℕ) (t : Term) → size (copy_from n t) ≡ size t
  pub copy_width : (n : ℕ) (t : Term) → width (copy_from n t) ≡ width t
  -- the variables of a copy are numbered from n on, as many as the term has
  pub copy_vars : (n : ℕ) (t : Term) → All (λ x. (n ≤ x) × (x < n + width t)) (copy_from n t)
