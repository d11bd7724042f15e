-- The value of an arithmetic term: a function's name is tested before its operands, the left one first.
use Rattle.std.specs.Prelude.{ℕ, ◌+◌, cond, List, [], ◌∷◌, length, ℤ, Ok, Err, codes}
use Rattle.std.proofs.Math.Option.{Option, none, some}
use Rattle.arithmetic.specs.declared.function.ArithmeticFault.TheVariants.{ZeroDivisor, Overflow}
use Rattle.arithmetic.specs.declared.function.Unary.{Unary}
use Rattle.arithmetic.specs.declared.function.Unary.TheVariants.{Negate, Absolute}
use Rattle.arithmetic.specs.declared.function.Binary.{Binary}
use Rattle.arithmetic.specs.declared.function.Binary.TheVariants.{Add, Subtract, Multiply, Quotient, Modulo}
use Rattle.arithmetic.specs.Integers.{Computed, applied, paired}
use Rattle.terms.specs.Term.{Term, Terms, var, int, app, nil, cons}
use Rattle.terms.specs.Goals.{same}
use Rattle.semantics.specs.Errors.{instantiation, not_evaluable, zero_divisor, int_overflow}

-- a number, or the error
pub data Value : Type 0 where
  number : ℤ → Value
  fault : Term → Value

abbrev pub unary_of : List ℕ → Option Unary
unary_of f = cond (same f (codes "-")) (some Negate) (cond (same f (codes "abs")) (some Absolute) none)

abbrev pub binary_of : List ℕ → Option Binary
binary_of f =
    cond (same f (codes "+")) (some Add)
    (cond (same f (codes "-")) (some Subtract)
    (cond (same f (codes "*")) (some Multiply)
    (cond (same f (codes "//")) (some Quotient)
    (cond (same f (codes "mod")) (some Modulo) none))))

abbrev pub value_of : Computed → Value
value_of (Ok z) = number z
value_of (Err ZeroDivisor) = fault zero_divisor
value_of (Err Overflow) = fault int_overflow

abbrev pub and_then : Value → (ℤ → Value) → Value
and_then (number z) k = k z
and_then (fault e) k = fault e

-- a function of operands with these values
abbrev pub combine : List ℕ → List Value → Value
combine f [] = fault (not_evaluable f 0)
combine f (x ∷ []) =
    elim (unary_of f) [ none ↦ fault (not_evaluable f 1) | some u ↦ and_then x (λ i. value_of (applied u i)) ]
combine f (x ∷ y ∷ []) =
    elim (binary_of f) [
      | none ↦ fault (not_evaluable f 2)
      | some u ↦ and_then x (λ i. and_then y (λ j. value_of (paired u i j)))
    ]
combine f (x ∷ y ∷ z ∷ zs) = fault (not_evaluable f (3 + length zs))

-- the value of a term that is resolved
abbrev mutual
  pub evaluate : Term → Value
  evaluate (var v) = fault instantiation
  evaluate (int i) = number i
  evaluate (app f ts) = combine f (values ts)

  pub values : Terms → List Value
  values nil = []
  values (cons t ts) = evaluate t ∷ values ts
