-- A test of every number below m.
use Rattle.std.proofs.Common.{◌≡◌, ℕ, zero, suc, ◌<◌, Bool, true, ◌&&◌, ap, ◌∙◌, inl, inr, arith}
use Rattle.std.proofs.lemmas.Bool.{and_parts, cases_lt}

abbrev pub every : ℕ → (ℕ → Bool) → Bool
every zero p = true
every (suc m) p = every m p && p m

pub every_at : (m : ℕ) (p : ℕ → Bool) → every m p ≡ true → (k : ℕ) → k < m → p k ≡ true
every_at zero p all k l = absurd (omega arith)
every_at (suc m) p all k l =
    let two = and_parts (every m p) (p m) all in
    elim (cases_lt k m) [
      | inl less ↦ every_at m p two.0 k less
      | inr past ↦ (let e : k ≡ m = omega arith in ap p e ∙ two.1)
    ]
