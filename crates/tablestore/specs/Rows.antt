-- The labels of the live rules, all in one order, and the row of each indicator.
use Rattle.std.specs.Prelude.{ℕ, suc, Bool, true, cond, ◌&&◌, List, [], ◌∷◌, ◌==◌, nat_lt, filter}
use Rattle.rules.specs.Meaning.{Value, rule_at, is_of_rule}

abbrev pub below : ℕ → List ℕ → Bool
below n [] = true
below n (x ∷ xs) = nat_lt x n && below n xs

-- how many labels stand before this one; all if it is not there
abbrev pub place_in : ℕ → List ℕ → ℕ
place_in l [] = 0
place_in l (x ∷ xs) = cond (x == l) 0 (suc (place_in l xs))

-- the labels of rules of one indicator
abbrev pub own : List Value → List ℕ → ℕ → ℕ → List ℕ
own vs ls f a = filter (λ l. is_of_rule (rule_at vs l) f a) ls
