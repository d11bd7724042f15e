-- Places of variables, and that more variables behind them leave a term as it is written.
use Rattle.std.proofs.Common.{◌≡◌, ℕ, suc, ◌+◌, ◌<◌, ◌≤◌, Bool, true, false, cond, eqb, ltb, List, [], ◌∷◌, ◌++◌}
use Rattle.std.proofs.Common.{length, sym, refl, ap, ◌∙◌, inl, inr, append_assoc}
use Rattle.std.proofs.Common.{append-nil, arith}
use Rattle.std.proofs.Common.{Some, None, Option, not, ◌==◌}
use Rattle.std.specs.Option.{unwrap_or}
use Rattle.std.specs.List.{position, position_or_len}
use Rattle.std.proofs.lemmas.List.Recursion.{is_position_or_len}
use Rattle.std.proofs.lemmas.List.Sums.{prefix_len-le-length}
use Rattle.std.proofs.lemmas.Bool.{cases_Bool, eq-eqb, ltb-true, ltb-false}
use Rattle.terms.specs.Term.{Term, Terms, var, int, app, nil, cons}
use Rattle.grammar.specs.Written as written
use Rattle.writing.specs.Writing.{text}
use Rattle.writer.specs.Shown.{place_in, with_variable, firsts, firsts_all, as_written, all_as_written, shown}
use Rattle.writer.specs.Shown.{decimal}
use Rattle.writer.specs.Numbered.{numbered, all_numbered}

-- the place of the first that is the variable, or their number where none is
pub place_found : (xs : List ℕ) (v : ℕ) (r : Option ℕ) → r ≡ position (λ x. x == v) xs
    → unwrap_or r (length xs) ≡ place_in xs v
place_found xs v r e =
    let n = position_or_len (λ x. x == v) xs in
    let same : place_in xs v ≡ n = is_position_or_len (λ ys. place_in ys v) (λ x. x == v) refl step xs in
    let l : n ≤ length xs = prefix_len-le-length (λ x. not (x == v)) xs in
    elim (cases_Bool (ltb n (length xs))) [
      | inl t ↦ ap (λ o. unwrap_or o (length xs)) (e ∙ ap (λ b. cond b (Some n) None) t) ∙ sym same
      | inr f ↦ (let most = ltb-false n (length xs) f in
          ap (λ o. unwrap_or o (length xs)) (e ∙ ap (λ b. cond b (Some n) None) f) ∙ omega arith)
    ]
  where
    step : (x : ℕ) (ys : List ℕ) → place_in (x ∷ ys) v ≡ cond (x == v) 0 (1 + place_in ys v)
    step x ys = let e : suc (place_in ys v) ≡ 1 + place_in ys v = omega arith in ap (λ n. cond (x == v) 0 n) e

-- a variable that was seen keeps its place
place_in_held : (xs ys : List ℕ) (v : ℕ) → place_in xs v < length xs → place_in (xs ++ ys) v ≡ place_in xs v
place_in_held [] ys v l = absurd (omega arith)
place_in_held (x ∷ xs) ys v l = go (eqb x v) l (place_in_held xs ys v)
  where
    go : (b : Bool) → cond b 0 (suc (place_in xs v)) < suc (length xs)
        → (place_in xs v < length xs → place_in (xs ++ ys) v ≡ place_in xs v)
        → cond b 0 (suc (place_in (xs ++ ys) v)) ≡ cond b 0 (suc (place_in xs v))
    go true m same = refl
    go false m same = ap suc (same (omega arith))

-- a new one has the place behind them
place_in_new : (xs ys : List ℕ) (v : ℕ) → length xs ≤ place_in xs v → place_in ((xs ++ v ∷ []) ++ ys) v ≡ place_in xs v
place_in_new [] ys v l = ap (λ b. cond b 0 (suc (place_in ys v))) (eq-eqb v v refl)
place_in_new (x ∷ xs) ys v l = go (eqb x v) l (place_in_new xs ys v)
  where
    go : (b : Bool) → suc (length xs) ≤ cond b 0 (suc (place_in xs v))
        → (length xs ≤ place_in xs v → place_in ((xs ++ v ∷ []) ++ ys) v ≡ place_in xs v)
        → cond b 0 (suc (place_in ((xs ++ v ∷ []) ++ ys) v)) ≡ cond b 0 (suc (place_in xs v))
    go true m same = absurd (omega arith)
    go false m same = ap suc (same (omega arith))

place_in_with : (xs ys : List ℕ) (v : ℕ) → place_in (with_variable xs v ++ ys) v ≡ place_in xs v
place_in_with xs ys v =
    elim (cases_Bool (ltb (place_in xs v) (length xs))) [
      | inl e ↦ ap (λ b. place_in (cond b xs (xs ++ v ∷ []) ++ ys) v) e
          ∙ place_in_held xs ys v (ltb-true (place_in xs v) (length xs) e)
      | inr e ↦ ap (λ b. place_in (cond b xs (xs ++ v ∷ []) ++ ys) v) e
          ∙ place_in_new xs ys v (ltb-false (place_in xs v) (length xs) e)
    ]

-- what is seen behind a term begins with what was seen before it
record Longer (xs ys : List ℕ) : Type 0 where
  more : List ℕ
  is : ys ≡ xs ++ more

with_variable_longer : (xs : List ℕ) (v : ℕ) → Longer xs (with_variable xs v)
with_variable_longer xs v = go (ltb (place_in xs v) (length xs))
  where
    go : (b : Bool) → Longer xs (cond b xs (xs ++ v ∷ []))
    go true = record { more = []; is = sym (append-nil xs) }
    go false = record { more = v ∷ []; is = refl }

longer_twice : (xs ys zs : List ℕ) → Longer xs ys → Longer ys zs → Longer xs zs
longer_twice xs ys zs p q =
    record {
      more = p.more ++ q.more;
      is = q.is ∙ ap (λ s. s ++ q.more) p.is ∙ append_assoc xs p.more q.more;
    }

mutual
  firsts_longer : (xs : List ℕ) (t : Term) → Longer xs (firsts xs t)
  firsts_longer xs (var v) = with_variable_longer xs v
  firsts_longer xs (int i) = record { more = []; is = sym (append-nil xs) }
  firsts_longer xs (app f ts) = firsts_all_longer xs ts

  firsts_all_longer : (xs : List ℕ) (ts : Terms) → Longer xs (firsts_all xs ts)
  firsts_all_longer xs nil = record { more = []; is = sym (append-nil xs) }
  firsts_all_longer xs (cons t ts) =
      longer_twice xs (firsts xs t) (firsts_all (firsts xs t) ts) (firsts_longer xs t) (firsts_all_longer (firsts xs t) ts)

-- a term is written with the places that its variables have as they come, whatever is seen behind it
mutual
  numbered_seen : (xs : List ℕ) (t : Term) (ys : List ℕ) → numbered xs t ≡ as_written (firsts xs t ++ ys) t
  numbered_seen xs (var v) ys = ap (λ n. written.var (95 ∷ decimal n)) (sym (place_in_with xs ys v))
  numbered_seen xs (int i) ys = refl
  numbered_seen xs (app f ts) ys = ap (written.app f) (all_numbered_seen xs ts ys)

  all_numbered_seen : (xs : List ℕ) (ts : Terms) (ys : List ℕ)
      → all_numbered xs ts ≡ all_as_written (firsts_all xs ts ++ ys) ts
  all_numbered_seen xs nil ys = refl
  all_numbered_seen xs (cons t ts) ys =
      let l = firsts_all_longer (firsts xs t) ts in
      let e : firsts xs t ++ (l.more ++ ys) ≡ firsts_all (firsts xs t) ts ++ ys =
      sym (append_assoc (firsts xs t) l.more ys) ∙ ap (λ s. s ++ ys) (sym l.is) in
      ap (λ w. written.cons w (all_numbered (firsts xs t) ts))
      (numbered_seen xs t (l.more ++ ys) ∙ ap (λ s. as_written s t) e)
      ∙ ap (written.cons (as_written (firsts_all (firsts xs t) ts ++ ys) t)) (all_numbered_seen (firsts xs t) ts ys)

pub numbered_shown : (xs : List ℕ) (t : Term) → text (numbered xs t) ≡ shown xs t
numbered_shown xs t =
    ap text (numbered_seen xs t [] ∙ ap (λ s. as_written s t) (append-nil (firsts xs t)))

-- the text of a term is the same with the variables of one more term behind it
pub shown_before : (xs : List ℕ) (t u : Term) → shown xs t ≡ text (as_written (firsts (firsts xs t) u) t)
shown_before xs t u =
    let l = firsts_longer (firsts xs t) u in
    sym (numbered_shown xs t)
    ∙ ap text (numbered_seen xs t l.more ∙ ap (λ s. as_written s t) (sym l.is))
