-- A walk along a row: what it has found is the front of the row.
use Rattle.std.proofs.Common.{◌≡◌, ℕ, ◌+◌, ◌<◌, ◌≤◌, true, List, [], ◌∷◌, ◌++◌, length, take, drop, Some, None, Option}
use Rattle.std.proofs.Common.{sym, ap, ◌∙◌, add-one, arith}
use Rattle.std.proofs.lemmas.List.{take_more, take_all}
use Rattle.rules.specs.Meaning.{first_of, behind, distinct}
use Rattle.rules.proofs.MeaningProperties.{first_some, first_none, behind_at}

-- n labels are found, and this is the next
pub record Walked (row found : List ℕ) (n : ℕ) (next : Option ℕ) : Type 0 where
  pub front : found ≡ take n row
  pub first : next ≡ first_of (drop n row)
  pub within : n ≤ length row

pub walked_none : (row found : List ℕ) (n : ℕ) (next : Option ℕ) → found ≡ [] → n ≡ 0 → next ≡ first_of row
    → Walked row found n next
walked_none row found n next e z f =
    record {
      front = e ∙ sym (ap (λ k. take k row) z);
      first = f ∙ sym (ap (λ k. first_of (drop k row)) z);
      within = omega arith;
    }

pub walked_within : (row found : List ℕ) (n l : ℕ) (at : Option ℕ) → Walked row found n at → at ≡ Some l
    → n < length row
walked_within row found n l at w e = (first_some row n l (sym w.first ∙ e)).0

pub walked_more : (row found found' : List ℕ) (n n' l : ℕ) (at next : Option ℕ) → distinct row ≡ true
    → Walked row found n at → at ≡ Some l → found' ≡ found ++ l ∷ [] → n' ≡ n + 1 → next ≡ behind l row
    → Walked row found' n' next
walked_more row found found' n n' l at next d w e ef en eb =
    let two = first_some row n l (sym w.first ∙ e) in
    let less = two.0 in
    record {
      front = ef ∙ ap (λ xs. xs ++ l ∷ []) w.front ∙ ap (λ x. take n row ++ x ∷ []) (sym two.1)
          ∙ sym (take_more row n 0 less) ∙ ap (λ k. take k row) (sym en);
      first = eb ∙ ap (λ x. behind x row) (sym two.1) ∙ behind_at row n d less
          ∙ ap (λ k. first_of (drop k row)) (sym (en ∙ add-one n));
      within = omega arith;
    }

pub walked_all : (row found : List ℕ) (n : ℕ) (at : Option ℕ) → Walked row found n at → at ≡ None → found ≡ row
walked_all row found n at w e =
    w.front ∙ take_all n row (first_none row n (sym w.first ∙ e))
