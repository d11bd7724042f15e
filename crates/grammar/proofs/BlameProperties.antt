-- Which kind of fault a text has, by the bytes u that could be read and the byte c that could not stand behind them:
-- what the definitions of fault kinds ask of the front of the text is asked of u and c.
use Rattle.std.proofs.Common.{◌≡◌, ℕ, suc, ◌+◌, ◌-◌, true, false, List, [], ◌∷◌, ◌++◌, length, take, drop, sym, refl}
use Rattle.std.proofs.Common.{ap, ◌∙◌, subst, inl, inr, append_assoc, arith, length-append}
use lib.Seq.{drop-length, drop-append_seam}
use Rattle.tokens.specs.Token.{IsRow, scan, joined, nothing, endless}
use Rattle.grammar.specs.Faults.{NoRow, Unclosed, inside_quote}
use Rattle.grammar.specs.Theorem.{RowGoesOn, goes_on}

pub take_one_more : (u : List ℕ) (c : ℕ) (x : List ℕ) → take (suc (length u)) (u ++ c ∷ x) ≡ u ++ c ∷ []
take_one_more [] c x = refl
take_one_more (a ∷ u) c x = ap (λ l. a ∷ l) (take_one_more u c x)

front_length : (u : List ℕ) (c : ℕ) (x : List ℕ) → length (u ++ c ∷ x) ≡ length u + suc (length x)
front_length u c x = length-append u (c ∷ x)

module _ (s u : List ℕ) (c : ℕ) (x : List ℕ) (split : s ≡ u ++ c ∷ x) where
  front_is : (w : List ℕ) → take (suc (length u)) s ++ w ≡ u ++ c ∷ w
  front_is w =
      ap (λ l. take (suc (length u)) l ++ w) split
      ∙ ap (λ l. l ++ w) (take_one_more u c x) ∙ append_assoc u (c ∷ []) w

  rest_is : drop (suc (length u) - 1) s ≡ c ∷ x
  rest_is =
      let m : suc (length u) - 1 ≡ length u = omega arith in
      ap (λ k. drop k s) m ∙ ap (drop (length u)) split ∙ drop-append_seam u (c ∷ x)

  -- no row of tokens begins with u and c, or some row does
  pub no_row_to : ((w : List ℕ) → IsRow (u ++ c ∷ w) → ⊥) → NoRow s (suc (length u))
  no_row_to f =
      let l : length s ≡ length u + suc (length x) = ap length split ∙ front_length u c x in
      (omega arith, λ w y. f w (subst IsRow (front_is w) y))

  pub no_row_from : NoRow s (suc (length u)) → RowGoesOn u c → ⊥
  no_row_from h (goes_on w y) = h.1 w (subst IsRow (sym (front_is w)) y)

  -- an unclosed quoted name begins at c, or none does
  pub unclosed_to : scan joined (c ∷ x) ≡ endless → Unclosed s (suc (length u))
  unclosed_to h = inl (ap (scan joined) rest_is ∙ h)

  pub unclosed_from : Unclosed s (suc (length u)) → scan joined (c ∷ x) ≡ endless
  unclosed_from (inl h) = sym (ap (scan joined) rest_is) ∙ h
  unclosed_from (inr h) =
      let l : length s ≡ length u + suc (length x) = ap length split ∙ front_length u c x in
      let k = h.0 in
      absurd (omega arith)

-- where all bytes can be read: the fault is one of tokens exactly if they end inside a quoted name

pub no_row_at_end : (s : List ℕ) → NoRow s (suc (length s)) → ⊥
no_row_at_end s h = let k = h.0 in omega arith

pub unclosed_at_end_to : (s : List ℕ) → inside_quote false s ≡ true → Unclosed s (suc (length s))
unclosed_at_end_to s h = inr (omega arith, h)

pub unclosed_at_end_from : (s : List ℕ) → Unclosed s (suc (length s)) → inside_quote false s ≡ true
unclosed_at_end_from s (inr h) = h.1
unclosed_at_end_from s (inl h) =
    let m : suc (length s) - 1 ≡ length s = omega arith in
    let e : drop (suc (length s) - 1) s ≡ [] = ap (λ k. drop k s) m ∙ drop-length s in
    nothing_is_not_endless (sym (ap (scan joined) e) ∙ h)
  where
    nothing_is_not_endless : nothing ≡ endless → inside_quote false s ≡ true
    nothing_is_not_endless k = let z : ◌≡◌ {A = ℕ} 0 1 = cc in absurd (omega arith)
