-- The byte that a token begins with: a bracket that opens, or the right one of a list.
use Rattle.std.proofs.Common.{◌≡◌, ℕ, ◌<◌, true, false, cond, ◌&&◌, List, [], ◌∷◌, ◌++◌, length, drop, Some, None, sym}
use Rattle.std.proofs.Common.{refl, ap, ◌∙◌}
use Rattle.tokens.specs.declared.kind.Kind.{Kind}
use Rattle.tokens.specs.declared.kind.Kind.TheVariants.{Small, Capital, Digit, Symbol, Solo, Quote, Opening, Closing}
use Rattle.tokens.specs.declared.kind.Kind.TheVariants.{Left, Right, Bar, Comma, Stop, Space, Stray}
use Rattle.tokens.specs.declared.scan.Token.{Token as Code}
use Rattle.tokens.specs.declared.scan.Token.TheVariants as code
use Rattle.tokens.specs.Bytes.{class, longest, past, symbol, digit, quote, same}
use Rattle.tokens.specs.Token.{Token, name, variable, integer, neck, opening, closing, left, right, bar, comma, stop}
use Rattle.tokens.specs.Token.{run, neck_bytes}
use Rattle.tokens.specs.Token.{symbols, inside, closed, spaced, minus_bytes}
use Rattle.tokens.specs.Token.{start_as, Scan, nothing, endless, got, or_else, scan_from, scan}
use Rattle.tokens.specs.Scanning.{head_kind, digit_at, scan_of}
use Rattle.tokens.proofs.ScanningProperties.{scan_single, scan_small, scan_capital, scan_digits, scan_symbols}
use Rattle.tokens.proofs.ScanningProperties.{scan_by_kind}

-- the kind of the bracket that was found; Stray for every other token
abbrev pub mark_kind : Scan → Kind
mark_kind nothing = Stray
mark_kind endless = Stray
mark_kind (got (name a) r) = Stray
mark_kind (got (variable a) r) = Stray
mark_kind (got (integer a) r) = Stray
mark_kind (got neck r) = Stray
mark_kind (got (opening b) r) = Opening
mark_kind (got closing r) = Stray
mark_kind (got left r) = Left
mark_kind (got right r) = Right
mark_kind (got bar r) = Stray
mark_kind (got comma r) = Stray
mark_kind (got stop r) = Stray

inside_a_quote : (s bs : List ℕ) → (mark_kind (scan_from (inside bs) s) ≡ Stray) × (mark_kind (scan_from (closed bs) s) ≡ Stray)
inside_a_quote [] bs = (refl, refl)
inside_a_quote (c ∷ s) bs = (
  elim (quote c) as (λ b. mark_kind (or_else (cond b (Some (closed bs)) (Some (inside (bs ++ c ∷ [])))) endless
      (λ q. scan_from q s)) ≡ Stray)
      [ true ↦ (inside_a_quote s bs).1 | false ↦ (inside_a_quote s (bs ++ c ∷ [])).0 ],
  elim (quote c) as (λ b. mark_kind (or_else (cond b (Some (inside (bs ++ c ∷ []))) None) (got (name bs) (c ∷ s))
      (λ q. scan_from q s)) ≡ Stray)
      [ true ↦ (inside_a_quote s (bs ++ c ∷ [])).0 | false ↦ refl ],
)

of_run : (bs r : List ℕ) → mark_kind (got (run bs) r) ≡ Stray
of_run bs r = elim (same bs neck_bytes) as (λ b. mark_kind (got (cond b neck (name bs)) r) ≡ Stray)
    [ true ↦ refl | false ↦ refl ]

in_symbols : (s bs : List ℕ) → mark_kind (scan_from (symbols bs) s) ≡ Stray
in_symbols s bs =
    let l = bs ++ longest symbol s in
    let r = past symbol s in
    ap mark_kind (scan_symbols s bs)
    ∙ elim (same l minus_bytes && digit_at r) as (λ b. mark_kind
    (cond b (got (integer (l ++ longest digit r)) (past digit r)) (got (run l) r)) ≡ Stray)
    [ true ↦ refl | false ↦ of_run l r ]

-- a bracket begins with its own byte
pub begins_as : (s : List ℕ) (k : Kind) → mark_kind (scan spaced s) ≡ k → (k ≡ Stray → ⊥) → head_kind s ≡ k
begins_as [] k e h = absurd (h (sym e))
begins_as (c ∷ s) k e h = go (class c) e
  where
    go : (j : Kind) → mark_kind (or_else (start_as j spaced c) nothing (λ q. scan_from q s)) ≡ k → j ≡ k
    go Small g = absurd (h (sym g ∙ ap mark_kind (scan_small s (c ∷ []))))
    go Capital g = absurd (h (sym g ∙ ap mark_kind (scan_capital s (c ∷ []))))
    go Digit g = absurd (h (sym g ∙ ap mark_kind (scan_digits s (c ∷ []))))
    go Symbol g = absurd (h (sym g ∙ in_symbols s (c ∷ [])))
    go Solo g = absurd (h (sym g ∙ ap mark_kind (scan_single (name (c ∷ [])) s)))
    go Quote g = absurd (h (sym g ∙ (inside_a_quote s []).0))
    go Opening g = sym (ap mark_kind (scan_single (opening false) s)) ∙ g
    go Closing g = absurd (h (sym g ∙ ap mark_kind (scan_single closing s)))
    go Left g = sym (ap mark_kind (scan_single left s)) ∙ g
    go Right g = sym (ap mark_kind (scan_single right s)) ∙ g
    go Bar g = absurd (h (sym g ∙ ap mark_kind (scan_single bar s)))
    go Comma g = absurd (h (sym g ∙ ap mark_kind (scan_single comma s)))
    go Stop g = absurd (h (sym g ∙ ap mark_kind (scan_single stop s)))
    go Space g = absurd (h (sym g))
    go Stray g = absurd (h (sym g))

-- where a token was found, no quoted name is left open
pub found_not_endless : (k : Code) (r : List ℕ) → scan_of k r ≡ endless → ⊥
found_not_endless (code.Name s) r e = cc
found_not_endless (code.Quoted s) r e = cc
found_not_endless (code.Variable s) r e = cc
found_not_endless (code.Integer s) r e = cc
found_not_endless code.Neck r e = cc
found_not_endless code.Opening r e = cc
found_not_endless code.Closing r e = cc
found_not_endless code.Left r e = cc
found_not_endless code.Right r e = cc
found_not_endless code.Bar r e = cc
found_not_endless code.Comma r e = cc
found_not_endless code.Stop r e = cc
found_not_endless code.End r e = cc

-- where a token was found, the byte is no stray one
pub found_no_stray : (line : List ℕ) (p : ℕ) (t : Token) (r : List ℕ) → scan spaced (drop p line) ≡ got t r
    → p < length line → head_kind (drop p line) ≡ Stray → ⊥
found_no_stray line p t r e l h =
    let y = sym (scan_by_kind line p spaced Stray l h) ∙ e in cc
