-- Quoted names: each byte, each doubled quote and the closing quote at once.
use Rattle.std.proofs.Common.{◌≡◌, ℕ, ◌+◌, ◌-◌, ◌<◌, Bool, true, false, cond, not, List, [], ◌∷◌, ◌++◌, length, get_or}
use Rattle.std.proofs.Common.{take, drop, Some, None, sym, refl, ap, ◌∙◌, append-nil, arith}
use Rattle.std.proofs.lemmas.List.{take_more}
use Rattle.tokens.specs.Bytes.{quote}
use Rattle.tokens.specs.Token.{Part, name, inside, closed, endless, got, or_else, scan_from}
use Rattle.tokens.specs.Scanning.{undouble}
use Rattle.tokens.proofs.BytesProperties.{drop_here, false_true}

abbrev pub quote_at : List ℕ → Bool
quote_at [] = false
quote_at (c ∷ s) = quote c

-- whether these bytes of a quoted name end behind the first of two quotes
abbrev pub half : Bool → List ℕ → Bool
half b [] = b
half true (c ∷ s) = half false s
half false (c ∷ s) = half (quote c) s

undouble_append : (b : Bool) (xs ys : List ℕ) → undouble b (xs ++ ys) ≡ undouble b xs ++ undouble (half b xs) ys
undouble_append b [] ys = refl
undouble_append true (c ∷ xs) ys = ap (λ l. c ∷ l) (undouble_append false xs ys)
undouble_append false (c ∷ xs) ys =
    elim (quote c) as (λ q. cond q (undouble true (xs ++ ys)) (c ∷ undouble false (xs ++ ys))
    ≡ cond q (undouble true xs) (c ∷ undouble false xs) ++ undouble (half q xs) ys) [
      | true ↦ undouble_append true xs ys
      | false ↦ ap (λ l. c ∷ l) (undouble_append false xs ys)
    ]

half_append : (b : Bool) (xs ys : List ℕ) → half b (xs ++ ys) ≡ half (half b xs) ys
half_append b [] ys = refl
half_append true (c ∷ xs) ys = half_append false xs ys
half_append false (c ∷ xs) ys = half_append (quote c) xs ys

plain_scan : (bs s : List ℕ) (c : ℕ) → quote c ≡ false
    → scan_from (inside bs) (c ∷ s) ≡ scan_from (inside (bs ++ c ∷ [])) s
plain_scan bs s c q =
    ap (λ b. or_else (cond b (Some (closed bs)) (Some (inside (bs ++ c ∷ [])))) endless (λ q. scan_from q s)) q

quote_scan : (bs s : List ℕ) (c : ℕ) → quote c ≡ true → scan_from (inside bs) (c ∷ s) ≡ scan_from (closed bs) s
quote_scan bs s c q =
    ap (λ b. or_else (cond b (Some (closed bs)) (Some (inside (bs ++ c ∷ [])))) endless (λ q. scan_from q s)) q

again_scan : (bs s : List ℕ) (c : ℕ) → quote c ≡ true
    → scan_from (closed bs) (c ∷ s) ≡ scan_from (inside (bs ++ c ∷ [])) s
again_scan bs s c q =
    ap (λ b. or_else (cond b (Some (inside (bs ++ c ∷ []))) None) (got (name bs) (c ∷ s)) (λ q. scan_from q s)) q

closed_scan : (bs s : List ℕ) → quote_at s ≡ false → scan_from (closed bs) s ≡ got (name bs) s
closed_scan bs [] q = refl
closed_scan bs (c ∷ s) q =
    ap (λ b. or_else (cond b (Some (inside (bs ++ c ∷ []))) None) (got (name bs) (c ∷ s)) (λ q. scan_from q s)) q

-- a name with these bytes: behind a quote that closes it unless one more follows, or not
abbrev pub part : Bool → List ℕ → Part
part true bs = closed bs
part false bs = inside bs

-- what has been read of a quoted name whose inside is s, up to its byte m
pub record Reading (s : List ℕ) (m : ℕ) (b : Bool) : Type 0 where
  pub behind : half false (take m s) ≡ b
  pub is : scan_from (inside []) s ≡ scan_from (part b (undouble false (take m s))) (drop m s)
  pub begun : b ≡ true → 0 < m
  pub last : b ≡ true → undouble false (take m s) ≡ undouble false (take (m - 1) s)

-- one more byte
module _ (s : List ℕ) (m : ℕ) (h : m < length s) where
  read_more : take (m + 1) s ≡ take m s ++ get_or s m 0 ∷ []
  read_more = take_more s m 0 h

  half_more : (b : Bool) → half false (take m s) ≡ b → half false (take (m + 1) s) ≡ half b (get_or s m 0 ∷ [])
  half_more b e =
      ap (half false) read_more ∙ half_append false (take m s) (get_or s m 0 ∷ [])
      ∙ ap (λ b. half b (get_or s m 0 ∷ [])) e

  undouble_more : (b : Bool) → half false (take m s) ≡ b
      → undouble false (take (m + 1) s) ≡ undouble false (take m s) ++ undouble b (get_or s m 0 ∷ [])
  undouble_more b e =
      ap (undouble false) read_more ∙ undouble_append false (take m s) (get_or s m 0 ∷ [])
      ∙ ap (λ b. undouble false (take m s) ++ undouble b (get_or s m 0 ∷ [])) e

  -- that is no quote
  pub reading_plain : quote (get_or s m 0) ≡ false → Reading s m false → Reading s (m + 1) false
  reading_plain q r = record {
    behind = half_more false r.behind ∙ q;
    is = r.is ∙ ap (scan_from (inside (undouble false (take m s)))) (drop_here s m h)
        ∙ plain_scan (undouble false (take m s)) (drop (m + 1) s) (get_or s m 0) q
        ∙ ap (λ l. scan_from (inside l) (drop (m + 1) s)) (sym (undouble_more false r.behind
        ∙ ap (λ b. undouble false (take m s) ++ cond b [] (get_or s m 0 ∷ [])) q));
    begun = λ e. false_true e;
    last = λ e. false_true e;
  }

  -- that is the first of two quotes, or closes the name
  reading_first : quote (get_or s m 0) ≡ true → Reading s m false → Reading s (m + 1) true
  reading_first q r =
      let n : m + 1 - 1 ≡ m = omega arith in
      let u =
      undouble_more false r.behind ∙ ap (λ b. undouble false (take m s) ++ cond b [] (get_or s m 0 ∷ [])) q
      ∙ append-nil (undouble false (take m s)) in
      record {
        behind = half_more false r.behind ∙ q;
        is = r.is ∙ ap (scan_from (inside (undouble false (take m s)))) (drop_here s m h)
            ∙ quote_scan (undouble false (take m s)) (drop (m + 1) s) (get_or s m 0) q
            ∙ ap (λ l. scan_from (closed l) (drop (m + 1) s)) (sym u);
        begun = λ e. omega arith;
        last = λ e. u ∙ ap (λ n. undouble false (take n s)) (sym n);
      }

  -- that is the second of two quotes
  reading_second : quote (get_or s m 0) ≡ true → Reading s m true → Reading s (m + 1) false
  reading_second q r = record {
    behind = half_more true r.behind;
    is = r.is ∙ ap (scan_from (closed (undouble false (take m s)))) (drop_here s m h)
        ∙ again_scan (undouble false (take m s)) (drop (m + 1) s) (get_or s m 0) q
        ∙ ap (λ l. scan_from (inside l) (drop (m + 1) s)) (sym (undouble_more true r.behind));
    begun = λ e. false_true e;
    last = λ e. false_true e;
  }

  pub reading_quote : (b : Bool) → quote (get_or s m 0) ≡ true → Reading s m b → Reading s (m + 1) (not b)
  reading_quote true q r = reading_second q r
  reading_quote false q r = reading_first q r

-- the quote before it closes the name
pub reading_closed : (s : List ℕ) (m : ℕ) → quote_at (drop m s) ≡ false → Reading s m true
    → scan_from (inside []) s ≡ got (name (undouble false (take (m - 1) s))) (drop m s)
reading_closed s m q r =
    r.is ∙ closed_scan (undouble false (take m s)) (drop m s) q ∙ ap (λ l. got (name l) (drop m s)) (r.last refl)
