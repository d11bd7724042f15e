-- One byte more of a line: what is kept of it, and where its first bad byte stands.
use Rattle.std.proofs.Common.{◌≡◌, ℕ, ◌+◌, ◌<◌, ◌≤◌, Bool, true, false, cond, ltb, List, [], ◌∷◌, ◌++◌}
use Rattle.std.proofs.Common.{length, Some, None, Option, sym, refl, ap, ◌∙◌, arith}
use Rattle.std.proofs.Common.{length-append, take_all, ltb-false, le-ltb, lt-ltb}
use lib.Seq.{take-append-le}
use Rattle.checking.specs.declared.line.LineProblem.{LineProblem}
use Rattle.checking.specs.declared.line.LineProblem.TheVariants.{BadByte, TooLong}
use Rattle.std.specs.List.{position_from}
use Rattle.std.specs.Option.{option_map, MatchOption, IsSomeAnd}
use Rattle.std.proofs.Common.{min}
use Rattle.std.proofs.lemmas.List.{take_min}
use Rattle.std.proofs.lemmas.Bool.{ltb-true}
use Rattle.std.proofs.Common.{take}
use Rattle.checking.specs.Kept.{Kept, kept_of}
use Rattle.checking.specs.Lines.{first_after, first_from, bad_from, is_bad, problem_of, Keeps}

pub first_of_one_more : (f : Option ℕ) (s : List ℕ) (c : ℕ) → first_from f (s ++ c ∷ []) ≡ first_after (first_from f s) c
first_of_one_more f [] c = refl
first_of_one_more f (b ∷ s) c = first_of_one_more (first_after f b) s c

-- a line that is not too long is kept whole
kept_short : (items : List ℕ) (first : Option ℕ) (s : List ℕ) → length items ≤ 1019 → Keeps (kept_of items first) s → items ≡ s
kept_short items first s n k =
    let short : length s ≤ 1019 = ltb-false 1019 (length s) (sym k.more ∙ le-ltb 1019 (length items) n) in
    sym (take_all 1019 items n) ∙ k.front ∙ take_all 1019 s short

-- one byte more where there is room for it
pub kept_with_room : (items : List ℕ) (first next : Option ℕ) (s : List ℕ) (c : ℕ) → length items ≤ 1019
    → next ≡ first_after first c → Keeps (kept_of items first) s → Keeps (kept_of (items ++ c ∷ []) next) (s ++ c ∷ [])
kept_with_room items first next s c n e k =
    let same = kept_short items first s n k in
    record {
      front = ap (λ x. take 1019 (x ++ c ∷ [])) same;
      more = ap (λ x. ltb 1019 (length (x ++ c ∷ []))) same;
      begins = e ∙ ap (λ f. first_after f c) k.begins ∙ sym (first_of_one_more None s c);
    }

-- one byte more where the line is already too long
pub kept_when_full : (items : List ℕ) (first next : Option ℕ) (s : List ℕ) (c : ℕ) → 1019 < length items
    → next ≡ first_after first c → Keeps (kept_of items first) s → Keeps (kept_of items next) (s ++ c ∷ [])
kept_when_full items first next s c n e k =
    let long : 1019 < length s = ltb-true 1019 (length s) (sym k.more ∙ lt-ltb 1019 (length items) n) in
    let a = length-append s (c ∷ []) in
    let l : 1019 ≤ length s = omega arith in
    record {
      front = k.front ∙ sym (take-append-le 1019 s (c ∷ []) l);
      more = lt-ltb 1019 (length items) n ∙ sym (lt-ltb 1019 (length (s ++ c ∷ [])) (omega arith));
      begins = e ∙ ap (λ f. first_after f c) k.begins ∙ sym (first_of_one_more None s c);
    }

bad_picked : (i : ℕ) (b : Bool) (r : Option ℕ) (p : Option LineProblem) → option_map BadByte r ≡ p
    → option_map BadByte (cond b (Some i) r) ≡ cond b (Some (BadByte i)) p
bad_picked i true r p e = refl
bad_picked i false r p e = e

-- the first bad byte is found by its place
pub bad_found : (i : ℕ) (s : List ℕ) → option_map BadByte (position_from is_bad i s) ≡ bad_from i s
bad_found i [] = refl
bad_found i (c ∷ s) = bad_picked i (is_bad c) (position_from is_bad (i + 1) s) (bad_from (i + 1) s) (bad_found (i + 1) s)

-- a found place told as a problem
pub mapped : (r : Option ℕ) (m : Option LineProblem) (P : ℕ → LineProblem → Type 0) → ((x : ℕ) (p : LineProblem) → P x p → p ≡ BadByte x)
    → MatchOption r (m ≡ None) (λ x. IsSomeAnd m (λ p. P x p)) → m ≡ option_map BadByte r
mapped None m P f h = h
mapped (Some x) (Some p) P f h = ap Some (f x p h)
mapped (Some x) None P f h = absurd h

-- the front that may be shown
pub front_kept : (items xs : List ℕ) (n m : ℕ) → xs ≡ items → m ≡ length items → n ≡ min 1019 m → take n xs ≡ take 1019 items
front_kept items xs n m e l d = ap (take n) e ∙ ap (λ k. take k items) (d ∙ ap (min 1019) l) ∙ take_min 1019 items

-- the first bad byte of a whole line
pub problem_of_kept : (items : List ℕ) (first : Option ℕ) (s : List ℕ) → length items ≤ 1019 → Keeps (kept_of items first) s
    → bad_from 0 items ≡ problem_of s
problem_of_kept items first s n k =
    ap (bad_from 0) (kept_short items first s n k)
    ∙ sym (ap (λ b. cond b (Some TooLong) (bad_from 0 s)) (sym k.more ∙ le-ltb 1019 (length items) n))

-- a line with no problem is kept whole
pub kept_whole : (kept : Kept) (s : List ℕ) → problem_of s ≡ None → Keeps kept s → kept.bytes ≡ s
kept_whole kept s h k = go (ltb 1019 (length s)) refl h
  where
    go : (b : Bool) → ltb 1019 (length s) ≡ b → cond b (Some TooLong) (bad_from 0 s) ≡ None → kept.bytes ≡ s
    go true e g = let z : ◌≡◌ {A = ℕ} 0 1 = cc in absurd (omega arith)
    go false e g = k.front ∙ take_all 1019 s (ltb-false 1019 (length s) e)
