use Rattle.std.proofs.Common.{◌≡◌, ℕ, ◌+◌, ◌-◌, ◌<◌, ◌≤◌, true, false, cond, ◌&&◌, List, [], ◌∷◌, ◌++◌, length, get_or}
use Rattle.std.proofs.Common.{take, drop, sym, refl, ap, ◌∙◌, arith, rules}
use Rattle.std.proofs.Math.Bool.{and-false}
use denote.Enum.Bare.{same_true, sameb}
use Rattle.tokens.specs.contracts.kind.Kind.{the_type}
use Rattle.tokens.specs.declared.kind.Kind.{Kind}
use Rattle.tokens.specs.declared.kind.Kind.TheVariants.{Symbol, Digit, Stray}
use Rattle.tokens.specs.Bytes.{symbol, digit, longest, past, same}
use Rattle.tokens.specs.Token.{spaced, scan, name, neck, integer, got, run, minus_bytes, neck_bytes}
use Rattle.tokens.specs.Scanning.{head_kind, digit_at}
use Rattle.tokens.proofs.BytesProperties.{inside_by_kind, digit_at_by_kind, no_digit_at_by_kind, false_true}
use Rattle.tokens.proofs.ScanningProperties.{scan_by_kind, scan_symbols, symbols_before, slice_of_run, slice_of_two}
use Rattle.tokens.proofs.scan.symbol_token.Goals as goal
use Rattle.tokens.proofs.scan.symbol_token.Goals.{else-eq-via-then-eq+else-eq-2, else-eq-via-else-eq}

inside : (line : List ℕ) (i : ℕ) → head_kind (drop i line) ≡ Symbol → i < length line
inside line i k = inside_by_kind line i (λ s. let z : Symbol ≡ Stray = cc in cc)

-- what the definition finds where a run of symbols stands from i to e
symbols_at : (line bs : List ℕ) (i e : ℕ) → i < length line → head_kind (drop i line) ≡ Symbol
    → drop e line ≡ past symbol (drop (i + 1) line) → i < e → e ≤ length line → bs ≡ take (e - i) (drop i line)
    → scan spaced (drop i line) ≡ symbols_before bs (drop e line)
symbols_at line bs i e h k v u w b =
    scan_by_kind line i spaced Symbol h k ∙ scan_symbols (drop (i + 1) line) (get_or line i 0 ∷ [])
    ∙ ap (λ l. symbols_before l (past symbol (drop (i + 1) line)))
    (sym (b ∙ slice_of_run symbol line i e h v (omega arith) w))
    ∙ ap (symbols_before bs) (sym v)

-- the two ways that a run of symbols can end
signed : (line bs : List ℕ) (i e l : ℕ) → i < e → e ≤ l → l ≤ length line → drop l line ≡ past digit (drop e line)
    → bs ≡ take (e - i) (drop i line) → same bs minus_bytes ≡ true → digit_at (drop e line) ≡ true
    → symbols_before bs (drop e line) ≡ got (integer (take (l - i) (drop i line))) (drop l line)
signed line bs i e l u y x v b m d =
    ap (λ q. cond q (got (integer (bs ++ longest digit (drop e line))) (past digit (drop e line)))
    (got (run bs) (drop e line)))
    (ap (λ q. q && digit_at (drop e line)) m ∙ d)
    ∙ ap (λ z. got (integer (z ++ longest digit (drop e line))) (past digit (drop e line))) b
    ∙ ap (λ z. got (integer z) (past digit (drop e line))) (sym (slice_of_two digit line i e l (omega arith) y x v))
    ∙ ap (λ r. got (integer (take (l - i) (drop i line))) r) (sym v)

unsigned : (bs r : List ℕ) → same bs minus_bytes && digit_at r ≡ false → symbols_before bs r ≡ got (run bs) r
unsigned bs r m = ap (λ b. cond b (got (integer (bs ++ longest digit r)) (past digit r)) (got (run bs) r)) m

no_digit : (s : List ℕ) (k : Kind) → k ≡ head_kind s → false ≡ sameb the_type k Digit → digit_at s ≡ false
no_digit s k v f = no_digit_at_by_kind s (λ h. false_true (f ∙ ap (λ k. sameb the_type k Digit) (v ∙ h)))

no_sign : (bs s : List ℕ) → digit_at s ≡ false → same bs minus_bytes && digit_at s ≡ false
no_sign bs s d = ap (λ b. same bs minus_bytes && b) d ∙ and-false (same bs minus_bytes)

pub returns-then-eq-2 : goal.returns-then-eq-2
returns-then-eq-2 c =
    let line = c.args.line.now in
    let h = inside line c.args.start c.requires in
    let i = c.args.start in
    let r = c.run_at-end.ensures in
    let e = c.run_at-end.result.1 in
    let l = c.run_end-last.result in
    let x : l ≤ length line = c.run_end-last.ensures.within.1 r.within in
    let y : e ≤ l = c.run_end-last.ensures.within.0 in
    let bs = c.run_at-end.result.0.now in
    let m : same bs minus_bytes ≡ true = ap (same bs) (sym c.as_slice.ensures) ∙ sym c.if-eq.ensures in
    let k = same_true the_type (search rules) _ _ (sym c.if-eq-2.ensures) in
    let d : digit_at (drop e line) ≡ true = digit_at_by_kind (drop e line) (sym c.kind_at.ensures.value ∙ k) in
    record {
      is = symbols_at line bs i e h c.requires r.value r.long r.within r.bytes
          ∙ signed line bs i e l r.long y x c.run_end-last.ensures.value r.bytes m d;
      holds = refl;
      long = omega arith;
      within = x;
    }

pub returns-then-eq-3 : goal.returns-then-eq-3
returns-then-eq-3 c =
    let line = c.args.line.now in
    let h = inside line c.args.start c.requires in
    let r = c.run_at-end.ensures in
    let e = c.run_at-end.result.1 in
    let bs = c.run_at-end.result.0.now in
    let n : same bs minus_bytes && digit_at (drop e line) ≡ false = elim c.else-eq.branch [
      | else-eq-via-then-eq+else-eq-2 w ↦
          no_sign bs (drop e line) (no_digit (drop e line) w.kind_at.result w.kind_at.ensures.value w.if-eq-2.ensures)
      | else-eq-via-else-eq w ↦
          ap (λ b. b && digit_at (drop e line)) (ap (same bs) (sym c.as_slice.ensures) ∙ sym w.if-eq.ensures)
    ] in
    let m : same bs neck_bytes ≡ true = ap (same bs) (sym c.as_slice-else-eq.ensures) ∙ sym c.if-eq-3.ensures in
    record {
      is = symbols_at line bs c.args.start e h c.requires r.value r.long r.within r.bytes ∙ unsigned bs (drop e line) n
          ∙ ap (λ b. got (cond b neck (name bs)) (drop e line)) m;
      holds = tt;
      long = r.long;
      within = r.within;
    }

pub returns-else-eq-3 : goal.returns-else-eq-3
returns-else-eq-3 c =
    let line = c.args.line.now in
    let h = inside line c.args.start c.requires in
    let r = c.run_at-end.ensures in
    let e = c.run_at-end.result.1 in
    let bs = c.run_at-end.result.0.now in
    let n : same bs minus_bytes && digit_at (drop e line) ≡ false = elim c.else-eq.branch [
      | else-eq-via-then-eq+else-eq-2 w ↦
          no_sign bs (drop e line) (no_digit (drop e line) w.kind_at.result w.kind_at.ensures.value w.if-eq-2.ensures)
      | else-eq-via-else-eq w ↦
          ap (λ b. b && digit_at (drop e line)) (ap (same bs) (sym c.as_slice.ensures) ∙ sym w.if-eq.ensures)
    ] in
    let m : same bs neck_bytes ≡ false = ap (same bs) (sym c.as_slice-else-eq.ensures) ∙ sym c.if-eq-3.ensures in
    record {
      is = symbols_at line bs c.args.start e h c.requires r.value r.long r.within r.bytes ∙ unsigned bs (drop e line) n
          ∙ ap (λ b. got (cond b neck (name bs)) (drop e line)) m;
      holds = r.bytes;
      long = r.long;
      within = r.within;
    }
