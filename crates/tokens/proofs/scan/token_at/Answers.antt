use Rattle.std.proofs.Common.{◌≡◌, ℕ, suc, zero, ◌+◌, ◌-◌, ◌<◌, ◌≤◌, Bool, false, List, [], ◌∷◌, length, get_or, take}
use Rattle.std.proofs.Common.{drop, Some, Err, sym, refl, ap, ◌∙◌, subst, arith}
use Rattle.std.specs.Option.{ok_or}
use Rattle.std.proofs.lemmas.Result.{err_from_is_err_and}
use Rattle.tokens.specs.declared.kind.Kind.{Kind}
use Rattle.tokens.specs.declared.kind.Kind.TheVariants.{Small, Capital, Digit, Solo, Quote, Opening, Closing}
use Rattle.tokens.specs.declared.kind.Kind.TheVariants.{Left, Right, Bar, Comma, Stop}
use Rattle.tokens.specs.declared.scan.Token.{Token}
use Rattle.tokens.specs.declared.scan.Token.TheVariants as code
use Rattle.tokens.specs.declared.scan.TokenFault.TheVariants as fault
use Rattle.tokens.specs.Bytes.{word, digit, longest, past}
use Rattle.tokens.specs.Token as spec
use Rattle.tokens.specs.Scanning.{head_kind, QuoteRead, StartsAs, StandsAt, scan_of, Holds, Length}
use Rattle.tokens.proofs.BytesProperties.{drop_here}
use Rattle.tokens.proofs.ScanningProperties.{scan_by_kind, scan_single, scan_small, scan_capital, scan_digits}
use Rattle.tokens.proofs.ScanningProperties.{slice_of_run}
use Rattle.tokens.proofs.scan.token_at.Goals as goal
use Rattle.tokens.proofs.scan.token_at.Goals.{in-Small, in-Capital, in-Digit, in-Symbol, in-Solo, in-Opening}
use Rattle.tokens.proofs.scan.token_at.Goals.{in-Quote+in_ok-end-in-Quote, in-Closing, in-Left, in-Right}
use Rattle.tokens.proofs.scan.token_at.Goals.{in-Bar, in-Comma, in-Stop}

-- a token of one byte
mark_stands : (line : List ℕ) (i : ℕ) (k : Kind) (t : Token) (x : spec.Token) → i < length line
    → k ≡ head_kind (drop i line) → spec.start_as k spec.spaced (get_or line i 0) ≡ Some (spec.single x)
    → scan_of t (drop (i + 1) line) ≡ spec.got x (drop (i + 1) line)
    → Holds line t i (i + 1) → Length t i (i + 1) (length line) → StandsAt line t i (i + 1)
mark_stands line i k t x h g b o d l = record {
  is = scan_by_kind line i spec.spaced k h (sym g)
      ∙ ap (λ q. spec.or_else q spec.nothing (λ q. spec.scan_from q (drop (i + 1) line))) b
      ∙ scan_single x (drop (i + 1) line) ∙ sym o;
  holds = d;
  long = l;
  within = omega arith;
}

-- a run of bytes of one test is all of its token
run_is : (line bs : List ℕ) (i e : ℕ) (f : ℕ → Bool) (made : List ℕ → spec.Token) → i < length line
    → spec.scan spec.spaced (drop i line)
    ≡ spec.got (made (get_or line i 0 ∷ longest f (drop (i + 1) line))) (past f (drop (i + 1) line))
    → drop e line ≡ past f (drop (i + 1) line) → i < e → e ≤ length line → bs ≡ take (e - i) (drop i line)
    → spec.scan spec.spaced (drop i line) ≡ spec.got (made bs) (drop e line)
run_is line bs i e f made h s v u w b =
    s
    ∙ ap (λ l. spec.got (made l) (past f (drop (i + 1) line))) (sym (b ∙ slice_of_run f line i e h v (omega arith) w))
    ∙ ap (spec.got (made bs)) (sym v)

one_byte : (line : List ℕ) (i : ℕ) → i < length line → take (i + 1 - i) (drop i line) ≡ get_or line i 0 ∷ []
one_byte line i h =
    let n : i + 1 - i ≡ suc zero = omega arith in
    ap (λ n. take n (drop i line)) n ∙ ap (λ l. take (suc zero) l) (drop_here line i h)

pub returns-in_err-end-in-Quote : goal.returns-in_err-end-in-Quote
returns-in_err-end-in-Quote c =
    let line = c.args.line.now in
    let i = c.args.start in
    let none = c.in_err-end-in-Quote.ensures.ok_part in
    let told = c.in_err-end-in-Quote.ensures.value ∙ ap (λ o. ok_or o (fault.Unclosed (length line))) none in
    let e : c.in_err-end-in-Quote.field-0.0 ≡ fault.Unclosed (length line) = cc in
    let p = err_from_is_err_and c.from_residual.result c.from_residual.ensures.1 in
    let k = sym c.kind_at.ensures.value ∙ c.in-Quote.is in
    subst (StartsAs line i) (sym (p.1 ∙ ap Err (p.2 ∙ e)))
    (refl, scan_by_kind line i spec.spaced Quote c.requires.inside k ∙ subst (QuoteRead line (i + 1)) none c.quote_end.ensures)

pub returns : goal.returns
returns c =
    let line = c.args.line.now in
    let i = c.args.start in
    let h = c.requires.inside in
    let P = λ (p : Token × ℕ). StandsAt line p.0 i p.1 in (
      elim c.match-kind_at.branch [
        | in-Small w ↦
            let r = w.run_at-end.ensures in
            let a = scan_by_kind line i spec.spaced Small h (sym w.in-Small.ensures.value) in
            let s = a ∙ scan_small (drop (i + 1) line) (get_or line i 0 ∷ []) in
            subst P (sym w.end-is) (record {
              is = run_is line _ i _ word spec.name h s r.value r.long r.within r.bytes;
              holds = r.bytes;
              long = r.long;
              within = r.within;
            })
        | in-Capital w ↦
            let r = w.run_at-end-in-Capital.ensures in
            let a = scan_by_kind line i spec.spaced Capital h (sym w.in-Capital.ensures.value) in
            let s = a ∙ scan_capital (drop (i + 1) line) (get_or line i 0 ∷ []) in
            subst P (sym w.end-is) (record {
              is = run_is line _ i _ word spec.variable h s r.value r.long r.within r.bytes;
              holds = r.bytes;
              long = r.long;
              within = r.within;
            })
        | in-Digit w ↦
            let r = w.run_at-end-in-Digit.ensures in
            let a = scan_by_kind line i spec.spaced Digit h (sym w.in-Digit.ensures.value) in
            let s = a ∙ scan_digits (drop (i + 1) line) (get_or line i 0 ∷ []) in
            subst P (sym w.end-is) (record {
              is = run_is line _ i _ digit spec.integer h s r.value r.long r.within r.bytes;
              holds = r.bytes;
              long = r.long;
              within = r.within;
            })
        | in-Symbol w ↦ subst P (sym w.end-is) w.symbol_token.ensures
        | in-Quote+in_ok-end-in-Quote w ↦
            let q = subst (QuoteRead line (i + 1)) w.in_ok-end-in-Quote.ensures.ok_part w.quote_end.ensures in
            subst P (sym w.end-is) (record {
              is = scan_by_kind line i spec.spaced Quote h (sym w.in-Quote.ensures.value) ∙ q.2;
              holds = (omega (arith, q.0), refl);
              long = omega (arith, q.0);
              within = q.1;
            })
        | in-Solo w ↦
            subst P (sym w.end-is)
            (mark_stands line i Solo _ (spec.name (get_or line i 0 ∷ [])) h w.in-Solo.ensures.value refl
            (ap (λ l. spec.got (spec.name l) (drop (i + 1) line)) (one_byte line i h)) refl (omega arith))
        | in-Opening w ↦
            subst P (sym w.end-is)
            (mark_stands line i Opening code.Opening (spec.opening false) h w.in-Opening.ensures.value refl refl tt
            (omega arith))
        | in-Closing w ↦
            subst P (sym w.end-is)
            (mark_stands line i Closing code.Closing spec.closing h w.in-Closing.ensures.value refl refl tt
            (omega arith))
        | in-Left w ↦
            subst P (sym w.end-is)
            (mark_stands line i Left code.Left spec.left h w.in-Left.ensures.value refl refl tt (omega arith))
        | in-Right w ↦
            subst P (sym w.end-is)
            (mark_stands line i Right code.Right spec.right h w.in-Right.ensures.value refl refl tt (omega arith))
        | in-Bar w ↦
            subst P (sym w.end-is)
            (mark_stands line i Bar code.Bar spec.bar h w.in-Bar.ensures.value refl refl tt (omega arith))
        | in-Comma w ↦
            subst P (sym w.end-is)
            (mark_stands line i Comma code.Comma spec.comma h w.in-Comma.ensures.value refl refl tt (omega arith))
        | in-Stop w ↦
            subst P (sym w.end-is)
            (mark_stands line i Stop code.Stop spec.stop h w.in-Stop.ensures.value refl refl tt (omega arith))
      ],
      refl,
    )
