use Rattle.std.proofs.Common.{◌≡◌, ℕ, ◌+◌, ◌-◌, ◌<◌, ◌≤◌, true, false, List, Some, length, get_or, take, drop, refl, sym}
use Rattle.std.proofs.Common.{ap, ◌∙◌, subst, arith, eq-eqb, ne_eqb, length-drop, drop-drop}
use Rattle.std.proofs.lemmas.List.{take_rest}
use Rattle.tokens.specs.Token.{name, got}
use Rattle.tokens.specs.Scanning.{undouble, QuoteRead}
use Rattle.tokens.proofs.BytesProperties.{drop_here}
use Rattle.tokens.proofs.QuoteProperties.{quote_at, Reading, reading_plain, reading_quote, reading_closed}
use Rattle.tokens.proofs.scan.quote_end.Goals as goal
use Rattle.tokens.proofs.scan.quote_end.Goals.{then-b-eq39, else-b-eq39+else-closed}

pub loop-i-preserved : goal.loop-i-preserved
loop-i-preserved c =
    let rest = drop c.args.pos c.args.line.now in
    let i = c.loop-i.i in
    let n = length-drop c.args.pos c.args.line.now in
    let e = take_rest c.args.line.now c.args.pos in
    let h : i < length rest = omega (arith, ap length e) in
    elim c.if-b-eq39.branch [
      | then-b-eq39 w ↦ subst (λ b. Reading rest (i + 1) b) (sym w.closed-is)
          (reading_quote rest i h c.loop-i.closed (eq-eqb _ 39 (ap (λ l. get_or l i 0) (sym e) ∙ w.if-b-eq39.true))
          c.loop-i.invariant)
      | else-b-eq39+else-closed w ↦ subst (λ b. Reading rest (i + 1) b) (sym (w.closed-is ∙ w.if-closed.false))
          (reading_plain rest i h (ne_eqb _ 39 (λ q. w.if-b-eq39.false (ap (λ l. get_or l i 0) e ∙ q)))
          (subst (λ b. Reading rest i b) w.if-closed.false c.loop-i.invariant))
    ]

-- the quote before the byte m of the inside closes the name
closes : (line : List ℕ) (pos m : ℕ) → pos + m ≤ length line → quote_at (drop m (drop pos line)) ≡ false
    → Reading (drop pos line) m true → QuoteRead line pos (Some (pos + m))
closes line pos m h q r =
    let n : pos + m - 1 - pos ≡ m - 1 = omega arith in (
      omega (arith, r.begun refl),
      h,
      reading_closed (drop pos line) m q r
          ∙ ap (λ n. got (name (undouble false (take n (drop pos line)))) (drop m (drop pos line))) (sym n)
          ∙ ap (λ s. got (name (undouble false (take (pos + m - 1 - pos) (drop pos line)))) s) (drop-drop m pos line),
    )

pub returns-then-closed : goal.returns-then-closed
returns-then-closed c =
    let rest = drop c.args.pos c.args.line.now in
    let n = length-drop c.args.pos c.args.line.now in
    let e = take_rest c.args.line.now c.args.pos in
    let h : c.loop-i.i < length rest = omega (arith, ap length e) in
    closes c.args.line.now c.args.pos c.loop-i.i (omega arith)
    (ap quote_at (drop_here rest c.loop-i.i h)
    ∙ ne_eqb _ 39 (λ q. c.if-b-eq39.false (ap (λ l. get_or l c.loop-i.i 0) e ∙ q)))
    (subst (λ b. Reading rest c.loop-i.i b) c.if-closed.true c.loop-i.invariant)
