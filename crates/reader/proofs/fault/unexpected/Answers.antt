use Rattle.std.proofs.Common.{◌≡◌, ℕ, ◌<◌, List, length, get_or, drop, Ok, sym, refl, ap, ◌∙◌, arith}
use Rattle.tokens.specs.declared.kind.Kind.TheVariants.{Quote}
use Rattle.tokens.specs.declared.scan.Found.{Found}
use Rattle.tokens.specs.Bytes.{space}
use Rattle.tokens.specs.Token.{scan, spaced, joined}
use Rattle.tokens.specs.Scanning.{head_kind, TokenRead}
use Rattle.tokens.proofs.BytesProperties.{head_here, past_stops}
use Rattle.reader.specs.declared.fault.TermFault.TheVariants as term_fault
use Rattle.reader.specs.Reading.{Faulted}
use Rattle.reader.proofs.BlameProperties.{misplaced}
use Rattle.reader.proofs.TokenKinds.{found_not_endless}
use Rattle.grammar.proofs.QuoteParity.{endless_any_edge}
use Rattle.grammar.proofs.KindProperties.{no_space}
use Rattle.reader.proofs.fault.unexpected.Goals as goal

-- a quoted name that is closed
closed_name : (line : List ℕ) (p n : ℕ) (f : Found) → p < length line → Quote ≡ head_kind (drop p line)
    → TokenRead line p (Ok f) → Faulted line p (term_fault.Unexpected p n) n
closed_name line p n f l k h =
    let s = past_stops space line p l (no_space (get_or line p 0)
    (λ e. let y = k ∙ head_here line p l ∙ e in cc)) in (
      refl,
      refl,
      (λ e. found_not_endless f.token (drop f.end line)
          (sym h.0.is ∙ ap (scan spaced) (h.1 ∙ sym s) ∙ endless_any_edge joined spaced (drop p line) e)),
      λ g e. let y = k ∙ e in cc,
    )

pub returns-in-Ok : goal.returns-in-Ok
returns-in-Ok c = closed_name c.args.line.now c.args.at c.args.left _ (omega arith)
    c.in-Quote.ensures.value c.in-Ok.ensures

pub returns-in_default : goal.returns-in_default
returns-in_default c =
    misplaced c.args.line.now c.args.at c.args.left c.kind_at.result
    (sym c.kind_at.ensures.value) c.in_default.not-Quote c.in_default.not-Stray
