-- Faults of a text: the place of the first bad byte, the kind, and what is said.
use Rattle.std.specs.Prelude.{ℕ, List, codes, cond, ◌==◌}
use Rattle.tokens.specs.declared.scan.TokenFault.{TokenFault}
use Rattle.tokens.specs.declared.scan.TokenFault.TheVariants as token_fault
use Rattle.tokens.specs.Faults.{token_text}
use Rattle.grammar.specs.Faults.{FaultKind, in_token, in_term, in_line}
use Rattle.reader.specs.declared.fault.TermFault.{TermFault}
use Rattle.reader.specs.declared.fault.TermFault.TheVariants as term_fault
use Rattle.reader.specs.declared.fault.LineFault.{LineFault}
use Rattle.reader.specs.declared.fault.LineFault.TheVariants as line_fault

-- a fault of a term where no bracket is open is one of the line
abbrev pub line_of : TermFault → LineFault
line_of (term_fault.Token e) = line_fault.Term (term_fault.Token e)
line_of (term_fault.Unexpected p n) = cond (n == 64) (line_fault.Unexpected p)
    (line_fault.Term (term_fault.Unexpected p n))

-- the place of a fault: the index of the first bad byte
abbrev pub token_place : TokenFault → ℕ
token_place (token_fault.Stray p) = p
token_place (token_fault.Unclosed p) = p

abbrev pub term_place : TermFault → ℕ
term_place (term_fault.Token e) = token_place e
term_place (term_fault.Unexpected p n) = p

abbrev pub line_place : LineFault → ℕ
line_place (line_fault.Term f) = term_place f
line_place (line_fault.Unexpected p) = p

-- the kind that a fault is told as
abbrev pub term_kind : TermFault → FaultKind
term_kind (term_fault.Token e) = in_token
term_kind (term_fault.Unexpected p n) = in_term

abbrev pub line_kind : LineFault → FaultKind
line_kind (line_fault.Term f) = term_kind f
line_kind (line_fault.Unexpected p) = in_line

-- what is said of a fault
abbrev pub term_text : TermFault → List ℕ
term_text (term_fault.Token e) = token_text e
term_text (term_fault.Unexpected p n) = codes "The term inside the brackets cannot go on like this."

abbrev pub line_text : LineFault → List ℕ
line_text (line_fault.Term f) = term_text f
line_text (line_fault.Unexpected p) = codes "The rule cannot go on like this."
