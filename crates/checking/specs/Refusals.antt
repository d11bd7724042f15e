-- The number under which each refused line is told, the place and kind of a fault of the grammar, and the sentence for each case.
use Rattle.std.specs.Prelude.{ℕ, List, Some, None, codes, Option}
use Rattle.tokens.specs.declared.scan.TokenFault.TheVariants as token
use Rattle.reader.specs.declared.fault.TermFault.TheVariants as term
use Rattle.reader.specs.declared.fault.LineFault.{LineFault}
use Rattle.reader.specs.declared.fault.LineFault.TheVariants as line
use Rattle.reader.specs.Faults.{line_text}
use Rattle.text.specs.Sentences.{head_sentence, limit_sentence}
use Rattle.text.specs.declared.fault.TextFault.{TextFault}
use Rattle.text.specs.declared.fault.TextFault.TheVariants.{TooLong, Grammar, Limit, Head}
use Rattle.checking.specs.declared.line.LineProblem.{LineProblem}
use Rattle.checking.specs.declared.line.LineProblem.TheVariants as problem
use Rattle.checking.specs.declared.refusal.FaultKind.{FaultKind}
use Rattle.checking.specs.declared.refusal.FaultKind.TheVariants as kind
use Rattle.checking.specs.declared.refusal.Fault.{Fault}
use Rattle.checking.specs.declared.refusal.Refusal.{Refusal}
use Rattle.checking.specs.declared.refusal.Refusal.TheVariants as refusal

abbrev pub text_number : TextFault → ℕ
text_number TooLong = 1
text_number (Grammar f) = 4
text_number (Limit f) = 5
text_number (Head f) = 6

abbrev pub number_of : Refusal → ℕ
number_of (refusal.Line p) = 1
number_of (refusal.Text f) = text_number f

abbrev pub grammar_fault : LineFault → Fault
grammar_fault (line.Term (term.Token (token.Stray p))) = record { place = p; kind = kind.Token }
grammar_fault (line.Term (term.Token (token.Unclosed p))) = record { place = p; kind = kind.Token }
grammar_fault (line.Term (term.Unexpected p n)) = record { place = p; kind = kind.Term }
grammar_fault (line.Unexpected p) = record { place = p; kind = kind.Line }

abbrev pub text_fault : TextFault → Option Fault
text_fault TooLong = None
text_fault (Grammar f) = Some (grammar_fault f)
text_fault (Limit f) = None
text_fault (Head f) = None

abbrev pub fault_of : Refusal → Option Fault
fault_of (refusal.Line p) = None
fault_of (refusal.Text f) = text_fault f

abbrev pub word_of : FaultKind → List ℕ
word_of kind.Token = codes "token"
word_of kind.Term = codes "term"
word_of kind.Line = codes "line"

abbrev pub line_sentence : LineProblem → List ℕ
line_sentence (problem.BadByte p) = codes "The line has a byte that is no printable ASCII character."
line_sentence problem.TooLong = codes "The line is longer than 1019 bytes."

-- what is said of a text that is longer than any is said of the line; every other fault says it itself
abbrev pub text_sentence : TextFault → List ℕ
text_sentence TooLong = line_sentence problem.TooLong
text_sentence (Grammar f) = line_text f
text_sentence (Limit f) = limit_sentence f
text_sentence (Head f) = head_sentence f

abbrev pub sentence_of : Refusal → List ℕ
sentence_of (refusal.Line p) = line_sentence p
sentence_of (refusal.Text f) = text_sentence f
