-- What checking a line answers, and how a rule is written.
use Rattle.std.specs.Prelude.{◌≡◌, ℕ, ◌<◌, Bool, false, cond, ◌&&◌, List, [], ◌++◌, length, Some, None, Ok, Err, codes}
use Rattle.std.specs.Prelude.{Option, Result, ◌==◌, slice_index_or}
use Rattle.tokens.specs.Bytes.{same}
use Rattle.terms.specs.declared.node.Node.{Node}
use Rattle.terms.specs.declared.node.Node.TheVariants.{Var, Int, App}
use Rattle.terms.specs.Known.{true_name}
use Rattle.terms.specs.Places.{node_at}
use Rattle.terms.specs.Rows.{meaning}
use Rattle.terms.specs.Term.{Term}
use Rattle.text.specs.declared.answer.RuleText.{RuleText}
use Rattle.reader.specs.declared.span.Span.{Span}
use Rattle.text.specs.Rules.{RuleRead}
use Rattle.writer.specs.declared.fault.DoesNotFit.{DoesNotFit}
use Rattle.writer.specs.Shown.{shown, firsts}
use Rattle.checking.specs.declared.refusal.Refusal.{Refusal}
use Rattle.checking.specs.declared.refusal.Refusal.TheVariants.{Line, Text}
use Rattle.checking.specs.Lines.{problem_of}

-- of the line s: the rule that it is, or why it is refused
abbrev pub Checked : List (List ℕ) → List ℕ → List (List ℕ) → List Node → List Span → Result RuleText Refusal → Type 0
Checked names s after nodes spans (Ok r) = (problem_of s ≡ None) × RuleRead names s after nodes spans (Ok r)
Checked names s after nodes spans (Err (Line p)) = (problem_of s ≡ Some p) × (after ≡ names)
Checked names s after nodes spans (Err (Text f)) = (problem_of s ≡ None) × RuleRead names s after nodes spans (Err f)

-- the constant `true`
abbrev pub is_true : List (List ℕ) → Option Node → Bool
is_true ns None = false
is_true ns (Some (Var v)) = false
is_true ns (Some (Int i)) = false
is_true ns (Some (App f n is)) = n == 0 && same (slice_index_or ns f []) true_name

-- a fact, or a head and a body; variables are numbered by first appearance in the whole line
abbrev pub rule_text : Bool → Term → Term → List ℕ
rule_text fact h b = cond fact (shown [] h ++ codes ".") (shown [] h ++ codes " :- " ++ shown (firsts [] h) b ++ codes ".")

abbrev pub written_rule : List (List ℕ) → List Node → RuleText → List ℕ
written_rule ns xs r = rule_text (is_true ns (node_at xs r.body)) (meaning ns xs r.head) (meaning ns xs r.body)

-- these bytes were written, or they are too many
abbrev pub WroteAs : List ℕ → List ℕ → Result (Unit {0}) DoesNotFit → Type 0
WroteAs all bytes (Ok x) = bytes ≡ all
WroteAs all bytes (Err e) = 65536 < length all

abbrev pub Wrote : List (List ℕ) → List Node → RuleText → List ℕ → Result (Unit {0}) DoesNotFit → Type 0
Wrote ns xs r bytes x = WroteAs (written_rule ns xs r) bytes x
