-- What the functions for the parts of a line answer: the neck, the final stop, and the goals before it.
use Rattle.std.specs.Prelude.{◌≡◌, ℕ, ◌<◌, ◌≤◌, List, [], ◌∷◌, length, drop, Some, None, Ok, Err, Option, Result}
use Rattle.tokens.specs.declared.kind.Kind.TheVariants.{Space}
use Rattle.tokens.specs.declared.scan.TokenFault.TheVariants as token_fault
use Rattle.tokens.specs.Bytes.{past, space}
use Rattle.tokens.specs.Scanning.{head_kind}
use Rattle.grammar.specs.Written.{Written, nil, Sentence, rule, query}
use Rattle.grammar.specs.Grammar.{a_rule, a_query, brackets}
use Rattle.grammar.specs.Machine.{onward, good, bad}
use Rattle.grammar.specs.Sentences.{Holder, head, among, body, goals, operand, after, sentences}
use Rattle.reader.specs.declared.op.Op.{Op}
use Rattle.reader.specs.declared.fault.TermFault.{TermFault}
use Rattle.reader.specs.declared.fault.TermFault.TheVariants as term_fault
use Rattle.reader.specs.declared.sentence.Shape.{Shape}
use Rattle.reader.specs.declared.sentence.Shape.TheVariants as shape
use Rattle.reader.specs.Faults.{term_place, line_of}
use Rattle.reader.specs.Ops.{run}
use Rattle.reader.specs.Reading.{quote_open, Blamed, Faulted}
use Rattle.reader.specs.Sentence.{IsFact, IsRule, IsQuery, LineFails}

-- no space stands first
abbrev pub FirstRead : List ℕ → ℕ → Result (Unit {0}) TermFault → Type 0
FirstRead line pos (Ok x) = head_kind (drop pos line) ≡ Space → ⊥
FirstRead line pos (Err f) = (head_kind (drop pos line) ≡ Space) × (f ≡ term_fault.Token (token_fault.Stray pos))

-- a neck leads from start to e, behind any head
pub record NeckReaches (line : List ℕ) (start e : ℕ) : Type 0 where
  pub on : (m : ℕ) (t : Written) (s : List ℕ) → past space s ≡ drop start line
      → onward sentences m (Some (after t brackets head)) s
      ≡ onward sentences m (Some (operand brackets (among (body t) nil))) (drop e line)
  pub even : quote_open line start ≡ quote_open line e
  pub forward : start < e
  pub within : e ≤ length line

pub record NeckBreaks (line : List ℕ) (start : ℕ) (f : TermFault) : Type 0 where
  pub on : (m : ℕ) (t : Written) (s : List ℕ) → past space s ≡ drop start line
      → onward sentences m (Some (after t brackets head)) s ≡ bad brackets (drop (term_place f) line)
  pub blamed : Blamed line start f brackets
  pub within : term_place f ≤ length line

-- the place that is reached is e
abbrev pub NeckRead : List ℕ → ℕ → ℕ → Result (Unit {0}) TermFault → Type 0
NeckRead line start e (Ok x) = NeckReaches line start e
NeckRead line start e (Err f) = NeckBreaks line start f

-- nothing stands behind the final stop
abbrev pub EndRead : List ℕ → ℕ → Result (Unit {0}) TermFault → Type 0
EndRead line e (Ok x) = drop e line ≡ []
EndRead line e (Err f) = (e < length line) × Faulted line e f brackets

-- what holds the goals of a rule with this head, or of a query, and the whole that they make
abbrev pub holder_of : Option Written → Holder
holder_of None = goals
holder_of (Some h) = body h

abbrev pub whole_of : Option Written → Written → Sentence
whole_of None b = query b
whole_of (Some h) b = rule h b

-- goals and the final stop from pos on
pub record GoalsReach (line : List ℕ) (pos : ℕ) (before behind : List Op) : Type 0 where
  pub term : Written
  pub on : (m : ℕ) (o : Option Written)
      → onward sentences m (Some (operand brackets (among (holder_of o) nil))) (drop pos line) ≡ good (whole_of o term)
  pub builds : run line behind ≡ term ∷ run line before

pub record GoalsBreak (line : List ℕ) (pos : ℕ) (f : TermFault) : Type 0 where
  pub left : ℕ
  pub on : (m : ℕ) (o : Option Written)
      → onward sentences m (Some (operand brackets (among (holder_of o) nil))) (drop pos line)
      ≡ bad left (drop (term_place f) line)
  pub blamed : Blamed line pos f left
  pub within : term_place f ≤ length line

abbrev pub GoalsRead : List ℕ → ℕ → List Op → List Op → Result (Unit {0}) TermFault → Type 0
GoalsRead line pos before behind (Ok x) = GoalsReach line pos before behind
GoalsRead line pos before behind (Err f) = GoalsBreak line pos f

-- a line as a rule
abbrev pub RuleJudged : List ℕ → List Op → Result Shape TermFault → Type 0
RuleJudged line ops (Ok shape.Fact) = IsFact line ops
RuleJudged line ops (Ok shape.Rule) = IsRule line ops
RuleJudged line ops (Err f) = LineFails a_rule line (line_of f)

-- and as a query
abbrev pub QueryJudged : List ℕ → List Op → Result (Unit {0}) TermFault → Type 0
QueryJudged line ops (Ok x) = IsQuery line ops
QueryJudged line ops (Err f) = LineFails a_query line (line_of f)
