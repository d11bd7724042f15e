-- What reading a whole line answers: the rule or query that it is, with the steps that build its parts,
-- or where it first goes wrong and which kind of fault that is.
use Rattle.std.specs.Prelude.{◌≡◌, ℕ, suc, ◌≤◌, List, [], ◌∷◌, length, Ok, Err, Result}
use Rattle.grammar.specs.Written.{Written, fact, rule, query}
use Rattle.grammar.specs.Grammar.{Goal, a_rule, a_query, Text}
use Rattle.grammar.specs.Faults.{Fails, Blames}
use Rattle.reader.specs.declared.op.Op.{Op}
use Rattle.reader.specs.declared.fault.LineFault.{LineFault}
use Rattle.reader.specs.declared.sentence.Shape.{Shape}
use Rattle.reader.specs.declared.sentence.Shape.TheVariants as shape
use Rattle.reader.specs.Faults.{line_place, line_kind}
use Rattle.reader.specs.Ops.{run}

-- the line is a fact, and the steps build its head
pub record IsFact (line : List ℕ) (ops : List Op) : Type 0 where
  pub head : Written
  pub text : Text a_rule line (fact head)
  pub builds : run line ops ≡ head ∷ []

-- the line is a rule, and the steps build its head and then its body
pub record IsRule (line : List ℕ) (ops : List Op) : Type 0 where
  pub head : Written
  pub body : Written
  pub text : Text a_rule line (rule head body)
  pub builds : run line ops ≡ body ∷ head ∷ []

-- the line is a query, and the steps build its goals
pub record IsQuery (line : List ℕ) (ops : List Op) : Type 0 where
  pub goals : Written
  pub text : Text a_query line (query goals)
  pub builds : run line ops ≡ goals ∷ []

-- the line is none, the fault's place is that of the first bad byte, and its kind is the right one
pub record LineFails (g : Goal) (line : List ℕ) (f : LineFault) : Type 0 where
  pub fails : Fails g line (suc (line_place f))
  pub blames : Blames line (suc (line_place f)) (line_kind f)
  pub within : line_place f ≤ length line

abbrev pub RuleRead : List ℕ → List Op → Result Shape LineFault → Type 0
RuleRead line ops (Ok shape.Fact) = IsFact line ops
RuleRead line ops (Ok shape.Rule) = IsRule line ops
RuleRead line ops (Err f) = LineFails a_rule line f

abbrev pub QueryRead : List ℕ → List Op → Result (Unit {0}) LineFault → Type 0
QueryRead line ops (Ok x) = IsQuery line ops
QueryRead line ops (Err f) = LineFails a_query line f
