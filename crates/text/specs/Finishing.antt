-- What building a whole rule or query and copying it into a row makes of it.
use Rattle.std.specs.Prelude.{◌≡◌, ℕ, true, false, List, [], ◌∷◌, length, Some, None, Ok, Err, vec_items, Result}
use Rattle.terms.specs.declared.node.Node.{Node}
use Rattle.terms.specs.declared.row.Row.{Row}
use Rattle.terms.specs.Goals.{goal_form}
use Rattle.terms.specs.Known.{true_name}
use Rattle.terms.specs.RowViews.{row_nodes, row_limit}
use Rattle.terms.specs.Rows.{meaning}
use Rattle.terms.specs.Tables.{Tabled}
use Rattle.grammar.specs.Written.{Written, app, nil}
use Rattle.reader.specs.declared.op.Op.{Op}
use Rattle.reader.specs.declared.sentence.Shape.{Shape}
use Rattle.reader.specs.declared.sentence.Shape.TheVariants as shape
use Rattle.reader.specs.Ops.{Stack, run}
use Rattle.text.specs.declared.answer.RuleText.{RuleText}
use Rattle.text.specs.declared.answer.QueryText.{QueryText}
use Rattle.text.specs.declared.builder.Builder.{Builder}
use Rattle.text.specs.declared.fault.LimitFault.{LimitFault}
use Rattle.text.specs.declared.fault.TextFault.{TextFault}
use Rattle.text.specs.declared.fault.TextFault.TheVariants.{TooLong, Grammar, Limit, Head}
use Rattle.text.specs.Numbering.{met, numbered}
use Rattle.reader.specs.declared.span.Span.{Span}
use Rattle.text.specs.Limits.{entered, rule_fits, query_fits}
use Rattle.text.specs.Building.{cuts}
use Rattle.text.specs.Builders.{BuiltIn, Outcome}
use Rattle.text.specs.Rules.{head_fault}

-- the stack that a rule of this shape leaves, a fact's body not yet on it
abbrev pub Leaves : Shape → Stack → Written → Written → Type 0
Leaves shape.Fact st h b = (st ≡ h ∷ []) × (b ≡ app true_name nil)
Leaves shape.Rule st h b = st ≡ b ∷ h ∷ []

abbrev pub BuildsRule : Shape → List ℕ → List Op → List (List ℕ) → List (List ℕ) → Builder
    → Result (Unit {0}) LimitFault → Type 0
BuildsRule s text ops first ns b r =
    (head body : Written) → Leaves s (run text ops) head body → Outcome text first (body ∷ head ∷ []) ns b r

-- a rule in a row
pub record CopiedRule (first : List (List ℕ)) (head body : Written) (ns : List (List ℕ)) (nodes : List Node)
    (r : RuleText) : Type 0 where
  pub fits : rule_fits first head body ≡ true
  pub head_is : meaning ns nodes r.head ≡ numbered [] head
  pub body_is : meaning ns nodes r.body ≡ goal_form (numbered (met [] head) body)
  pub variables_are : r.variables ≡ length (met (met [] head) body)

abbrev pub RuleCopied : List (List ℕ) → Written → Written → List (List ℕ) → List Node
    → Result RuleText LimitFault → Type 0
RuleCopied first head body ns nodes (Ok r) = CopiedRule first head body ns nodes r
RuleCopied first head body ns nodes (Err f) = rule_fits first head body ≡ false

abbrev pub CopiesRule : Builder → ℕ → ℕ → Row → Row → Result RuleText LimitFault → Type 0
CopiesRule b p q row row' r =
    (text : List ℕ) (first : List (List ℕ)) (head body : Written) (ns : List (List ℕ))
    → BuiltIn text first (body ∷ head ∷ []) ns b → vec_items b.stack ≡ p ∷ q ∷ []
    → Tabled ns → row_nodes row ≡ [] → row_limit row ≡ 256
    → RuleCopied first head body ns (row_nodes row') r

-- a rule in a row that can be stored, or why not
abbrev pub RuleFinished : List (List ℕ) → Written → Written → List (List ℕ) → List Node
    → Result RuleText TextFault → Type 0
RuleFinished first head body ns nodes (Ok r) = CopiedRule first head body ns nodes r × (head_fault head body ≡ None)
RuleFinished first head body ns nodes (Err (Limit f)) = rule_fits first head body ≡ false
RuleFinished first head body ns nodes (Err (Head f)) =
    (rule_fits first head body ≡ true) × (head_fault head body ≡ Some f)
RuleFinished first head body ns nodes (Err TooLong) = ⊥
RuleFinished first head body ns nodes (Err (Grammar f)) = ⊥

abbrev pub FinishesRule : Builder → Row → Row → Result RuleText TextFault → Type 0
FinishesRule b row row' r =
    (text : List ℕ) (first : List (List ℕ)) (head body : Written) (ns : List (List ℕ))
    → BuiltIn text first (body ∷ head ∷ []) ns b → Tabled ns → row_nodes row ≡ [] → row_limit row ≡ 256
    → RuleFinished first head body ns (row_nodes row') r

-- a query in a row
pub record CopiedQuery (first : List (List ℕ)) (goal : Written) (ns : List (List ℕ)) (nodes : List Node)
    (r : QueryText) : Type 0 where
  pub fits : query_fits first goal ≡ true
  pub goal_is : meaning ns nodes r.goal ≡ goal_form (numbered [] goal)
  pub variables_are : r.variables ≡ length (met [] goal)

abbrev pub QueryCopied : List (List ℕ) → Written → List (List ℕ) → List Node → Result QueryText LimitFault → Type 0
QueryCopied first goal ns nodes (Ok r) = CopiedQuery first goal ns nodes r
QueryCopied first goal ns nodes (Err f) = query_fits first goal ≡ false

abbrev pub FinishesQuery : Builder → Row → Row → Result QueryText LimitFault → Type 0
FinishesQuery b row row' r =
    (text : List ℕ) (first : List (List ℕ)) (goal : Written) (ns : List (List ℕ))
    → BuiltIn text first (goal ∷ []) ns b → Tabled ns → row_nodes row ≡ [] → row_limit row ≡ 256
    → QueryCopied first goal ns (row_nodes row') r

-- the same with the names that were entered and the variables that were met
abbrev pub RuleStored : List ℕ → List (List ℕ) → Written → Written → List (List ℕ) → List Node → List Span
    → Result RuleText TextFault → Type 0
RuleStored text first head body ns nodes spans (Ok r) =
    CopiedRule first head body ns nodes r × (head_fault head body ≡ None)
    × (ns ≡ entered (entered first head) body) × (cuts text spans ≡ met (met [] head) body)
RuleStored text first head body ns nodes spans (Err f) = RuleFinished first head body ns nodes (Err f)

abbrev pub StoresRule : Shape → List ℕ → List Op → List (List ℕ) → List (List ℕ) → Row → Row → Builder
    → Result RuleText TextFault → Type 0
StoresRule s text ops first ns row row' b r =
    (head body : Written) → Leaves s (run text ops) head body → row_nodes row ≡ [] → row_limit row ≡ 256
    → RuleStored text first head body ns (row_nodes row') (vec_items b.variables) r

abbrev pub QueryAsked : List ℕ → List (List ℕ) → Written → List (List ℕ) → List Node → List Span
    → Result QueryText LimitFault → Type 0
QueryAsked text first goal ns nodes spans (Ok r) =
    CopiedQuery first goal ns nodes r × (ns ≡ entered first goal) × (cuts text spans ≡ met [] goal)
QueryAsked text first goal ns nodes spans (Err f) = query_fits first goal ≡ false

abbrev pub AsksQuery : List ℕ → List Op → List (List ℕ) → List (List ℕ) → Row → Row → Builder
    → Result QueryText LimitFault → Type 0
AsksQuery text ops first ns row row' b r =
    (goal : Written) → run text ops ≡ goal ∷ [] → row_nodes row ≡ [] → row_limit row ≡ 256
    → QueryAsked text first goal ns (row_nodes row') (vec_items b.variables) r
