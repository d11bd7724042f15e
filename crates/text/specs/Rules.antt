-- What a text gives: a rule or a query in a row of nodes, or why it is refused.
use Rattle.std.specs.Prelude.{◌≡◌, ℕ, suc, ◌<◌, Bool, true, false, cond, List, [], length, Some, None, Ok, Err, Option}
use Rattle.std.specs.Prelude.{Result}
use Rattle.terms.specs.declared.node.Node.{Node}
use Rattle.terms.specs.BuiltIns.{is_built_in}
use Rattle.terms.specs.Goals.{goal_form}
use Rattle.terms.specs.Known.{true_name}
use Rattle.terms.specs.Rows.{meaning}
use Rattle.grammar.specs.Faults.{Fails, Blames}
use Rattle.grammar.specs.Grammar.{a_rule, a_query, Text}
use Rattle.grammar.specs.Written.{Written, var, int, app, nil, size, Sentence, fact, rule, query}
use Rattle.reader.specs.Faults.{line_place, line_kind}
use Rattle.text.specs.declared.fault.HeadFault.{HeadFault}
use Rattle.text.specs.declared.fault.HeadFault.TheVariants.{VariableHead, IntegerHead, BuiltInHead, IntegerBody}
use Rattle.text.specs.declared.fault.TextFault.{TextFault}
use Rattle.text.specs.declared.fault.TextFault.TheVariants.{TooLong, Grammar, Limit, Head}
use Rattle.reader.specs.declared.span.Span.{Span}
use Rattle.text.specs.declared.answer.RuleText.{RuleText}
use Rattle.text.specs.declared.answer.QueryText.{QueryText}
use Rattle.text.specs.Numbering.{met, numbered}
use Rattle.text.specs.Limits.{rule_fits, query_fits, entered}
use Rattle.text.specs.Building.{cuts}

-- a fact has the body `true`
abbrev pub head_of : Sentence → Written
head_of (fact h) = h
head_of (rule h b) = h
head_of (query g) = g

abbrev pub body_of : Sentence → Written
body_of (fact h) = app true_name nil
body_of (rule h b) = b
body_of (query g) = g

abbrev pub body_fault : Written → Option HeadFault
body_fault (var a) = None
body_fault (int a) = Some IntegerBody
body_fault (app f ts) = None

-- why a rule cannot be stored: its head is a variable, an integer or a built-in, or its body an integer
abbrev pub head_fault : Written → Written → Option HeadFault
head_fault (var a) b = Some VariableHead
head_fault (int a) b = Some IntegerHead
head_fault (app f ts) b = cond (is_built_in f (size ts)) (Some BuiltInHead) (body_fault b)

-- the rule that a text is, in a row with the names that it entered
pub record RuleIn (names : List (List ℕ)) (text : List ℕ) (after : List (List ℕ)) (nodes : List Node)
    (spans : List Span) (r : RuleText) : Type 0 where
  pub sentence : Sentence
  pub is : Text a_rule text sentence
  pub fits : rule_fits names (head_of sentence) (body_of sentence) ≡ true
  pub stored : head_fault (head_of sentence) (body_of sentence) ≡ None
  pub names_after : after ≡ entered (entered names (head_of sentence)) (body_of sentence)
  pub head_is : meaning after nodes r.head ≡ numbered [] (head_of sentence)
  pub body_is : meaning after nodes r.body ≡ goal_form (numbered (met [] (head_of sentence)) (body_of sentence))
  pub variables_are : r.variables ≡ length (met (met [] (head_of sentence)) (body_of sentence))
  pub names_are : cuts text spans ≡ met (met [] (head_of sentence)) (body_of sentence)

-- a rule of the grammar that is refused
pub record RuleRefused (names : List (List ℕ)) (text : List ℕ) (fits : Bool) (fault : Option HeadFault) : Type 0 where
  pub sentence : Sentence
  pub is : Text a_rule text sentence
  pub limits : rule_fits names (head_of sentence) (body_of sentence) ≡ fits
  pub told : fits ≡ true → head_fault (head_of sentence) (body_of sentence) ≡ fault

abbrev pub RuleRead : List (List ℕ) → List ℕ → List (List ℕ) → List Node → List Span
    → Result RuleText TextFault → Type 0
RuleRead names text after nodes spans (Ok r) = RuleIn names text after nodes spans r
RuleRead names text after nodes spans (Err TooLong) = (1024 < length text) × (after ≡ names)
RuleRead names text after nodes spans (Err (Grammar f)) =
    Fails a_rule text (suc (line_place f)) × Blames text (suc (line_place f)) (line_kind f) × (after ≡ names)
RuleRead names text after nodes spans (Err (Limit f)) = RuleRefused names text false None × (after ≡ names)
RuleRead names text after nodes spans (Err (Head f)) = RuleRefused names text true (Some f) × (after ≡ names)

-- the same for a query
pub record QueryIn (names : List (List ℕ)) (text : List ℕ) (after : List (List ℕ)) (nodes : List Node)
    (spans : List Span) (r : QueryText) : Type 0 where
  pub goal : Written
  pub is : Text a_query text (query goal)
  pub fits : query_fits names goal ≡ true
  pub names_after : after ≡ entered names goal
  pub goal_is : meaning after nodes r.goal ≡ goal_form (numbered [] goal)
  pub variables_are : r.variables ≡ length (met [] goal)
  pub names_are : cuts text spans ≡ met [] goal

pub record QueryRefused (names : List (List ℕ)) (text : List ℕ) : Type 0 where
  pub goal : Written
  pub is : Text a_query text (query goal)
  pub limits : query_fits names goal ≡ false

abbrev pub QueryRead : List (List ℕ) → List ℕ → List (List ℕ) → List Node → List Span
    → Result QueryText TextFault → Type 0
QueryRead names text after nodes spans (Ok r) = QueryIn names text after nodes spans r
QueryRead names text after nodes spans (Err TooLong) = (1024 < length text) × (after ≡ names)
QueryRead names text after nodes spans (Err (Grammar f)) =
    Fails a_query text (suc (line_place f)) × Blames text (suc (line_place f)) (line_kind f) × (after ≡ names)
QueryRead names text after nodes spans (Err (Limit f)) = QueryRefused names text × (after ≡ names)
QueryRead names text after nodes spans (Err (Head f)) = ⊥
