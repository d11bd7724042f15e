-- Rules and queries from their texts, as the grammar reads them.
use Rattle.std.specs.Prelude.{ℕ, List, [], ◌∷◌, length}
use Rattle.std.proofs.Math.Option.{Option, none, some}
use Rattle.terms.specs.Term.{Term}
use Rattle.terms.specs.Goals.{goal_form}
use Rattle.grammar.specs.Written.{Sentence, fact, rule, query}
use Rattle.grammar.specs.Grammar.{a_rule, a_query}
use Rattle.grammar.specs.Machine.{VerdictOf, good, bad}
use Rattle.grammar.specs.Theorem.{judged}
use Rattle.text.specs.Numbering.{met, numbered}
use Rattle.text.specs.Rules.{head_of, body_of}
use Rattle.rules.specs.Meaning.{back}
use Rattle.semantics.specs.Rules.{Clause, Rules, no_rules, add_rule}

abbrev pub clause_of : Sentence → Clause
clause_of s = record {
  head = numbered [] (head_of s);
  body = goal_form (numbered (met [] (head_of s)) (body_of s));
  variables = length (met (met [] (head_of s)) (body_of s));
}

-- a text that is no rule adds none
abbrev pub with_rule : VerdictOf Sentence → Rules → Rules
with_rule (good s) r = add_rule back (clause_of s) r
with_rule (bad n s) r = r

-- the rules of these texts, in their order
abbrev pub rules_from : Rules → List (List ℕ) → Rules
rules_from r [] = r
rules_from r (t ∷ ts) = rules_from (with_rule (judged a_rule t) r) ts

abbrev pub rules_of : List (List ℕ) → Rules
rules_of ts = rules_from no_rules ts

-- a query: its goal, and the names of its variables
pub record Asked : Type 0 where
  pub goal : Term
  pub names : List (List ℕ)

abbrev pub query_from : VerdictOf Sentence → Option Asked
query_from (good (query g)) = some (record { goal = goal_form (numbered [] g); names = met [] g })
query_from (good (fact h)) = none
query_from (good (rule h b)) = none
query_from (bad n s) = none

abbrev pub query_of : List ℕ → Option Asked
query_of t = query_from (judged a_query t)
