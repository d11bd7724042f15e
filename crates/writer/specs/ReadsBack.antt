-- A term that is shown reads back as itself, within the brackets that a text may open.
use Rattle.std.specs.Prelude.{◌≡◌, ℕ, ◌+◌, ◌≤◌, max, cond, List, [], ◌++◌, codes}
use Rattle.terms.specs.Term.{Term}
use Rattle.grammar.specs.Written.{Written, Writtens, var, int, app, nil, cons, fact, rule, query}
use Rattle.grammar.specs.Grammar.{brackets, a_rule, a_query}
use Rattle.grammar.specs.Machine.{good}
use Rattle.grammar.specs.Theorem.{judged}
use Rattle.writing.specs.Writing.{form, Spot, alone, others}
use Rattle.writing.specs.ReadBack.{opens}
use Rattle.writer.specs.Shown.{firsts, as_written, shown}

-- how many brackets stand open at one place of a term's text at most
abbrev mutual
  pub depth_at : Spot → Written → ℕ
  depth_at p (var a) = 0
  depth_at p (int a) = 0
  depth_at p (app f ts) = cond (opens p (form f ts)) 1 0 + arguments_depth (others (form f ts)) ts

  pub arguments_depth : Spot → Writtens → ℕ
  arguments_depth q nil = 0
  arguments_depth q (cons t ts) = max (depth_at alone t) (others_depth q ts)

  pub others_depth : Spot → Writtens → ℕ
  others_depth q nil = 0
  others_depth q (cons t ts) = max (depth_at q t) (others_depth q ts)

abbrev pub depth : Written → ℕ
depth w = depth_at alone w

-- a term as a query, and as a fact
abbrev pub QueryReadsBack : Type 0
QueryReadsBack =
    (t : Term) → depth (as_written (firsts [] t) t) ≤ brackets
    → judged a_query (shown [] t ++ codes ".") ≡ good (query (as_written (firsts [] t) t))

abbrev pub FactReadsBack : Type 0
FactReadsBack =
    (h : Term) → depth (as_written (firsts [] h) h) ≤ brackets
    → judged a_rule (shown [] h ++ codes ".") ≡ good (fact (as_written (firsts [] h) h))

-- the variables of a head and then of a body
abbrev pub rule_seen : Term → Term → List ℕ
rule_seen h b = firsts (firsts [] h) b

-- a head, and then a body behind the variables of the head
abbrev pub RuleReadsBack : Type 0
RuleReadsBack =
    (h b : Term) → depth (as_written (rule_seen h b) h) ≤ brackets → depth (as_written (rule_seen h b) b) ≤ brackets
    → judged a_rule (shown [] h ++ codes " :- " ++ shown (firsts [] h) b ++ codes ".")
    ≡ good (rule (as_written (rule_seen h b) h) (as_written (rule_seen h b) b))
