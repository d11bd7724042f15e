-- What the writer writes, the reader reads back as the same term, its variables numbered by first appearance.
use Rattle.std.specs.Prelude.{◌≡◌, ℕ, ◌+◌, ◌^◌, ◌<◌, ◌≤◌, max, Bool, true, cond, ◌&&◌, List, [], ◌++◌, length, ℤ, Some}
use Rattle.std.specs.Prelude.{codes, nat_lt}
use Rattle.std.specs.Int.Signed.{mag}
use Rattle.terms.specs.Term.{Term, Terms, var, int, app, nil, cons}
use Rattle.grammar.specs.Written as written
use Rattle.grammar.specs.Written.{Written, Writtens, fact, rule, query}
use Rattle.grammar.specs.Grammar.{brackets, a_rule, a_query}
use Rattle.grammar.specs.Machine.{good}
use Rattle.grammar.specs.Theorem.{judged}
use Rattle.writing.specs.Writing.{Spot, alone, form, others}
use Rattle.writing.specs.ReadBack.{opens}
use Rattle.text.specs.Integers.{read_integer}
use Rattle.text.specs.Numbering.{met, numbered}
use Rattle.writer.specs.Shown.{integer_text, firsts, as_written, shown}
use Rattle.readback.specs.Renaming.{renamed, in_order}

-- an integer of at most 32 bits
abbrev pub small_integer : ℤ → Bool
small_integer i = nat_lt (mag i) 2147483648

abbrev mutual
  pub integers_small : Term → Bool
  integers_small (var v) = true
  integers_small (int i) = small_integer i
  integers_small (app f ts) = all_small ts

  pub all_small : Terms → Bool
  all_small nil = true
  all_small (cons t ts) = integers_small t && all_small ts

-- how many brackets are open at once, at most, in the text of a term
abbrev mutual
  pub nesting_at : Spot → Written → ℕ
  nesting_at p (written.var a) = 0
  nesting_at p (written.int a) = 0
  nesting_at p (written.app f ts) = cond (opens p (form f ts)) 1 0 + arguments_nesting (others (form f ts)) ts

  pub arguments_nesting : Spot → Writtens → ℕ
  arguments_nesting q written.nil = 0
  arguments_nesting q (written.cons t ts) = max (nesting_at alone t) (others_nesting q ts)

  pub others_nesting : Spot → Writtens → ℕ
  others_nesting q written.nil = 0
  others_nesting q (written.cons t ts) = max (nesting_at q t) (others_nesting q ts)

abbrev pub nesting : Written → ℕ
nesting w = nesting_at alone w

-- the term as it is written behind others whose variables were seen
abbrev pub written_behind : List ℕ → Term → Written
written_behind seen t = as_written (firsts seen t) t

-- what is asked of a term: integers of at most 32 bits, fewer than 2 ^ 64 variables, and no more brackets open at
-- once than a text may have
pub record Writable (seen : List ℕ) (t : Term) : Type 0 where
  pub integers : integers_small t ≡ true
  pub variables : length (firsts seen t) < 2 ^ 64
  pub nested : nesting (written_behind seen t) ≤ brackets

-- an integer reads back as itself
abbrev pub IntegerReadsBack : Type 0
IntegerReadsBack = (i : ℤ) → small_integer i ≡ true → read_integer (integer_text i) ≡ Some i

-- a query reads back as the same term, its variables numbered by first appearance; and so does a fact
abbrev pub QueryReadsBack : Type 0
QueryReadsBack =
    (t : Term) → Writable [] t
    → (judged a_query (shown [] t ++ codes ".") ≡ good (query (written_behind [] t)))
    × (numbered [] (written_behind [] t) ≡ in_order t)

abbrev pub FactReadsBack : Type 0
FactReadsBack =
    (h : Term) → Writable [] h
    → (judged a_rule (shown [] h ++ codes ".") ≡ good (fact (written_behind [] h)))
    × (numbered [] (written_behind [] h) ≡ in_order h)

-- a rule reads back as the same head and body, the variables of both numbered by first appearance in the rule
abbrev pub RuleReadsBack : Type 0
RuleReadsBack =
    (h b : Term) → Writable [] h → Writable (firsts [] h) b
    → (judged a_rule (shown [] h ++ codes " :- " ++ shown (firsts [] h) b ++ codes ".")
    ≡ good (rule (written_behind [] h) (written_behind (firsts [] h) b)))
    × (numbered [] (written_behind [] h) ≡ in_order h)
    × (numbered (met [] (written_behind [] h)) (written_behind (firsts [] h) b) ≡ renamed (firsts (firsts [] h) b) b)
