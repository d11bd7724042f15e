-- What a text that was read and stored, or refused, is.
use Rattle.std.proofs.Common.{◌≡◌, ℕ, ◌≤◌, max, true, false, List, [], ◌∷◌, length, take, is_err, Ok, Err, Result, refl, sym}
use Rattle.std.proofs.Common.{ap, ◌∙◌, subst, arith}
use Rattle.std.specs.Result.{MatchResult}
use Rattle.std.proofs.lemmas.Bool.{false≢true}
use Rattle.names.specs.Listed.{Extends}
use Rattle.terms.specs.declared.node.Node.{Node}
use Rattle.grammar.specs.Grammar.{a_rule, a_query, Text}
use Rattle.grammar.specs.Written.{Written, Sentence, fact, rule, query}
use Rattle.reader.specs.declared.op.Op.{Op}
use Rattle.reader.specs.declared.sentence.Shape.{Shape}
use Rattle.reader.specs.declared.sentence.Shape.TheVariants as shape
use Rattle.reader.specs.Ops.{run}
use Rattle.reader.specs.Sentence as line
use Rattle.text.specs.declared.answer.RuleText.{RuleText}
use Rattle.text.specs.declared.answer.QueryText.{QueryText}
use Rattle.text.specs.declared.fault.LimitFault.{LimitFault}
use Rattle.text.specs.declared.fault.TextFault.{TextFault}
use Rattle.text.specs.declared.fault.TextFault.TheVariants.{TooLong, Grammar, Limit, Head}
use Rattle.reader.specs.declared.span.Span.{Span}
use Rattle.text.specs.Rules.{head_of, body_of, RuleRead, QueryRead}
use Rattle.text.specs.Building.{Built}
use Rattle.text.specs.Limits.{query_fits}
use Rattle.text.specs.Finishing.{Leaves, RuleFinished, RuleStored, QueryCopied, QueryAsked}

-- back to the names before
pub names_back : (before mid after : List (List ℕ)) (count : ℕ) → Extends before mid → count ≡ length before → 48 ≤ count
    → after ≡ take (max count 48) mid → after ≡ before
names_back before mid after count ext n l e =
    let m : max count 48 ≡ length before = omega arith in e ∙ ap (λ k. take k mid) m ∙ ext

-- the sentence that was read, and the stack that it leaves
pub record Parsed (text : List ℕ) (ops : List Op) (s : Shape) : Type 0 where
  pub sentence : Sentence
  pub is : Text a_rule text sentence
  pub leaves : Leaves s (run text ops) (head_of sentence) (body_of sentence)

pub parsed : (text : List ℕ) (ops : List Op) (s : Shape) → line.RuleRead text ops (Ok s) → Parsed text ops s
parsed text ops shape.Fact r = record { sentence = fact r.head; is = r.text; leaves = (r.builds, refl) }
parsed text ops shape.Rule r = record { sentence = rule r.head r.body; is = r.text; leaves = r.builds }

pub rule_read : (first : List (List ℕ)) (text : List ℕ) (s : Sentence) (ns : List (List ℕ)) (nodes : List Node)
    (spans : List Span) (r : Result RuleText TextFault) → Text a_rule text s → is_err r ≡ false
    → RuleStored text first (head_of s) (body_of s) ns nodes spans r → RuleRead first text ns nodes spans r
rule_read first text s ns nodes spans (Err f) is e h = absurd (false≢true (sym e))
rule_read first text s ns nodes spans (Ok r) is e h =
    record {
      sentence = s;
      is = is;
      fits = h.0.fits;
      stored = h.1;
      names_after = h.2;
      head_is = h.0.head_is;
      body_is = h.0.body_is;
      variables_are = h.0.variables_are;
      names_are = h.3;
    }

pub rule_refused : (first : List (List ℕ)) (text : List ℕ) (s : Sentence) (ns after : List (List ℕ)) (nodes : List Node)
    (spans : List Span) (r : Result RuleText TextFault) → Text a_rule text s → after ≡ first → is_err r ≡ true
    → RuleStored text first (head_of s) (body_of s) ns nodes spans r → RuleRead first text after nodes spans r
rule_refused first text s ns after nodes spans (Ok t) is back e h = absurd (false≢true e)
rule_refused first text s ns after nodes spans (Err TooLong) is back e h = absurd h
rule_refused first text s ns after nodes spans (Err (Grammar f)) is back e h = absurd h
rule_refused first text s ns after nodes spans (Err (Limit f)) is back e h =
    (record { sentence = s; is = is; limits = h; told = λ e. absurd (false≢true e) }, back)
rule_refused first text s ns after nodes spans (Err (Head f)) is back e h =
    (record { sentence = s; is = is; limits = h.0; told = λ e. h.1 }, back)

-- a query passes no limit, or it is told that it does
pub query_refused : (first : List (List ℕ)) (text : List ℕ) (g : Written) (ns after : List (List ℕ)) (nodes : List Node)
    (spans : List Span) (q : Result QueryText LimitFault) (r : Result QueryText TextFault) → Text a_query text (query g)
    → after ≡ first → is_err r ≡ true → MatchResult q (λ x. r ≡ Ok x) (λ f. r ≡ Err (Limit f))
    → QueryAsked text first g ns nodes spans q → QueryRead first text after nodes spans r
query_refused first text g ns after nodes spans (Ok t) r is back e same h =
    absurd (false≢true (ap is_err (sym same) ∙ e))
query_refused first text g ns after nodes spans (Err f) r is back e same h =
    let P : Result QueryText TextFault → Type 0 = λ r. QueryRead first text after nodes spans r in
    subst P (sym same) (record { goal = g; is = is; limits = h }, back)

-- what was finished, with what was built before

pub rule_stored : (text : List ℕ) (first : List (List ℕ)) (head body : Written) (ns : List (List ℕ)) (built nodes : List Node)
    (places : List ℕ) (spans : List Span) (r : Result RuleText TextFault)
    → Built text first (body ∷ head ∷ []) ns built places spans → RuleFinished first head body ns nodes r
    → RuleStored text first head body ns nodes spans r
rule_stored text first head body ns built nodes places spans (Ok r) b h = (h.0, h.1, b.names_are, b.met_are)
rule_stored text first head body ns built nodes places spans (Err f) b h = h

pub query_asked : (text : List ℕ) (first : List (List ℕ)) (goal : Written) (ns : List (List ℕ)) (built nodes : List Node)
    (places : List ℕ) (spans : List Span) (r : Result QueryText LimitFault)
    → Built text first (goal ∷ []) ns built places spans → QueryCopied first goal ns nodes r
    → QueryAsked text first goal ns nodes spans r
query_asked text first goal ns built nodes places spans (Ok r) b h = (h, b.names_are, b.met_are)
query_asked text first goal ns built nodes places spans (Err f) b h = h

pub query_unasked : (text : List ℕ) (first : List (List ℕ)) (goal : Written) (ns : List (List ℕ)) (nodes : List Node)
    (spans : List Span) (r : Result QueryText LimitFault)
    → is_err r ≡ true → query_fits first goal ≡ false → QueryAsked text first goal ns nodes spans r
query_unasked text first goal ns nodes spans (Ok r) e h = let z : ◌≡◌ {A = ℕ} 0 1 = cc in absurd (omega arith)
query_unasked text first goal ns nodes spans (Err f) e h = h
