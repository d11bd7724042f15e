-- What the writer writes reads back: the bytes as the term that was written, and its variables by their places.
use Rattle.std.proofs.Common.{◌≡◌, ℕ, true, List, [], ap, ◌∙◌}
use Rattle.terms.specs.Term.{Term}
use Rattle.grammar.specs.Grammar.{brackets}
use Rattle.writing.specs.Writing.{alone}
use Rattle.writing.specs.ReadBack.{readable}
use Rattle.writing.proofs.ReadBackProperties.{query_reads_back, fact_reads_back, rule_reads_back}
use Rattle.text.specs.Numbering.{met, numbered}
use Rattle.writer.specs.Shown.{firsts}
use Rattle.readback.specs.Renaming.{renamed}
use Rattle.readback.specs.ReadBack.{written_behind, Writable, QueryReadsBack, FactReadsBack, RuleReadsBack}
use Rattle.readback.proofs.PlaceProperties.{keeps_itself}
use Rattle.readback.proofs.NumberingProperties.{names, numbers}
use Rattle.readback.proofs.NestingProperties.{few_brackets_readable}

writable_readable : (s : List ℕ) (t : Term) → Writable s t → readable brackets (written_behind s t) ≡ true
writable_readable s t w =
    few_brackets_readable t alone brackets (firsts s t) w.variables w.integers w.nested

writable_numbers : (s : List ℕ) (t : Term) → Writable s t
    → (met (names s) (written_behind s t) ≡ names (firsts s t))
    × (numbered (names s) (written_behind s t) ≡ renamed (firsts s t) t)
writable_numbers s t w = numbers t s (firsts s t) (keeps_itself (firsts s t)) w.variables w.integers

pub query_is_the_same : QueryReadsBack
query_is_the_same t w =
    (query_reads_back (written_behind [] t) (writable_readable [] t w), (writable_numbers [] t w).1)

pub fact_is_the_same : FactReadsBack
fact_is_the_same h w =
    (fact_reads_back (written_behind [] h) (writable_readable [] h w), (writable_numbers [] h w).1)

pub rule_is_the_same : RuleReadsBack
rule_is_the_same h b w x =
    let s : List ℕ = firsts [] h in (
      rule_reads_back (written_behind [] h) (written_behind s b) (writable_readable [] h w) (writable_readable s b x),
      (writable_numbers [] h w).1,
      ap (λ e. numbered e (written_behind s b)) (writable_numbers [] h w).0 ∙ (writable_numbers s b x).1,
    )
