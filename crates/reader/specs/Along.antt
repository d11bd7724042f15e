-- What the loop over terms with commas between keeps:
-- how the grammar's reader of bytes goes on behind the terms read so far.
use Rattle.std.specs.Prelude.{◌≡◌, ℕ, List, drop, Some}
use Rattle.grammar.specs.Written.{Writtens, join, size}
use Rattle.grammar.specs.Machine.{onward}
use Rattle.grammar.specs.Sentences.{Holder, among, sentences, operand}
use Rattle.reader.specs.declared.op.Op.{Op}
use Rattle.reader.specs.Ops.{run, pushed}
use Rattle.reader.specs.Reading.{Admits, quote_open}

-- some terms, each with a comma behind it, lead from pos to at
pub record Along (n : ℕ) (line : List ℕ) (pos at count : ℕ) (before behind : List Op) : Type 0 where
  pub terms : Writtens
  pub on : (m : ℕ) (h : Holder) (us : Writtens) → Admits (among h us) (drop pos line)
      → onward sentences m (Some (operand n (among h us))) (drop pos line)
      ≡ onward sentences m (Some (operand n (among h (join us terms)))) (drop at line)
  pub admits : (h : Holder) (us : Writtens) → Admits (among h us) (drop pos line)
      → Admits (among h (join us terms)) (drop at line)
  pub builds : run line behind ≡ pushed terms (run line before)
  pub counted : count ≡ size terms
  pub even : quote_open line pos ≡ quote_open line at
