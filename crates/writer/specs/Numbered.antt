-- A term with its variables numbered as they come, from left to right.
use Rattle.std.specs.Prelude.{ℕ, List}
use Rattle.terms.specs.Term.{Term, Terms, var, int, app, nil, cons}
use Rattle.grammar.specs.Written as written
use Rattle.writer.specs.Shown.{integer_text, variable_text, firsts}

abbrev mutual
  pub numbered : List ℕ → Term → written.Written
  numbered seen (var v) = written.var (variable_text seen v)
  numbered seen (int i) = written.int (integer_text i)
  numbered seen (app f ts) = written.app f (all_numbered seen ts)

  pub all_numbered : List ℕ → Terms → written.Writtens
  all_numbered seen nil = written.nil
  all_numbered seen (cons t ts) = written.cons (numbered seen t) (all_numbered (firsts seen t) ts)
