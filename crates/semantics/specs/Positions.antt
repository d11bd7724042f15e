-- How many goal positions a term has: itself, and those of both arguments of a `,`/2 or `;`/2 at a goal position.
use Rattle.std.specs.Prelude.{ℕ, suc, ◌+◌, cond, ◌&&◌, ◌==◌}
use Rattle.terms.specs.Term.{Term, Terms, var, int, app, nil, cons, count}
use Rattle.terms.specs.Goals.{is_control}

abbrev mutual
  pub positions : Term → ℕ
  positions (var v) = 1
  positions (int i) = 1
  positions (app f ts) = suc (cond (is_control f && count ts == 2) (positions_all ts) 0)

  pub positions_all : Terms → ℕ
  positions_all nil = 0
  positions_all (cons t ts) = positions t + positions_all ts
