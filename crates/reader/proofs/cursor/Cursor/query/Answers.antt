use Rattle.std.proofs.Common.{vec_items, refl}
use Rattle.std.proofs.lemmas.Result.{err_from_is_err_and}
use Rattle.grammar.specs.Grammar.{a_query}
use Rattle.reader.proofs.LineFaults.{space_fails}
use Rattle.reader.proofs.LineSteps.{query_judged}
use Rattle.reader.proofs.cursor.Cursor.query.Goals as goal

pub returns-in_err-first : goal.returns-in_err-first
returns-in_err-first c =
    let p = err_from_is_err_and c.from_residual.result c.from_residual.ensures.1 in
    let h = c.in_err-first.ensures in
    let z = c.requires.place in
    rw (p.1, p.2) (record {
      stays = record { line = refl; room = refl };
      read = rw (h.1, z) (space_fails a_query c.args.self.now.line.now (rw z at h.0));
    })

pub returns : goal.returns
returns c =
    let z = c.requires.place in
    record {
      stays = c.goals.ensures.stays;
      read = query_judged c.args.self.now.line.now (vec_items c.goals.new.self.ops) c.goals.result c.requires.empty
          (rw z at c.in_ok-first.ensures) (rw z at c.goals.ensures.read);
    }
