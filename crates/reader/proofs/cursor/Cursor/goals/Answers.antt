use Rattle.std.proofs.Common.{vec_capacity, sym, ap, ◌∙◌}
use Rattle.std.proofs.lemmas.Result.{err_from_is_err_and}
use Rattle.reader.proofs.LineSteps.{goals_reach, goals_break, goals_go_on, goals_not_ended}
use Rattle.reader.proofs.cursor.Cursor.goals.Goals as goal

pub returns-in_err-count : goal.returns-in_err-count
returns-in_err-count c =
    let p = err_from_is_err_and c.from_residual.result c.from_residual.ensures.1 in
    let g = c.in_err-count.ensures in
    rw (p.1, p.2) (record { stays = g.moves.stays; read = goals_break g.read })

pub returns-in_err-pass : goal.returns-in_err-pass
returns-in_err-pass c =
    let p = err_from_is_err_and c.from_residual-in_err-pass.result c.from_residual-in_err-pass.ensures.1 in
    let g = c.in_ok-count.ensures in
    let q = c.in_err-pass.ensures in
    let e = g.moves.stays.line in
    let r = rw e at q.read in
    rw (p.1, p.2) (record {
      stays = record { line = q.keeps.line ∙ e; room = ap (λ v. vec_capacity v) q.keeps.ops ∙ g.moves.stays.room };
      read = goals_not_ended c.terms.new.self.pos c.in_err-pass.field-0.0 g.read (sym g.read.no_space) g.read.within
          r.1 r.2;
    })

pub returns-in_err-end : goal.returns-in_err-end
returns-in_err-end c =
    let p = err_from_is_err_and c.from_residual-in_err-end.result c.from_residual-in_err-end.ensures.1 in
    let g = c.in_ok-count.ensures in
    let q = c.in_ok-pass.ensures in
    let e = g.moves.stays.line in
    let r = rw e at q.read in
    let h = rw (q.keeps.line ∙ e, r.0) at c.in_err-end.ensures in
    rw (p.1, p.2) (record {
      stays = record { line = q.keeps.line ∙ e; room = ap (λ v. vec_capacity v) q.keeps.ops ∙ g.moves.stays.room };
      read = goals_go_on c.terms.new.self.pos c.in_err-end.field-0.0 g.read (sym g.read.no_space) r.2 h.0 h.1;
    })

pub returns : goal.returns
returns c =
    let g = c.in_ok-count.ensures in
    let q = c.in_ok-pass.ensures in
    let e = g.moves.stays.line in
    let r = rw e at q.read in
    record {
      stays = record {
        line = q.keeps.line ∙ e;
        room = c.repeat.ensures.same_room ∙ ap (λ v. vec_capacity v) q.keeps.ops ∙ g.moves.stays.room;
      };
      read = goals_reach c.terms.new.self.pos g.read (sym g.read.no_space) r.2
          (rw (q.keeps.line ∙ e, r.0) at c.in_ok-end.ensures) (rw q.keeps.ops at c.repeat.ensures.items);
    }
