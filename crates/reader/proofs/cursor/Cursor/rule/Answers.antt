use Rattle.std.proofs.Common.{vec_capacity, refl, ap, ◌∙◌}
use Rattle.std.proofs.lemmas.Result.{err_from_is_err_and}
use Rattle.grammar.specs.Grammar.{a_rule}
use Rattle.reader.proofs.LineFaults.{space_fails}
use Rattle.reader.proofs.LineSteps.{head_fails, fact_read, fact_goes_on, head_goes_on, neck_fails, body_fails}
use Rattle.reader.proofs.LineSteps.{rule_read}
use Rattle.reader.proofs.cursor.Cursor.rule.Goals as goal

pub returns-in_err-first : goal.returns-in_err-first
returns-in_err-first c =
    let p = err_from_is_err_and c.from_residual.result c.from_residual.ensures.1 in
    let h = c.in_err-first.ensures in
    let z = c.requires.place in
    rw (p.1, p.2) (record {
      stays = record { line = refl; room = refl };
      read = rw (h.1, z) (space_fails a_rule c.args.self.now.line.now (rw z at h.0));
    })

pub returns-in_err-term : goal.returns-in_err-term
returns-in_err-term c =
    let p = err_from_is_err_and c.from_residual-in_err-term.result c.from_residual-in_err-term.ensures.1 in
    let z = c.requires.place in
    let g = c.in_err-term.ensures in
    rw (p.1, p.2) (record {
      stays = g.moves.stays;
      read = head_fails c.args.self.now.line.now c.in_err-term.field-0.0 (rw z at c.in_ok-first.ensures)
          (rw z at g.read);
    })

pub returns-in_err-end-in-Stop : goal.returns-in_err-end-in-Stop
returns-in_err-end-in-Stop c =
    let p = err_from_is_err_and c.from_residual-in_err-end-in-Stop.result
    c.from_residual-in_err-end-in-Stop.ensures.1 in
    let z = c.requires.place in
    let g = c.in_ok-term.ensures in
    let w = c.skip_spaces.ensures in
    let e = g.moves.stays.line in
    let whole = w.keeps.line ∙ e in
    let h = rw whole at c.in_err-end-in-Stop.ensures in
    rw (p.1, p.2) (record {
      stays = record { line = whole; room = ap (λ v. vec_capacity v) w.keeps.ops ∙ g.moves.stays.room };
      read = fact_goes_on c.skip_spaces.new.self.pos c.in_err-end-in-Stop.field-0.0 (rw z at g.read)
          (rw z at c.in_ok-first.ensures) (rw e at w.spaces) (rw whole at c.in-Stop.ensures.value) h.0 h.1;
    })

pub returns-in_err-neck-in-Symbol : goal.returns-in_err-neck-in-Symbol
returns-in_err-neck-in-Symbol c =
    let p = err_from_is_err_and c.from_residual-in_err-neck-in-Symbol.result
    c.from_residual-in_err-neck-in-Symbol.ensures.1 in
    let z = c.requires.place in
    let g = c.in_ok-term.ensures in
    let w = c.skip_spaces.ensures in
    let n = c.in_err-neck-in-Symbol.ensures in
    let e = g.moves.stays.line in
    let whole = w.keeps.line ∙ e in
    rw (p.1, p.2) (record {
      stays = record {
        line = n.keeps.line ∙ whole;
        room = ap (λ v. vec_capacity v) (n.keeps.ops ∙ w.keeps.ops) ∙ g.moves.stays.room;
      };
      read = neck_fails c.skip_spaces.new.self.pos c.in_err-neck-in-Symbol.field-0.0 (rw z at g.read)
          (rw z at c.in_ok-first.ensures) (rw e at w.spaces) (rw whole at n.read);
    })

pub returns-in_err-goals-in-Symbol : goal.returns-in_err-goals-in-Symbol
returns-in_err-goals-in-Symbol c =
    let p = err_from_is_err_and c.from_residual-in_err-goals-in-Symbol.result
    c.from_residual-in_err-goals-in-Symbol.ensures.1 in
    let z = c.requires.place in
    let g = c.in_ok-term.ensures in
    let w = c.skip_spaces.ensures in
    let n = c.in_ok-neck-in-Symbol.ensures in
    let b = c.in_err-goals-in-Symbol.ensures in
    let e = g.moves.stays.line in
    let whole = w.keeps.line ∙ e in
    let last = n.keeps.line ∙ whole in
    rw (p.1, p.2) (record {
      stays = record {
        line = b.stays.line ∙ last;
        room = b.stays.room ∙ ap (λ v. vec_capacity v) (n.keeps.ops ∙ w.keeps.ops) ∙ g.moves.stays.room;
      };
      read = body_fails c.skip_spaces.new.self.pos c.in_err-goals-in-Symbol.field-0.0 (rw z at g.read)
          (rw z at c.in_ok-first.ensures) (rw e at w.spaces) (rw whole at n.read) (rw last at b.read);
    })

pub returns-in_ok-end-in-Stop : goal.returns-in_ok-end-in-Stop
returns-in_ok-end-in-Stop c =
    let z = c.requires.place in
    let g = c.in_ok-term.ensures in
    let w = c.skip_spaces.ensures in
    let e = g.moves.stays.line in
    let whole = w.keeps.line ∙ e in
    record {
      stays = record { line = whole; room = ap (λ v. vec_capacity v) w.keeps.ops ∙ g.moves.stays.room };
      read = rw w.keeps.ops (fact_read c.skip_spaces.new.self.pos c.requires.empty (rw z at g.read)
          (rw z at c.in_ok-first.ensures) (rw e at w.spaces) (rw whole at c.in-Stop.ensures.value)
          (rw whole at c.in_ok-end-in-Stop.ensures));
    }

pub returns-in_ok-goals-in-Symbol : goal.returns-in_ok-goals-in-Symbol
returns-in_ok-goals-in-Symbol c =
    let z = c.requires.place in
    let g = c.in_ok-term.ensures in
    let w = c.skip_spaces.ensures in
    let n = c.in_ok-neck-in-Symbol.ensures in
    let b = c.in_ok-goals-in-Symbol.ensures in
    let e = g.moves.stays.line in
    let whole = w.keeps.line ∙ e in
    let last = n.keeps.line ∙ whole in
    record {
      stays = record {
        line = b.stays.line ∙ last;
        room = b.stays.room ∙ ap (λ v. vec_capacity v) (n.keeps.ops ∙ w.keeps.ops) ∙ g.moves.stays.room;
      };
      read = rule_read c.requires.empty (rw z at g.read) (rw z at c.in_ok-first.ensures) (rw e at w.spaces)
          (rw whole at n.read) (rw (last, n.keeps.ops ∙ w.keeps.ops) at b.read);
    }

pub returns-in_default : goal.returns-in_default
returns-in_default c =
    let z = c.requires.place in
    let g = c.in_ok-term.ensures in
    let w = c.skip_spaces.ensures in
    let e = g.moves.stays.line in
    let whole = w.keeps.line ∙ e in
    let k = rw whole at c.kind.ensures.value in
    record {
      stays = record { line = whole; room = ap (λ v. vec_capacity v) w.keeps.ops ∙ g.moves.stays.room };
      read = head_goes_on c.skip_spaces.new.self.pos c.unexpected.result (rw z at g.read)
          (rw z at c.in_ok-first.ensures) (rw e at w.spaces) (rw whole at c.skip_spaces.new.self.within)
          (λ h. c.in_default.not-Stop (k ∙ h)) (λ h. c.in_default.not-Symbol (k ∙ h))
          (rw whole at c.unexpected.ensures);
    }
