use Rattle.std.proofs.Common.{refl, ◌∙◌}
use Rattle.reader.proofs.NeckSteps.{no_colon, no_minus, goes_on, whole_neck}
use Rattle.reader.proofs.cursor.Cursor.neck.Goals as goal

pub returns-then-not-is_at : goal.returns-then-not-is_at
returns-then-not-is_at c =
    let s = c.args.self.now in
    record {
      keeps = record { line = refl; ops = refl };
      read = no_colon s.line.now s.pos c.unexpected.result c.requires.within c.requires.kind
          c.if-not-is_at.ensures.value c.unexpected.ensures;
    }

pub returns-then-not-is_at-2 : goal.returns-then-not-is_at-2
returns-then-not-is_at-2 c =
    let s = c.args.self.now in
    record {
      keeps = record { line = refl; ops = refl };
      read = no_minus s.line.now s.pos c.unexpected-then-not-is_at-2.result c.requires.within
          c.if-not-is_at.ensures.value c.if-not-is_at-2.ensures.value c.unexpected-then-not-is_at-2.ensures;
    }

pub returns-in-Symbol : goal.returns-in-Symbol
returns-in-Symbol c =
    let s = c.args.self.now in
    record {
      keeps = record { line = refl; ops = refl };
      read = goes_on s.line.now s.pos c.unexpected-in-Symbol.result (c.if-not-is_at-2.ensures.inside refl)
          c.if-not-is_at.ensures.value c.if-not-is_at-2.ensures.value c.in-Symbol.ensures.value
          c.unexpected-in-Symbol.ensures;
    }

pub returns-in_default : goal.returns-in_default
returns-in_default c =
    let s = c.args.self.now in
    record {
      keeps = record { line = refl; ops = refl };
      read = whole_neck s.line.now s.pos (c.if-not-is_at-2.ensures.inside refl)
          c.if-not-is_at.ensures.value c.if-not-is_at-2.ensures.value
          (λ e. c.in_default.not-Symbol (c.kind.ensures.value ∙ e));
    }
