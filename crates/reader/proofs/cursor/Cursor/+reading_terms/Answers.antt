use Rattle.std.proofs.Common.{◌≡◌, ℕ, ◌+◌, ◌-◌, ◌≤◌, false, ◌⊎◌, List, ◌∷◌, length, drop, Ok, vec_items, vec_len}
use Rattle.std.proofs.Common.{vec_capacity, sym, refl, ap, ◌∙◌, inl, inr, arith}
use Rattle.std.proofs.lemmas.Result.{err_from_is_err_and}
use Rattle.tokens.specs.declared.kind.Kind.TheVariants.{Opening, Left}
use Rattle.tokens.specs.declared.scan.Token.TheVariants as code
use Rattle.tokens.specs.declared.scan.Found.{Found}
use Rattle.tokens.specs.Scanning.{TokenRead, undouble}
use Rattle.grammar.specs.Written.{var, int}
use Rattle.reader.specs.declared.op.Op.TheVariants as op
use Rattle.reader.specs.declared.fault.TermFault.TheVariants as term_fault
use Rattle.reader.specs.Ops.{run, take_many, named}
use Rattle.reader.specs.Reading.{Breaks}
use Rattle.reader.proofs.TokenKinds.{mark_kind, begins_as}
use Rattle.reader.proofs.FoundTokens.{token_length, at_token, leaf_reaches, name_reaches, name_breaks, read_later}
use Rattle.reader.proofs.FoundTokens.{neck_breaks, mark_breaks, right_breaks, end_breaks, token_breaks}
use Rattle.reader.proofs.BracketSteps.{round_too_deep, round_breaks, round_reaches, round_unclosed, no_arguments}
use Rattle.reader.proofs.BracketSteps.{arguments_too_deep, arguments_break, arguments_reach, arguments_unclosed}
use Rattle.reader.proofs.ListSteps.{list_too_deep, empty_reaches, list_read, elements_break}
use Rattle.reader.proofs.ListSteps.{elements_reach, elements_unclosed, tail_breaks, tail_reaches, tail_unclosed}
use Rattle.reader.proofs.CommaSteps.{none_yet, one_more, the_last, none_more}
use Rattle.reader.proofs.CursorSteps.{stands, moved}
use Rattle.reader.proofs.cursor.Cursor.+reading_terms.Goals as goal
use Rattle.reader.proofs.cursor.Cursor.+reading_terms.Goals.{term-in-Variable, term-in-Integer}
use Rattle.reader.proofs.cursor.Cursor.+reading_terms.Goals.{term-in-Name+in_ok-arguments-in-Name}
use Rattle.reader.proofs.cursor.Cursor.+reading_terms.Goals.{term-in-Quoted+in_ok-arguments-in-Quoted}

pub arguments-returns-in_default : goal.arguments-returns-in_default
arguments-returns-in_default t c = record {
  moves = stands;
  spares = omega arith;
  read = no_arguments (λ e. c.in_default.not-Opening (c.kind.ensures.value ∙ e)) c.args.self.now.within refl refl;
}

pub arguments-returns-then-left-eq0 : goal.arguments-returns-then-left-eq0
arguments-returns-then-left-eq0 t c =
    let o = c.in-Opening.ensures in
    record {
      moves = stands;
      spares = tt;
      read = arguments_too_deep o.inside (sym o.value) c.if-left-eq0.true;
    }

pub arguments-returns-in_err-count-in-Opening : goal.arguments-returns-in_err-count-in-Opening
arguments-returns-in_err-count-in-Opening t c =
    let p = err_from_is_err_and c.from_residual.result c.from_residual.ensures.1 in
    let g = c.in_err-count-in-Opening.ensures in
    let m = g.moves in
    rw (p.1, p.2) (record {
      moves = moved m.stays.line m.stays.room (omega arith);
      spares = tt;
      read = arguments_break (sym c.in-Opening.ensures.value) (omega arith) g.read;
    })

pub arguments-returns-in_ok-pass-in-Opening : goal.arguments-returns-in_ok-pass-in-Opening
arguments-returns-in_ok-pass-in-Opening t c =
    let g = c.in_ok-count-in-Opening.ensures in
    let q = c.in_ok-pass-in-Opening.ensures in
    let e = g.moves.stays.line in
    let r = rw e at q.read in
    let o = ap (λ v. vec_len v) q.keeps.ops in
    let m = g.moves.paid in
    let f = g.spares in
    record {
      moves = moved (q.keeps.line ∙ e) (ap (λ v. vec_capacity v) q.keeps.ops ∙ g.moves.stays.room) (omega arith);
      spares = omega arith;
      read = rw (r.0, q.keeps.ops) (arguments_reach (sym c.in-Opening.ensures.value) (omega arith) g.read
          (sym g.read.no_space) (omega arith) r.2 r.1 refl refl);
    }

pub arguments-returns-in_err-pass-in-Opening : goal.arguments-returns-in_err-pass-in-Opening
arguments-returns-in_err-pass-in-Opening t c =
    let p = err_from_is_err_and c.from_residual-in_err-pass-in-Opening.result
    c.from_residual-in_err-pass-in-Opening.ensures.1 in
    let g = c.in_ok-count-in-Opening.ensures in
    let q = c.in_err-pass-in-Opening.ensures in
    let e = g.moves.stays.line in
    let r = rw e at q.read in
    let o = ap (λ v. vec_len v) q.keeps.ops in
    let m = g.moves.paid in
    rw (p.1, p.2) (record {
      moves = moved (q.keeps.line ∙ e) (ap (λ v. vec_capacity v) q.keeps.ops ∙ g.moves.stays.room) (omega arith);
      spares = tt;
      read = arguments_unclosed (sym c.in-Opening.ensures.value) (omega arith) g.read (sym g.read.no_space)
          g.read.within r.1 r.2;
    })

pub bracketed-returns-then-left-eq0 : goal.bracketed-returns-then-left-eq0
bracketed-returns-then-left-eq0 t c = record {
  moves = stands;
  read = round_too_deep c.requires.within c.requires.kind c.if-left-eq0.true;
}

pub bracketed-returns-in_err-count : goal.bracketed-returns-in_err-count
bracketed-returns-in_err-count t c =
    let p = err_from_is_err_and c.from_residual.result c.from_residual.ensures.1 in
    let g = c.in_err-count.ensures in
    let m = g.moves in
    rw (p.1, p.2) (record {
      moves = moved m.stays.line m.stays.room (omega arith);
      read = round_breaks c.requires.within c.requires.kind (omega arith) g.read;
    })

pub bracketed-returns : goal.bracketed-returns
bracketed-returns t c =
    let g = c.in_ok-count.ensures in
    let q = c.in_ok-pass.ensures in
    let e = g.moves.stays.line in
    let r = rw e at q.read in
    let o = ap (λ v. vec_len v) q.keeps.ops in
    let m = g.moves.paid in
    let f = g.spares in
    let n = g.read.counted in
    let k = c.repeat.ensures.len in
    record {
      moves = moved (q.keeps.line ∙ e) (c.repeat.ensures.same_room ∙ ap (λ v. vec_capacity v) q.keeps.ops ∙ g.moves.stays.room)
          (omega arith);
      read = rw r.0 (round_reaches c.requires.within c.requires.kind (omega arith) g.read (sym g.read.no_space)
          (omega arith) r.2 r.1 (rw q.keeps.ops at c.repeat.ensures.items));
    }

pub bracketed-returns-in_err-pass : goal.bracketed-returns-in_err-pass
bracketed-returns-in_err-pass t c =
    let p = err_from_is_err_and c.from_residual-in_err-pass.result c.from_residual-in_err-pass.ensures.1 in
    let g = c.in_ok-count.ensures in
    let q = c.in_err-pass.ensures in
    let e = g.moves.stays.line in
    let r = rw e at q.read in
    let o = ap (λ v. vec_len v) q.keeps.ops in
    let m = g.moves.paid in
    rw (p.1, p.2) (record {
      moves = moved (q.keeps.line ∙ e) (ap (λ v. vec_capacity v) q.keeps.ops ∙ g.moves.stays.room) (omega arith);
      read = round_unclosed c.requires.within c.requires.kind (omega arith) g.read (sym g.read.no_space)
          g.read.within r.1 r.2;
    })

pub elements-returns-in_err-count : goal.elements-returns-in_err-count
elements-returns-in_err-count t c =
    let p = err_from_is_err_and c.from_residual.result c.from_residual.ensures.1 in
    let g = c.in_err-count.ensures in
    let m = g.moves in
    rw (p.1, p.2) (record {
      moves = moved m.stays.line m.stays.room (omega arith);
      read = elements_break c.requires.some g.read;
    })

pub elements-returns-in_err-term-in-Bar : goal.elements-returns-in_err-term-in-Bar
elements-returns-in_err-term-in-Bar t c =
    let p = err_from_is_err_and c.from_residual-in_err-term-in-Bar.result
    c.from_residual-in_err-term-in-Bar.ensures.1 in
    let g = c.in_ok-count.ensures in
    let h = c.in_err-term-in-Bar.ensures in
    let e = g.moves.stays.line in
    let m = g.moves.paid in
    let n = h.moves.paid in
    rw (p.1, p.2) (record {
      moves = moved (h.moves.stays.line ∙ e) (h.moves.stays.room ∙ g.moves.stays.room) (omega arith);
      read = tail_breaks c.terms.new.self.pos c.requires.some g.read (sym g.read.no_space)
          (rw e at c.in-Bar.ensures.value) (rw e at h.read);
    })

pub elements-returns-in-Right : goal.elements-returns-in-Right
elements-returns-in-Right t c =
    let g = c.in_ok-count.ensures in
    let k = c.in-Right.ensures in
    let i = k.inside in
    let m = g.moves in
    let e = m.stays.line in
    let l = ap length e in
    let f = g.spares in
    let u = c.push_reserved.ensures.len in
    let r = c.repeat.ensures.len in
    record {
      moves = moved e (c.repeat.ensures.same_room ∙ c.push_reserved.ensures.capacity ∙ m.stays.room) (omega arith);
      read = elements_reach c.requires.some g.read (sym g.read.no_space) (omega arith) (rw e at k.value) (omega arith)
          c.push_reserved.ensures.items c.repeat.ensures.items;
    }

pub elements-returns-in_ok-pass-in-Bar : goal.elements-returns-in_ok-pass-in-Bar
elements-returns-in_ok-pass-in-Bar t c =
    let g = c.in_ok-count.ensures in
    let h = c.in_ok-term-in-Bar.ensures in
    let w = c.skip_spaces.ensures in
    let q = c.in_ok-pass-in-Bar.ensures in
    let e = g.moves.stays.line in
    let d = h.moves.stays.line ∙ e in
    let whole = w.keeps.line ∙ d in
    let r = rw whole at q.read in
    let kept = q.keeps.ops ∙ w.keeps.ops in
    let o = ap (λ v. vec_len v) kept in
    let m = g.moves.paid in
    let n = h.moves.paid in
    let f = g.spares in
    let k = c.repeat-in-Bar.ensures.len in
    let v = w.forward in
    record {
      moves = moved (q.keeps.line ∙ whole) (c.repeat-in-Bar.ensures.same_room ∙ ap (λ v. vec_capacity v) kept
          ∙ h.moves.stays.room ∙ g.moves.stays.room) (omega arith);
      read = rw r.0 (tail_reaches c.requires.some g.read (sym g.read.no_space) (omega arith)
          (rw e at c.in-Bar.ensures.value) (rw e at h.read) (rw d at w.spaces) v r.2 r.1
          (rw kept at c.repeat-in-Bar.ensures.items));
    }

pub elements-returns-in_err-pass-in-Bar : goal.elements-returns-in_err-pass-in-Bar
elements-returns-in_err-pass-in-Bar t c =
    let p = err_from_is_err_and c.from_residual-in_err-pass-in-Bar.result
    c.from_residual-in_err-pass-in-Bar.ensures.1 in
    let g = c.in_ok-count.ensures in
    let h = c.in_ok-term-in-Bar.ensures in
    let w = c.skip_spaces.ensures in
    let q = c.in_err-pass-in-Bar.ensures in
    let e = g.moves.stays.line in
    let d = h.moves.stays.line ∙ e in
    let whole = w.keeps.line ∙ d in
    let r = rw whole at q.read in
    let l = ap length whole in
    let kept = q.keeps.ops ∙ w.keeps.ops in
    let o = ap (λ v. vec_len v) kept in
    let m = g.moves.paid in
    let n = h.moves.paid in
    let v = w.forward in
    let i = c.skip_spaces.new.self.within in
    rw (p.1, p.2) (record {
      moves = moved (q.keeps.line ∙ whole) (ap (λ v. vec_capacity v) kept ∙ h.moves.stays.room ∙ g.moves.stays.room)
          (omega arith);
      read = tail_unclosed c.terms.new.self.pos c.requires.some g.read (sym g.read.no_space)
          (rw e at c.in-Bar.ensures.value) (rw e at h.read) (rw d at w.spaces) (omega arith) r.1 r.2;
    })

pub elements-returns-in_default : goal.elements-returns-in_default
elements-returns-in_default t c =
    let g = c.in_ok-count.ensures in
    let m = g.moves in
    let e = m.stays.line in
    let k = rw e at c.kind.ensures.value in
    record {
      moves = moved e m.stays.room (omega arith);
      read = elements_unclosed c.requires.some g.read (sym g.read.no_space) g.read.within
          (λ h. c.in_default.not-Right (k ∙ h)) (λ h. c.in_default.not-Bar (k ∙ h))
          (rw e at c.unexpected.ensures);
    }

pub list-returns-then-left-eq0 : goal.list-returns-then-left-eq0
list-returns-then-left-eq0 t c = record {
  moves = stands;
  read = list_too_deep c.requires.within c.requires.kind c.if-left-eq0.true;
}

pub list-returns-in-Right : goal.list-returns-in-Right
list-returns-in-Right t c =
    let k = c.in-Right.ensures in
    let w = c.run_end-first.ensures.within.0 in
    let l = c.push_reserved.ensures.len in
    record {
      moves = moved refl c.push_reserved.ensures.capacity (omega arith);
      read = empty_reaches c.requires.within c.requires.kind (omega arith) c.run_end-first.ensures.value w k.value
          k.inside c.push_reserved.ensures.items;
    }

pub list-returns-in_default : goal.list-returns-in_default
list-returns-in_default t c = record {
  moves = c.elements.ensures.moves;
  read = list_read c.args.left c.args.self.now.line.now c.args.self.now.pos c.elements.new.self.pos
      (vec_items c.args.self.now.ops) (vec_items c.elements.new.self.ops) c.elements.result
      c.requires.within c.requires.kind (omega arith) c.elements.ensures.read;
}

pub term-returns-in_err-token : goal.term-returns-in_err-token
term-returns-in_err-token t c =
    let p = err_from_is_err_and c.from_residual.result c.from_residual.ensures.1 in
    rw (p.1, p.2) (record {
      moves = stands;
      read = token_breaks c.args.left c.args.self.now.line.now c.args.self.now.pos c.in_err-token.field-0.0
          c.in_err-token.ensures;
    })

pub term-returns-in_err-arguments-in-Name : goal.term-returns-in_err-arguments-in-Name
term-returns-in_err-arguments-in-Name t c =
    let p = err_from_is_err_and c.from_residual-in_err-arguments-in-Name.result
    c.from_residual-in_err-arguments-in-Name.ensures.1 in
    let s = c.args.self.now in
    let x = c.in_ok-token.field-0 in
    let k = code.Name c.in-Name.field-0 in
    let g = at_token s.line.now s.pos x k c.in_ok-token.ensures s.within c.in-Name.is in
    let l = g.later in
    let o = g.long in
    let h = c.in_err-arguments-in-Name.ensures in
    let m = h.moves.paid in
    rw (p.1, p.2) (record {
      moves = moved h.moves.stays.line h.moves.stays.room (omega arith);
      read = name_breaks _ g refl h.read;
    })

pub term-returns-in_err-arguments-in-Quoted : goal.term-returns-in_err-arguments-in-Quoted
term-returns-in_err-arguments-in-Quoted t c =
    let p = err_from_is_err_and c.from_residual-in_err-arguments-in-Quoted.result
    c.from_residual-in_err-arguments-in-Quoted.ensures.1 in
    let s = c.args.self.now in
    let x = c.in_ok-token.field-0 in
    let k = code.Quoted c.in-Quoted.field-0 in
    let g = at_token s.line.now s.pos x k c.in_ok-token.ensures s.within c.in-Quoted.is in
    let l = g.later in
    let o = g.long in
    let h = c.in_err-arguments-in-Quoted.ensures in
    let m = h.moves.paid in
    rw (p.1, p.2) (record {
      moves = moved h.moves.stays.line h.moves.stays.room (omega arith);
      read = name_breaks _ g refl h.read;
    })

pub term-bracketed-requires : goal.term-bracketed-requires
term-bracketed-requires t c =
    let s = c.args.self.now in
    let x = c.in_ok-token.field-0 in
    let g = at_token s.line.now s.pos x code.Opening c.in_ok-token.ensures s.within c.in-Opening.is in
    let l = g.later in
    let o = g.long in
    let w = g.within in (
      omega arith,
      record {
        within = omega arith;
        kind = begins_as (drop x.start s.line.now) Opening (ap mark_kind g.is) (λ e. cc);
      },
    )

pub term-list-requires : goal.term-list-requires
term-list-requires t c =
    let s = c.args.self.now in
    let x = c.in_ok-token.field-0 in
    let g = at_token s.line.now s.pos x code.Left c.in_ok-token.ensures s.within c.in-Left.is in
    let l = g.later in
    let o = g.long in
    let w = g.within in (
      omega arith,
      record {
        within = omega arith;
        kind = begins_as (drop x.start s.line.now) Left (ap mark_kind g.is) (λ e. cc);
      },
    )

pub term-returns-in-Opening : goal.term-returns-in-Opening
term-returns-in-Opening t c =
    let s = c.args.self.now in
    let x = c.in_ok-token.field-0 in
    let g = at_token s.line.now s.pos x code.Opening c.in_ok-token.ensures s.within c.in-Opening.is in
    let l = g.later in
    let h = c.bracketed.ensures in
    let m = h.moves.paid in
    record {
      moves = moved h.moves.stays.line h.moves.stays.room (omega arith);
      read = read_later c.args.left s.line.now s.pos code.Opening x.start x.end c.bracketed.new.self.pos
          (vec_items s.ops) (vec_items c.bracketed.new.self.ops) c.bracketed.result g h.read;
    }

pub term-returns-in-Left : goal.term-returns-in-Left
term-returns-in-Left t c =
    let s = c.args.self.now in
    let x = c.in_ok-token.field-0 in
    let g = at_token s.line.now s.pos x code.Left c.in_ok-token.ensures s.within c.in-Left.is in
    let l = g.later in
    let h = c.list.ensures in
    let m = h.moves.paid in
    record {
      moves = moved h.moves.stays.line h.moves.stays.room (omega arith);
      read = read_later c.args.left s.line.now s.pos code.Left x.start x.end c.list.new.self.pos
          (vec_items s.ops) (vec_items c.list.new.self.ops) c.list.result g h.read;
    }

pub term-returns-in-Neck : goal.term-returns-in-Neck
term-returns-in-Neck t c =
    let s = c.args.self.now in
    let x = c.in_ok-token.field-0 in
    let g = at_token s.line.now s.pos x code.Neck c.in_ok-token.ensures s.within c.in-Neck.is in
    let l = g.later in
    let o = g.long in
    record { moves = moved refl refl (omega arith); read = neck_breaks g c.unexpected.ensures }

-- tokens that begin no term
no_term : (n : ℕ) (line : List ℕ) (pos : ℕ) (x : Found) → TokenRead line pos (Ok x) → pos ≤ length line
    → (x.token ≡ code.Closing) ⊎ ((x.token
    ≡ code.Right) ⊎ ((x.token
    ≡ code.Bar) ⊎ ((x.token ≡ code.Comma) ⊎ ((x.token ≡ code.Stop) ⊎ (x.token ≡ code.End)))))
    → Breaks n line pos (term_fault.Unexpected x.start n)
no_term n line pos x h l (inl e) = let g = at_token line pos x code.Closing h l e in mark_breaks n line pos
    code.Closing x.start x.end _ g refl g.long (λ y d. refl)
no_term n line pos x h l (inr (inl e)) = right_breaks (at_token line pos x code.Right h l e)
no_term n line pos x h l (inr (inr (inl e))) = let g = at_token line pos x code.Bar h l e in mark_breaks n line pos
    code.Bar x.start x.end _ g refl g.long (λ y d. refl)
no_term n line pos x h l (inr (inr (inr (inl e)))) = let g = at_token line pos x code.Comma h l e in mark_breaks n
    line pos code.Comma x.start x.end _ g refl g.long (λ y d. refl)
no_term n line pos x h l (inr (inr (inr (inr (inl e))))) = let g = at_token line pos x code.Stop h l e in mark_breaks
    n line pos code.Stop x.start x.end _ g refl g.long (λ y d. refl)
no_term n line pos x h l (inr (inr (inr (inr (inr e))))) = end_breaks (at_token line pos x code.End h l e)

pub term-returns-in-Closing : goal.term-returns-in-Closing
term-returns-in-Closing t c =
    let s = c.args.self.now in
    let x = c.in_ok-token.field-0 in
    let r = c.in_ok-token.ensures in
    let l = r.2 s.within in
    let o = token_length x.token x.start x.end (length s.line.now) r.0.long in
    record {
      moves = moved refl refl (omega arith);
      read = no_term c.args.left s.line.now s.pos c.in_ok-token.field-0 c.in_ok-token.ensures s.within c.in-Closing.is;
    }

-- a step is added for what was read up to its place
pub term-returns : goal.term-returns
term-returns t c =
    let s = c.args.self.now in
    let x = c.in_ok-token.field-0 in
    let r = c.in_ok-token.ensures in
    let u = c.push_reserved.ensures.len in
    elim c.match-token.branch [
      | term-in-Variable w ↦ (
          let g = at_token s.line.now s.pos x (code.Variable w.in-Variable.field-0) r s.within w.in-Variable.is in
          let l = g.later in
          let o = g.long in
          let at = ap (λ h. h.1.1.0) w.self-is in
          let ops = ap (λ h. h.1.1.1.0) w.self-is in
          let n = ap (λ v. vec_len v) ops in
          record {
            moves = moved (ap (λ h. h.1.0.now) w.self-is)
                (c.push_reserved.ensures.capacity ∙ ap (λ v. vec_capacity v) ops) (omega arith);
            read = rw at (leaf_reaches _ (var w.in-Variable.field-0.now)
                (op.Variable (record { start = x.start; end = x.end })) g refl g.long (λ y. refl)
                (ap (λ b. var b ∷ run s.line.now (vec_items s.ops)) (sym g.holds))
                (rw (ops, w.op-is) at c.push_reserved.ensures.items));
          }
          )
      | term-in-Integer w ↦ (
          let g = at_token s.line.now s.pos x (code.Integer w.in-Integer.field-0) r s.within w.in-Integer.is in
          let l = g.later in
          let o = g.long in
          let at = ap (λ h. h.1.1.0) w.self-is in
          let ops = ap (λ h. h.1.1.1.0) w.self-is in
          let n = ap (λ v. vec_len v) ops in
          record {
            moves = moved (ap (λ h. h.1.0.now) w.self-is)
                (c.push_reserved.ensures.capacity ∙ ap (λ v. vec_capacity v) ops) (omega arith);
            read = rw at (leaf_reaches _ (int w.in-Integer.field-0.now)
                (op.Integer (record { start = x.start; end = x.end })) g refl g.long (λ y. refl)
                (ap (λ b. int b ∷ run s.line.now (vec_items s.ops)) (sym g.holds))
                (rw (ops, w.op-is) at c.push_reserved.ensures.items));
          }
          )
      | term-in-Name+in_ok-arguments-in-Name w ↦ (
          let g = at_token s.line.now s.pos x (code.Name w.in-Name.field-0) r s.within w.in-Name.is in
          let h = w.in_ok-arguments-in-Name.ensures in
          let y = w.in_ok-arguments-in-Name.field-0 in
          let l = g.later in
          let o = g.long in
          let f = h.spares in
          let at = ap (λ h. h.1.1.0) w.self-is in
          let ops = ap (λ h. h.1.1.1.0) w.self-is in
          let n = ap (λ v. vec_len v) ops in
          record {
            moves = moved (ap (λ h. h.1.0.now) w.self-is ∙ h.moves.stays.line)
                (c.push_reserved.ensures.capacity ∙ ap (λ v. vec_capacity v) ops ∙ h.moves.stays.room) (omega arith);
            read = rw at (name_reaches w.in-Name.field-0.now (op.Name (record { start = x.start; end = x.end }) y)
                g refl g.long h.read (λ st. ap (λ b. named b (take_many y st)) (sym g.holds))
                (rw (ops, w.op-is) at c.push_reserved.ensures.items));
          }
          )
      | term-in-Quoted+in_ok-arguments-in-Quoted w ↦ (
          let g = at_token s.line.now s.pos x (code.Quoted w.in-Quoted.field-0) r s.within w.in-Quoted.is in
          let h = w.in_ok-arguments-in-Quoted.ensures in
          let y = w.in_ok-arguments-in-Quoted.field-0 in
          let l = g.later in
          let o = g.long in
          let f = h.spares in
          let at = ap (λ h. h.1.1.0) w.self-is in
          let ops = ap (λ h. h.1.1.1.0) w.self-is in
          let n = ap (λ v. vec_len v) ops in
          record {
            moves = moved (ap (λ h. h.1.0.now) w.self-is ∙ h.moves.stays.line)
                (c.push_reserved.ensures.capacity ∙ ap (λ v. vec_capacity v) ops ∙ h.moves.stays.room) (omega arith);
            read = rw at (name_reaches (undouble false w.in-Quoted.field-0.now)
                (op.Quoted (record { start = x.start + 1; end = x.end - 1 }) y) g refl g.long h.read
                (λ st. ap (λ b. named (undouble false b) (take_many y st)) (sym g.holds.1))
                (rw (ops, w.op-is, w.inside.ensures) at c.push_reserved.ensures.items));
          }
          )
    ]

pub terms-loop-count-init : goal.terms-loop-count-init
terms-loop-count-init t c = record {
  passed = omega arith;
  spare = omega arith;
  stays = record { line = refl; room = refl };
  along = none_yet;
}

pub terms-returns-in_err-term : goal.terms-returns-in_err-term
terms-returns-in_err-term t c =
    let p = err_from_is_err_and c.from_residual.result c.from_residual.ensures.1 in
    let i = c.loop-count.invariant in
    let h = c.in_err-term.ensures in
    let a = i.stays.line in
    let m = h.moves.paid in
    let n = i.spare in
    rw (p.1, p.2) (record {
      moves = moved (h.moves.stays.line ∙ a) (h.moves.stays.room ∙ i.stays.room) (omega arith);
      spares = tt;
      read = none_more i.along (rw a at h.read);
    })

pub terms-loop-count-preserved : goal.terms-loop-count-preserved
terms-loop-count-preserved t c =
    let i = c.loop-count.invariant in
    let h = c.in_ok-term.ensures in
    let w = c.skip_spaces.ensures in
    let k = c.in-Comma.ensures in
    let a = i.stays.line in
    let b = h.moves.stays.line ∙ a in
    let whole = w.keeps.line ∙ b in
    let o = ap (λ v. vec_len v) w.keeps.ops in
    let m = h.moves.paid in
    let n = i.spare in
    let q = i.passed in
    let v = w.forward in
    let f = h.read.forward in
    record {
      passed = omega arith;
      spare = omega arith;
      stays = record {
        line = whole;
        room = ap (λ v. vec_capacity v) w.keeps.ops ∙ h.moves.stays.room ∙ i.stays.room;
      };
      along = rw w.keeps.ops (one_more c.skip_spaces.new.self.pos i.along (rw a at h.read) (rw b at w.spaces)
          (rw whole at k.value));
    }

pub terms-returns-in_default : goal.terms-returns-in_default
terms-returns-in_default t c =
    let i = c.loop-count.invariant in
    let h = c.in_ok-term.ensures in
    let w = c.skip_spaces.ensures in
    let a = i.stays.line in
    let b = h.moves.stays.line ∙ a in
    let whole = w.keeps.line ∙ b in
    let l = ap length whole in
    let o = ap (λ v. vec_len v) w.keeps.ops in
    let m = h.moves.paid in
    let n = i.spare in
    let q = i.passed in
    let v = w.forward in
    let f = h.read.forward in
    let j = c.skip_spaces.new.self.within in
    record {
      moves = moved whole (ap (λ v. vec_capacity v) w.keeps.ops ∙ h.moves.stays.room ∙ i.stays.room) (omega arith);
      spares = omega arith;
      read = rw w.keeps.ops (the_last c.skip_spaces.new.self.pos i.along (rw a at h.read) (rw b at w.spaces)
          (λ e. c.in_default.not-Comma ((rw whole at c.kind.ensures.value) ∙ e)) (omega arith) v (omega arith));
    }
