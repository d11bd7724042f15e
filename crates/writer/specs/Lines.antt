-- A line of the code as its bytes, the variables seen and the limit, and what writing to it does.
use Rattle.std.specs.Prelude.{◌≡◌, ℕ, ◌+◌, ◌<◌, Bool, cond, List, ◌++◌, length, take, is_ok, Ok, Err, vec_items, Result}
use Rattle.std.specs.Prelude.{nat_le}
use Rattle.names.specs.declared.names.Names.{Names}
use Rattle.names.specs.View.{list}
use Rattle.terms.specs.declared.row.Row.{Row}
use Rattle.terms.specs.Rows.{meaning}
use Rattle.terms.specs.RowViews.{row_nodes}
use Rattle.terms.specs.Term.{Term}
use Rattle.writing.specs.Writing.{text_at}
use Rattle.writer.specs.declared.fault.DoesNotFit.{DoesNotFit}
use Rattle.writer.specs.declared.line.LineWriter.{LineWriter}
use Rattle.writer.specs.declared.piece.Spot.{Spot}
use Rattle.writer.specs.Numbered.{numbered}
use Rattle.writer.specs.Pieces.{spot_of}
use Rattle.writer.specs.Shown.{firsts, shown}

abbrev pub line_bytes : LineWriter → List ℕ
line_bytes w = vec_items w.bytes

abbrev pub line_seen : LineWriter → List ℕ
line_seen w = vec_items w.seen

abbrev pub line_limit : LineWriter → ℕ
line_limit w = w.limit

-- whether the text still fits
abbrev pub fits : LineWriter → List ℕ → Bool
fits w s = nat_le (length (line_bytes w) + length s) (line_limit w)

-- all was written, and these variables are then seen; or it does not fit
abbrev pub Told : ℕ → List ℕ → List ℕ → List ℕ → List ℕ → List ℕ → Result (Unit {0}) DoesNotFit → Type 0
Told limit bytes text firsts after seen (Ok u) = (after ≡ bytes ++ text) × (seen ≡ firsts)
Told limit bytes text firsts after seen (Err e) = limit < length bytes + length text

-- behind the bytes and the variables that were there
pub record Put (limit : ℕ) (bytes seen text firsts after known : List ℕ) (r : Result (Unit {0}) DoesNotFit)
    : Type 0 where
  pub kept : take (length bytes) after ≡ bytes
  pub held : take (length seen) known ≡ seen
  pub told : Told limit bytes text firsts after known r

pub record Puts (before after : LineWriter) (text firsts : List ℕ) (r : Result (Unit {0}) DoesNotFit) : Type 0 where
  pub limit : line_limit after ≡ line_limit before
  pub put : Put (line_limit before) (line_bytes before) (line_seen before) text firsts
      (line_bytes after) (line_seen after) r

-- bytes with no new variable
abbrev pub PutsBytes : LineWriter → LineWriter → List ℕ → Result (Unit {0}) DoesNotFit → Type 0
PutsBytes before after text r = Puts before after text (line_seen before) r

-- a term at a spot, its variables numbered as they come
abbrev pub PutsTerm : LineWriter → LineWriter → Spot → Term → Result (Unit {0}) DoesNotFit → Type 0
PutsTerm before after p t r =
    Puts before after (text_at (spot_of p) (numbered (line_seen before) t)) (firsts (line_seen before) t) r

-- a term by itself, as it is shown
abbrev pub PutsShown : LineWriter → LineWriter → Term → Result (Unit {0}) DoesNotFit → Type 0
PutsShown before after t r = Puts before after (shown (line_seen before) t) (firsts (line_seen before) t) r

-- The text was added and these variables are then seen, or nothing changed: Ok exactly where the text fits.
pub record Added (before after : LineWriter) (text firsts : List ℕ) (r : Result (Unit {0}) DoesNotFit) : Type 0 where
  pub value : is_ok r ≡ fits before text
  pub bytes : line_bytes after ≡ cond (is_ok r) (line_bytes before ++ text) (line_bytes before)
  pub seen : line_seen after ≡ cond (is_ok r) firsts (line_seen before)
  pub limit : line_limit after ≡ line_limit before

abbrev pub TextAdded : LineWriter → LineWriter → List ℕ → Result (Unit {0}) DoesNotFit → Type 0
TextAdded before after text r = Added before after text (line_seen before) r

abbrev pub TermAdded : LineWriter → LineWriter → Term → Result (Unit {0}) DoesNotFit → Type 0
TermAdded before after t r = Added before after (shown (line_seen before) t) (firsts (line_seen before) t) r

-- the term at a place of a row
abbrev pub term_of : Names → Row → ℕ → Term
term_of names row at = meaning (list names) (row_nodes row) at
