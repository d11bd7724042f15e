use Rattle.std.proofs.Common.{◌+◌, ◌-◌, ◌*◌, ◌≤◌, length, vec_items, vec_len}
use Rattle.reader.specs.Along.{Along}
use Rattle.reader.specs.Cursors.{Stays}
use Rattle.reader.proofs.cursor.Cursor.+reading_terms.Given as goal

abbrev pub decreases-terms : goal.decreases-terms
decreases-terms l = 8 * l.left + 7

abbrev pub decreases-term : goal.decreases-term
decreases-term l = 8 * l.left + 6

abbrev pub decreases-arguments : goal.decreases-arguments
decreases-arguments l = 8 * l.left + 1

abbrev pub decreases-bracketed : goal.decreases-bracketed
decreases-bracketed l = 8 * l.left + 1

abbrev pub decreases-list : goal.decreases-list
decreases-list l = 8 * l.left + 1

abbrev pub decreases-elements : goal.decreases-elements
decreases-elements l = 8 * l.left + 8

abbrev pub invariant-terms-loop-count : goal.invariant-terms-loop-count
invariant-terms-loop-count l = record {
  passed : l.count + l.initial.self.pos ≤ l.self.pos;
  spare : vec_len l.self.ops + l.count + l.initial.self.pos ≤ vec_len l.initial.self.ops + l.self.pos;
  stays : Stays l.initial.self l.self;
  along : Along l.left l.initial.self.line.now l.initial.self.pos l.self.pos l.count
      (vec_items l.initial.self.ops) (vec_items l.self.ops);
}

abbrev pub decreases-terms-loop-count : goal.decreases-terms-loop-count
decreases-terms-loop-count l = length l.self.line.now - l.self.pos
