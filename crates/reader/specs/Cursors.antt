-- What the methods of a cursor do with it, and what they answer.
use Rattle.std.specs.Prelude.{◌≡◌, ◌≢◌, ℕ, ◌+◌, ◌<◌, ◌≤◌, List, [], length, drop, Ok, Err, Result}
use Rattle.std.specs.Prelude.{vec_items, vec_len, vec_capacity}
use Rattle.tokens.specs.declared.kind.Kind.{Kind}
use Rattle.tokens.specs.Bytes.{past, space}
use Rattle.tokens.specs.Scanning.{head_kind}
use Rattle.reader.specs.declared.cursor.Cursor.{Cursor}
use Rattle.reader.specs.declared.fault.TermFault.{TermFault}
use Rattle.reader.specs.declared.sentence.Shape.{Shape}
use Rattle.reader.specs.Reading.{Faulted, TermRead, TermsRead, ArgumentsRead, ElementsRead}
use Rattle.reader.specs.Parts.{NeckRead, GoalsRead, RuleJudged, QueryJudged}

-- at the first byte of the line, with no steps
pub record Starts (line : List ℕ) (c : Cursor) : Type 0 where
  pub line_is : c.line.now ≡ line
  pub place : c.pos ≡ 0
  pub empty : vec_items c.ops ≡ []

-- a byte of this kind stands at the place
pub record IsAt (k : Kind) (c : Cursor) : Type 0 where
  pub within : c.pos < length c.line.now
  pub kind : head_kind (drop c.pos c.line.now) ≡ k

-- the cursor stays on its line, with its steps in their memory
pub record Stays (c c' : Cursor) : Type 0 where
  pub line : c'.line.now ≡ c.line.now
  pub room : vec_capacity c'.ops ≡ vec_capacity c.ops

-- it adds no more steps than it passes bytes
pub record Moves (c c' : Cursor) : Type 0 where
  pub stays : Stays c c'
  pub paid : vec_len c'.ops + c.pos ≤ vec_len c.ops + c'.pos

-- it keeps its line and its steps
pub record Keeps (c c' : Cursor) : Type 0 where
  pub line : c'.line.now ≡ c.line.now
  pub ops : c'.ops ≡ c.ops

-- it passes spaces and no more
pub record Skips (c c' : Cursor) : Type 0 where
  pub keeps : Keeps c c'
  pub spaces : drop c'.pos c.line.now ≡ past space (drop c.pos c.line.now)
  pub forward : c.pos ≤ c'.pos

-- the byte at the place is of this kind and is passed, or what is wrong with it is told
abbrev pub Passed : Kind → ℕ → List ℕ → ℕ → ℕ → Result (Unit {0}) TermFault → Type 0
Passed k n line pos e (Ok x) = (e ≡ pos + 1) × (pos < length line) × (k ≡ head_kind (drop pos line))
Passed k n line pos e (Err f) = (e ≡ pos) × (head_kind (drop pos line) ≢ k) × Faulted line pos f n

pub record Passes (k : Kind) (n : ℕ) (c c' : Cursor) (r : Result (Unit {0}) TermFault) : Type 0 where
  pub keeps : Keeps c c'
  pub read : Passed k n c.line.now c.pos c'.pos r

-- there is room for one step more for each of the terms that were read, but for so many
abbrev pub Spares : ℕ → Cursor → Cursor → Result ℕ TermFault → Type 0
Spares k c c' (Ok count) = vec_len c'.ops + count + c.pos ≤ vec_len c.ops + c'.pos + k
Spares k c c' (Err f) = Unit {0}

-- a term is read, or what is wrong with it is told
pub record TermReads (n : ℕ) (c c' : Cursor) (r : Result (Unit {0}) TermFault) : Type 0 where
  pub moves : Moves c c'
  pub read : TermRead n c.line.now c.pos c'.pos (vec_items c.ops) (vec_items c'.ops) r

-- terms with commas between, and how many
pub record TermsReads (n : ℕ) (c c' : Cursor) (r : Result ℕ TermFault) : Type 0 where
  pub moves : Moves c c'
  pub spares : Spares 1 c c' r
  pub read : TermsRead n c.line.now c.pos c'.pos (vec_items c.ops) (vec_items c'.ops) r

-- the arguments of a name, and how many
pub record ArgumentsReads (n : ℕ) (c c' : Cursor) (r : Result ℕ TermFault) : Type 0 where
  pub moves : Moves c c'
  pub spares : Spares 0 c c' r
  pub read : ArgumentsRead n c.line.now c.pos c'.pos (vec_items c.ops) (vec_items c'.ops) r

-- the elements and the end of a list whose bracket is at the place
pub record ElementsReads (n : ℕ) (c c' : Cursor) (r : Result (Unit {0}) TermFault) : Type 0 where
  pub moves : Moves c c'
  pub read : ElementsRead n c.line.now (c.pos + 1) c'.pos (vec_items c.ops) (vec_items c'.ops) r

-- the neck; no steps are added
pub record NeckReads (c c' : Cursor) (r : Result (Unit {0}) TermFault) : Type 0 where
  pub keeps : Keeps c c'
  pub read : NeckRead c.line.now c.pos c'.pos r

-- goals and the final stop
pub record GoalsReads (c c' : Cursor) (r : Result (Unit {0}) TermFault) : Type 0 where
  pub stays : Stays c c'
  pub read : GoalsRead c.line.now c.pos (vec_items c.ops) (vec_items c'.ops) r

-- a whole line as a rule
pub record RuleReads (c c' : Cursor) (r : Result Shape TermFault) : Type 0 where
  pub stays : Stays c c'
  pub read : RuleJudged c.line.now (vec_items c'.ops) r

-- and as a query
pub record QueryReads (c c' : Cursor) (r : Result (Unit {0}) TermFault) : Type 0 where
  pub stays : Stays c c'
  pub read : QueryJudged c.line.now (vec_items c'.ops) r
