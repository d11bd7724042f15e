-- What the functions of the reader answer, by the grammar's reader of bytes:
-- how it goes on behind what they read, whatever is open around it.
use Rattle.std.specs.Prelude.{◌≡◌, ℕ, suc, ◌<◌, ◌≤◌, Bool, true, false, ◌⊎◌, List, ◌∷◌, length, drop, Some, Ok}
use Rattle.std.specs.Prelude.{Err, Result, ◌≢◌}
use Rattle.tokens.specs.declared.kind.Kind.TheVariants.{Right, Comma, Stray}
use Rattle.tokens.specs.declared.scan.TokenFault.TheVariants as token_fault
use Rattle.tokens.specs.Bytes.{past, space}
use Rattle.tokens.specs.Token.{scan, joined, endless}
use Rattle.tokens.specs.Scanning.{head_kind}
use Rattle.grammar.specs.Written.{Written, Writtens, nil, cons, join, with_last, app, size}
use Rattle.grammar.specs.Machine.{onward, bad}
use Rattle.grammar.specs.Sentences.{Context, Holder, head, among, tail, body, goals, arguments, round, square}
use Rattle.grammar.specs.Sentences.{sentences, operand, after, named}
use Rattle.grammar.specs.Faults.{inside_quote}
use Rattle.reader.specs.declared.op.Op.{Op}
use Rattle.reader.specs.declared.fault.TermFault.{TermFault}
use Rattle.reader.specs.declared.fault.TermFault.TheVariants as term_fault
use Rattle.reader.specs.Faults.{term_place}
use Rattle.reader.specs.Ops.{run, pushed}

-- square brackets with no term in them yet
abbrev pub bare_square : Holder → Writtens → Bool
bare_square (body h) us = false
bare_square goals us = false
bare_square (arguments a x) us = false
bare_square (round x) us = false
bare_square (square x) nil = true
bare_square (square x) (cons u us) = false

abbrev pub is_bare : Context → Bool
is_bare head = false
is_bare (among h us) = bare_square h us
is_bare (tail us x) = false

-- where a term must begin: not at the `]` of an empty list
abbrev pub Admits : Context → List ℕ → Type 0
Admits x s = head_kind (past space s) ≡ Right → is_bare x ≡ false

-- whether the bytes from a place on end inside a quoted name
abbrev pub quote_open : List ℕ → ℕ → Bool
quote_open line i = inside_quote false (drop i line)

-- a term leads from pos to e, whatever is open around it
pub record Reaches (n : ℕ) (line : List ℕ) (pos e : ℕ) (before behind : List Op) : Type 0 where
  pub term : Written
  pub on : (m : ℕ) (x : Context) → Admits x (drop pos line)
      → onward sentences m (Some (operand n x)) (drop pos line)
      ≡ onward sentences m (Some (after term n x)) (drop e line)
  pub builds : run line behind ≡ term ∷ run line before
  pub even : quote_open line pos ≡ quote_open line e
  pub forward : pos < e
  pub within : e ≤ length line

-- which fault it is: of a token, or of the term with so many brackets left
abbrev pub Blamed : List ℕ → ℕ → TermFault → ℕ → Type 0
Blamed line pos (term_fault.Token (token_fault.Stray p)) n = (p < length line) × (head_kind (drop p line) ≡ Stray)
Blamed line pos (term_fault.Token (token_fault.Unclosed p))
    n = (scan joined (drop p line) ≡ endless) ⊎ ((p ≡ length line) × (quote_open line pos ≡ true))
Blamed line pos (term_fault.Unexpected p k) n =
    (k ≡ n) × (scan joined (drop p line) ≢ endless) × (p < length line → head_kind (drop p line) ≡ Stray
    → ⊥) × (length line ≤ p → quote_open line pos ≡ false)

-- no term does, and the fault's place is that of the first bad byte
pub record Breaks (n : ℕ) (line : List ℕ) (pos : ℕ) (f : TermFault) : Type 0 where
  pub left : ℕ
  pub on : (m : ℕ) (x : Context) → Admits x (drop pos line)
      → onward sentences m (Some (operand n x)) (drop pos line) ≡ bad left (drop (term_place f) line)
  pub blamed : Blamed line pos f left
  pub within : term_place f ≤ length line

-- of the byte at a place where nothing that may stand there stands
abbrev pub Faulted : List ℕ → ℕ → TermFault → ℕ → Type 0
Faulted line p (term_fault.Token (token_fault.Stray q))
    n = (q ≡ p) × (p < length line) × (head_kind (drop p line) ≡ Stray)
Faulted line p (term_fault.Token (token_fault.Unclosed q)) n = (q ≡ p) × (scan joined (drop p line) ≡ endless)
Faulted line p (term_fault.Unexpected q k) n =
    (q ≡ p) × (k ≡ n) × (scan joined (drop p line) ≢ endless) × (p < length line → head_kind (drop p line) ≡ Stray
    → ⊥)

-- the place that is reached is e
abbrev pub TermRead : ℕ → List ℕ → ℕ → ℕ → List Op → List Op → Result (Unit {0}) TermFault → Type 0
TermRead n line pos e before behind (Ok x) = Reaches n line pos e before behind
TermRead n line pos e before behind (Err f) = Breaks n line pos f

-- where terms end that stand one behind another, and how many they are
pub record Many : Type 0 where
  pub end : ℕ
  pub count : ℕ

-- one or more terms with commas between: all but the last, and the last
pub record ManyReach (n : ℕ) (line : List ℕ) (pos : ℕ) (y : Many) (before behind : List Op) : Type 0 where
  pub terms : Writtens
  pub last : Written
  pub on : (m : ℕ) (h : Holder) (us : Writtens) → Admits (among h us) (drop pos line)
      → onward sentences m (Some (operand n (among h us))) (drop pos line)
      ≡ onward sentences m (Some (after last n (among h (join us terms)))) (drop y.end line)
  pub builds : run line behind ≡ pushed (with_last terms last) (run line before)
  pub counted : y.count ≡ suc (size terms)
  pub no_comma : head_kind (past space (drop y.end line)) ≡ Comma → ⊥
  pub no_space : past space (drop y.end line) ≡ drop y.end line
  pub even : quote_open line pos ≡ quote_open line y.end
  pub forward : pos < y.end
  pub within : y.end ≤ length line

pub record ManyBreak (n : ℕ) (line : List ℕ) (pos : ℕ) (f : TermFault) : Type 0 where
  pub left : ℕ
  pub on : (m : ℕ) (h : Holder) (us : Writtens) → Admits (among h us) (drop pos line)
      → onward sentences m (Some (operand n (among h us))) (drop pos line) ≡ bad left (drop (term_place f) line)
  pub blamed : Blamed line pos f left
  pub within : term_place f ≤ length line

abbrev pub TermsRead : ℕ → List ℕ → ℕ → ℕ → List Op → List Op → Result ℕ TermFault → Type 0
TermsRead n line pos e before behind (Ok k) = ManyReach n line pos (record { end = e; count = k }) before behind
TermsRead n line pos e before behind (Err f) = ManyBreak n line pos f

-- the arguments directly behind a name, or none
pub record ArgumentsReach (n : ℕ) (line : List ℕ) (pos : ℕ) (y : Many) (before behind : List Op) : Type 0 where
  pub terms : Writtens
  pub on : (m : ℕ) (a : List ℕ) (x : Context)
      → onward sentences m (Some (named a n x)) (drop pos line)
      ≡ onward sentences m (Some (after (app a terms) n x)) (drop y.end line)
  pub builds : run line behind ≡ pushed terms (run line before)
  pub counted : y.count ≡ size terms
  pub even : quote_open line pos ≡ quote_open line y.end
  pub forward : pos ≤ y.end
  pub within : y.end ≤ length line

pub record ArgumentsBreak (n : ℕ) (line : List ℕ) (pos : ℕ) (f : TermFault) : Type 0 where
  pub left : ℕ
  pub on : (m : ℕ) (a : List ℕ) (x : Context)
      → onward sentences m (Some (named a n x)) (drop pos line) ≡ bad left (drop (term_place f) line)
  pub blamed : Blamed line pos f left
  pub within : term_place f ≤ length line

abbrev pub ArgumentsRead : ℕ → List ℕ → ℕ → ℕ → List Op → List Op → Result ℕ TermFault → Type 0
ArgumentsRead n line pos e before behind (Ok k) =
    ArgumentsReach n line pos (record { end = e; count = k }) before behind
ArgumentsRead n line pos e before behind (Err f) = ArgumentsBreak n line pos f

-- the elements of a list, its tail, and the closing bracket
pub record ElementsReach (n : ℕ) (line : List ℕ) (pos e : ℕ) (before behind : List Op) : Type 0 where
  pub term : Written
  pub on : (m : ℕ) (x : Context)
      → onward sentences m (Some (operand n (among (square x) nil))) (drop pos line)
      ≡ onward sentences m (Some (after term (suc n) x)) (drop e line)
  pub builds : run line behind ≡ term ∷ run line before
  pub even : quote_open line pos ≡ quote_open line e
  pub forward : pos < e
  pub within : e ≤ length line

pub record ElementsBreak (n : ℕ) (line : List ℕ) (pos : ℕ) (f : TermFault) : Type 0 where
  pub left : ℕ
  pub on : (m : ℕ) (x : Context)
      → onward sentences m (Some (operand n (among (square x) nil))) (drop pos line)
      ≡ bad left (drop (term_place f) line)
  pub blamed : Blamed line pos f left
  pub within : term_place f ≤ length line

abbrev pub ElementsRead : ℕ → List ℕ → ℕ → ℕ → List Op → List Op → Result (Unit {0}) TermFault → Type 0
ElementsRead n line pos e before behind (Ok x) = ElementsReach n line pos e before behind
ElementsRead n line pos e before behind (Err f) = ElementsBreak n line pos f
