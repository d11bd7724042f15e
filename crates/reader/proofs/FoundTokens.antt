-- What a term that begins with the token found is: how the reader of bytes goes on, and what is built.
use Rattle.std.proofs.Common.{◌≡◌, ℕ, ◌<◌, ◌≤◌, false, List, [], ◌∷◌, ◌++◌, length, drop, Some, None, Ok, Err, Result}
use Rattle.std.proofs.Common.{sym, refl, ap, ◌∙◌, subst, inr, arith}
use Rattle.tokens.specs.declared.kind.Kind.TheVariants.{Right, Stray}
use Rattle.tokens.specs.declared.scan.Token.{Token as Code}
use Rattle.tokens.specs.declared.scan.Token.TheVariants as code
use Rattle.tokens.specs.declared.scan.Found.{Found}
use Rattle.tokens.specs.declared.scan.TokenFault.{TokenFault}
use Rattle.tokens.specs.declared.scan.TokenFault.TheVariants as token_fault
use Rattle.tokens.specs.Bytes.{past, space}
use Rattle.tokens.specs.Token.{Token, name, scan, spaced, joined, got}
use Rattle.tokens.specs.Scanning.{head_kind, from, scan_of, Holds, Length, TokenRead}
use Rattle.tokens.proofs.BytesProperties.{drop_past_the_end}
use Rattle.tokens.proofs.ScanningProperties.{scan_by_kind}
use Rattle.grammar.specs.Written.{Written, nil, cons, app}
use Rattle.grammar.specs.Machine.{onward, bad}
use Rattle.grammar.specs.Sentences.{Context, head, among, tail, body, goals, arguments, round, square, operand, after}
use Rattle.grammar.specs.Sentences.{named, at_empty, sentences}
use Rattle.grammar.specs.Places.{taken_or, operand_by}
use Rattle.reader.specs.declared.op.Op.{Op}
use Rattle.reader.specs.declared.fault.TermFault.{TermFault}
use Rattle.reader.specs.declared.fault.TermFault.TheVariants as term_fault
use Rattle.reader.specs.Reading.{Many}
use Rattle.reader.specs.Ops.{Stack, apply, run, pushed, take_many, named as named_of}
use Rattle.reader.specs.Reading.{Admits, is_bare, quote_open, Reaches, Breaks, Faulted, TermRead}
use Rattle.reader.specs.Reading.{ArgumentsReach, ArgumentsBreak}
use Rattle.reader.proofs.OpsProperties.{run_one_more, taken_of_pushed}
use Rattle.reader.proofs.BlameProperties.{fault_is_there, blamed_from_before, blamed_earlier, ends_there}
use Rattle.reader.proofs.ByteSteps.{operand_past_spaces, admits_past_spaces, even_past_spaces}
use Rattle.reader.proofs.TokenKinds.{mark_kind, begins_as, found_no_stray}
use Rattle.grammar.proofs.StepProperties.{any_count}
use Rattle.grammar.proofs.PlaceProperties.{operand_on}
use Rattle.grammar.proofs.QuoteParity.{scan_even, scan_endless_open, spaces_even, endless_any_edge}

-- the token k stands from a to e, and before it from pos on only spaces
pub record At (line : List ℕ) (pos : ℕ) (k : Code) (a e : ℕ) : Type 0 where
  pub is : scan spaced (drop a line) ≡ scan_of k (drop e line)
  pub holds : Holds line k a e
  pub long : Length k a e (length line)
  pub within : e ≤ length line
  pub starts : drop a line ≡ from line pos
  pub later : pos ≤ a

-- no token ends before it begins
pub token_length : (k : Code) (a e n : ℕ) → Length k a e n → a ≤ e
token_length (code.Name s) a e n h = omega arith
token_length (code.Quoted s) a e n h = omega arith
token_length (code.Variable s) a e n h = omega arith
token_length (code.Integer s) a e n h = omega arith
token_length code.Neck a e n h = omega arith
token_length code.Opening a e n h = omega arith
token_length code.Closing a e n h = omega arith
token_length code.Left a e n h = omega arith
token_length code.Right a e n h = omega arith
token_length code.Bar a e n h = omega arith
token_length code.Comma a e n h = omega arith
token_length code.Stop a e n h = omega arith
token_length code.End a e n h = let i = h.0 in let j = h.1 in omega arith

pub at_token : (line : List ℕ) (pos : ℕ) (f : Found) (k : Code) → TokenRead line pos (Ok f) → pos ≤ length line
    → f.token ≡ k → At line pos k f.start f.end
at_token line pos f k h l e = record {
  is = h.0.is ∙ ap (λ k. scan_of k (drop f.end line)) e;
  holds = subst (λ k. Holds line k f.start f.end) e h.0.holds;
  long = subst (λ k. Length k f.start f.end (length line)) e h.0.long;
  within = h.0.within;
  starts = h.1;
  later = h.2 l;
}

-- the token that was found behind the spaces
pub operand_at : (m n : ℕ) (x : Context) (line : List ℕ) (pos : ℕ) (k : Code) (a e : ℕ)
    → scan spaced (drop a line) ≡ scan_of k (drop e line) → drop a line ≡ from line pos
    → onward sentences m (Some (operand n x)) (drop pos line) ≡ operand_by n x (drop a line) (scan_of k (drop e line))
operand_at m n x line pos k a e is starts =
    operand_on m n x (drop pos line) ∙ ap (λ r. operand_by n x r (scan spaced r)) (sym starts)
    ∙ ap (operand_by n x (drop a line)) is

operand_found : (m n : ℕ) (x : Context) (line : List ℕ) (pos : ℕ) (k : Code) (a e : ℕ) → At line pos k a e
    → onward sentences m (Some (operand n x)) (drop pos line) ≡ operand_by n x (drop a line) (scan_of k (drop e line))
operand_found m n x line pos k a e g = operand_at m n x line pos k a e g.is g.starts

even_before : (line : List ℕ) (pos : ℕ) (k : Code) (a e : ℕ) → At line pos k a e
    → quote_open line pos ≡ quote_open line a
even_before line pos k a e g = even_past_spaces line pos a g.starts

pub even_past_token : (line : List ℕ) (pos : ℕ) (k : Code) (a e : ℕ) (t : Token)
    → scan spaced (drop a line) ≡ scan_of k (drop e line) → drop a line ≡ from line pos
    → scan_of k (drop e line) ≡ got t (drop e line)
    → quote_open line pos ≡ quote_open line e
even_past_token line pos k a e t is starts h = even_past_spaces line pos a starts
    ∙ scan_even spaced (drop a line) t (drop e line) (is ∙ h)

even_found : (line : List ℕ) (pos : ℕ) (k : Code) (a e : ℕ) (t : Token) → At line pos k a e
    → scan_of k (drop e line) ≡ got t (drop e line)
    → quote_open line pos ≡ quote_open line e
even_found line pos k a e t g h = even_past_token line pos k a e t g.is g.starts h

-- a variable or an integer
pub leaf_reaches : {n : ℕ} {line : List ℕ} {pos : ℕ} {k : Code} {a e : ℕ} (t : Token) (w : Written) (o : Op)
    {before behind : List Op}
    → At line pos k a e → scan_of k (drop e line) ≡ got t (drop e line) → a < e
    → ((x : Context) → operand_by n x (drop a line) (got t (drop e line))
    ≡ onward sentences n (Some (after w n x)) (drop e line))
    → apply line o (run line before) ≡ w ∷ run line before → behind ≡ before ++ o ∷ []
    → Reaches n line pos e before behind
leaf_reaches {n} {line} {pos} {k} {a} {e} t w o {before} {behind} g h l p b i =
    let v = g.later in
    record {
      term = w;
      on = λ m x d. operand_found m n x line pos k a e g ∙ ap (operand_by n x (drop a line)) h ∙ p x
          ∙ any_count n m (after w n x) (drop e line);
      builds = ap (run line) i ∙ run_one_more line before o ∙ b;
      even = even_found line pos k a e t g h;
      forward = omega arith;
      within = g.within;
    }

-- a name and its arguments
pub name_reaches : {n : ℕ} {line : List ℕ} {pos : ℕ} {k : Code} {a e : ℕ} (b : List ℕ) {y : Many} (o : Op)
    {before mid behind : List Op}
    → At line pos k a e → scan_of k (drop e line) ≡ got (name b) (drop e line) → a < e
    → ArgumentsReach n line e y before mid
    → ((st : Stack) → apply line o st ≡ named_of b (take_many y.count st)) → behind ≡ mid ++ o ∷ []
    → Reaches n line pos y.end before behind
name_reaches {n} {line} {pos} {k} {a} {e} b {y} o {before} {mid} {behind} g h l r p i =
    let v = g.later in
    let f = r.forward in
    record {
      term = app b r.terms;
      on = λ m x d. operand_found m n x line pos k a e g ∙ ap (operand_by n x (drop a line)) h
          ∙ any_count n m (named b n x) (drop e line) ∙ r.on m b x;
      builds = ap (run line) i ∙ run_one_more line mid o ∙ p (run line mid)
          ∙ ap (λ st. named_of b (take_many y.count st)) r.builds
          ∙ ap (λ z. named_of b (take_many z (pushed r.terms (run line before)))) r.counted
          ∙ ap (named_of b) (taken_of_pushed r.terms (run line before));
      even = even_found line pos k a e (name b) g h ∙ r.even;
      forward = omega arith;
      within = r.within;
    }

pub name_breaks : {n : ℕ} {line : List ℕ} {pos : ℕ} {k : Code} {a e : ℕ} (b : List ℕ) {f : TermFault}
    → At line pos k a e → scan_of k (drop e line) ≡ got (name b) (drop e line) → ArgumentsBreak n line e f
    → Breaks n line pos f
name_breaks {n} {line} {pos} {k} {a} {e} b {f} g h r = record {
  left = r.left;
  on = λ m x d. operand_found m n x line pos k a e g ∙ ap (operand_by n x (drop a line)) h
      ∙ any_count n m (named b n x) (drop e line) ∙ r.on m b x;
  blamed = blamed_earlier line pos e f r.left r.blamed (even_found line pos k a e (name b) g h);
  within = r.within;
}

-- what begins at a begins at pos, with spaces before it
admits_later : (line : List ℕ) (pos a : ℕ) (x : Context) → drop a line ≡ from line pos → Admits x (drop pos line)
    → Admits x (drop a line)
admits_later line pos a x s d = subst (λ r. Admits x r) (sym s) (admits_past_spaces x (drop pos line) d)

operand_later : (m n : ℕ) (x : Context) (line : List ℕ) (pos a : ℕ) → drop a line ≡ from line pos
    → onward sentences m (Some (operand n x)) (drop pos line) ≡ onward sentences m (Some (operand n x)) (drop a line)
operand_later m n x line pos a s = operand_past_spaces m n x (drop pos line)
    ∙ ap (λ r. onward sentences m (Some (operand n x)) r) (sym s)

pub read_later : (n : ℕ) (line : List ℕ) (pos : ℕ) (k : Code) (a e z : ℕ) (before behind : List Op)
    (r : Result (Unit {0}) TermFault)
    → At line pos k a e → TermRead n line a z before behind r → TermRead n line pos z before behind r
read_later n line pos k a e z before behind (Ok x) g h =
    let v = g.later in
    let w = h.forward in
    record {
      term = h.term;
      on = λ m x d. operand_later m n x line pos a g.starts ∙ h.on m x (admits_later line pos a x g.starts d);
      builds = h.builds;
      even = even_before line pos k a e g ∙ h.even;
      forward = omega arith;
      within = h.within;
    }
read_later n line pos k a e z before behind (Err f) g h = record {
  left = h.left;
  on = λ m x d. operand_later m n x line pos a g.starts ∙ h.on m x (admits_later line pos a x g.starts d);
  blamed = blamed_earlier line pos a f h.left h.blamed (even_before line pos k a e g);
  within = h.within;
}

-- a fault at the place p, by what stands there
pub breaks_there : (n : ℕ) (line : List ℕ) (pos p : ℕ) (f : TermFault) → Faulted line p f n
    → quote_open line pos ≡ quote_open line p → p ≤ length line
    → ((m : ℕ) (x : Context) → Admits x (drop pos line)
    → onward sentences m (Some (operand n x)) (drop pos line) ≡ bad n (drop p line))
    → Breaks n line pos f
breaks_there n line pos p f h e l o =
    let i = fault_is_there line p f n h in
    record {
      left = n;
      on = λ m x d. o m x d ∙ ap (λ p. bad n (drop p line)) (sym i);
      blamed = blamed_from_before line pos p f n h e;
      within = omega arith;
    }

pub neck_breaks : {n : ℕ} {line : List ℕ} {pos a e : ℕ} {f : TermFault} → At line pos code.Neck a e
    → Faulted line e f n → Breaks n line pos f
neck_breaks {n} {line} {pos} {a} {e} {f} g h =
    breaks_there n line pos e f h (even_found line pos code.Neck a e _ g refl) g.within
    (λ m x d. operand_found m n x line pos code.Neck a e g)

-- a token stands at p that may not stand there
pub found_misplaced : (line : List ℕ) (p n : ℕ) (t : Token) (r : List ℕ) → scan spaced (drop p line) ≡ got t r
    → Faulted line p (term_fault.Unexpected p n) n
found_misplaced line p n t r e = (
  refl,
  refl,
  (λ h. let y = sym (endless_any_edge joined spaced (drop p line) h)
      ∙ e in cc),
  λ l h. found_no_stray line p t r e l h,
)

pub mark_breaks : (n : ℕ) (line : List ℕ) (pos : ℕ) (k : Code) (a e : ℕ) (t : Token) → At line pos k a e
    → scan_of k (drop e line) ≡ got t (drop e line) → a < e
    → ((x : Context) → Admits x (drop pos line)
    → operand_by n x (drop a line) (got t (drop e line)) ≡ bad n (drop a line))
    → Breaks n line pos (term_fault.Unexpected a n)
mark_breaks n line pos k a e t g h l p =
    let w = g.within in
    breaks_there n line pos a (term_fault.Unexpected a n) (found_misplaced line a n t (drop e line) (g.is ∙ h))
    (even_before line pos k a e g) (omega arith)
    (λ m x d. operand_found m n x line pos k a e g ∙ ap (operand_by n x (drop a line)) h ∙ p x d)

-- where no list is empty, no `]` can stand
no_empty : (n : ℕ) (x : Context) → is_bare x ≡ false → at_empty n x ≡ None
no_empty n head h = refl
no_empty n (among (body w) nil) h = refl
no_empty n (among goals nil) h = refl
no_empty n (among (arguments b x) nil) h = refl
no_empty n (among (round x) nil) h = refl
no_empty n (among (square x) nil) h = cc
no_empty n (among w (cons u us)) h = refl
no_empty n (tail us x) h = refl

pub right_breaks : {n : ℕ} {line : List ℕ} {pos a e : ℕ} → At line pos code.Right a e
    → Breaks n line pos (term_fault.Unexpected a n)
right_breaks {n} {line} {pos} {a} {e} g =
    let k : head_kind (past space (drop pos line)) ≡ Right = ap head_kind (sym g.starts)
    ∙ begins_as (drop a line) Right (ap mark_kind g.is) (λ e. cc) in
    mark_breaks n line pos code.Right a e _ g refl g.long
    (λ x d. ap (λ o. taken_or n o (drop a line) (drop e line)) (no_empty n x (d k)))

pub end_breaks : {n : ℕ} {line : List ℕ} {pos a e : ℕ} → At line pos code.End a e
    → Breaks n line pos (term_fault.Unexpected a n)
end_breaks {n} {line} {pos} {a} {e} g =
    let l = g.long.0 in
    breaks_there n line pos a (term_fault.Unexpected a n) (ends_there line a n (omega arith))
    (even_before line pos code.End a e g) (omega arith)
    (λ m x d. operand_found m n x line pos code.End a e g)

-- no token was found
pub token_breaks : (n : ℕ) (line : List ℕ) (pos : ℕ) (f : TokenFault) → TokenRead line pos (Err f)
    → Breaks n line pos (term_fault.Token f)
token_breaks n line pos (token_fault.Stray p) h =
    let l = h.2 in
    record {
      left = n;
      on = λ m x d. operand_on m n x (drop pos line) ∙ ap (λ r. operand_by n x r (scan spaced r)) (sym h.0)
          ∙ ap (operand_by n x (drop p line)) (scan_by_kind line p spaced Stray h.2 h.3);
      blamed = (h.2, h.3);
      within = omega arith;
    }
token_breaks n line pos (token_fault.Unclosed p) h =
    let l = h.0 in
    record {
      left = n;
      on = λ m x d. operand_on m n x (drop pos line) ∙ ap (operand_by n x (from line pos)) h.1
          ∙ ap (bad n) (sym (drop_past_the_end line p (omega arith)));
      blamed = inr (h.0, spaces_even (drop pos line) ∙ scan_endless_open spaced (from line pos) h.1);
      within = omega arith;
    }
