-- Terms in round brackets: a conjunction, or the arguments of a name.
use Rattle.std.proofs.Common.{◌≡◌, ℕ, zero, suc, ◌+◌, ◌-◌, ◌<◌, ◌≤◌, false, List, [], ◌∷◌, ◌++◌, length, get_or, drop}
use Rattle.std.proofs.Common.{replicate, Some, None, sym, refl, ap, ◌∙◌, arith}
use Rattle.tokens.specs.declared.kind.Kind.{Kind}
use Rattle.tokens.specs.declared.kind.Kind.TheVariants.{Small, Capital, Digit, Symbol, Solo, Quote, Opening, Closing}
use Rattle.tokens.specs.declared.kind.Kind.TheVariants.{Left, Right, Bar, Comma, Stop, Space, Stray}
use Rattle.tokens.specs.Bytes.{past, space}
use Rattle.tokens.specs.Token.{Token, opening, single, start_as, scan, spaced, nothing, got, or_else, scan_from}
use Rattle.tokens.specs.Scanning.{head_kind}
use Rattle.tokens.proofs.BytesProperties.{head_here, past_stops}
use Rattle.tokens.proofs.ScanningProperties.{scan_by_kind, scan_single}
use Rattle.terms.specs.Known.{comma_name}
use Rattle.grammar.specs.Written.{Written, Writtens, nil, with_last, app, conj, size}
use Rattle.grammar.specs.Machine.{onward, bad}
use Rattle.grammar.specs.Sentences.{Context, Holder, among, arguments, round, Place, operand, after, named, bracket}
use Rattle.grammar.specs.Sentences.{sentences}
use Rattle.grammar.specs.Sentences.{closing_in, right_in, bar_in, stop_in}
use Rattle.grammar.specs.Places.{taken_or, tail_of, operand_by, after_by}
use Rattle.reader.specs.declared.op.Op.{Op}
use Rattle.reader.specs.declared.op.Op.TheVariants as op
use Rattle.reader.specs.declared.fault.TermFault.{TermFault}
use Rattle.reader.specs.declared.fault.TermFault.TheVariants as term_fault
use Rattle.reader.specs.Reading.{Many}
use Rattle.reader.specs.Ops.{Stack, run, run_from, pushed}
use Rattle.reader.specs.Reading.{Admits, quote_open, Reaches, Breaks, Faulted, ManyReach, ManyBreak, ArgumentsReach}
use Rattle.reader.specs.Reading.{ArgumentsBreak}
use Rattle.reader.proofs.OpsProperties.{run_append, again, run_conjunctions, conj_of_all, size_with_last}
use Rattle.reader.proofs.BlameProperties.{fault_is_there, blamed_from_before, blamed_earlier, misplaced}
use Rattle.reader.proofs.ByteSteps.{tail_is_next, after_at, even_past_spaces, even_past_byte}
use Rattle.reader.proofs.FoundTokens.{breaks_there}
use Rattle.grammar.proofs.StepProperties.{any_count}
use Rattle.grammar.proofs.PlaceProperties.{operand_on}
use Rattle.grammar.proofs.NamedProperties.{named_open, named_else}
use Rattle.grammar.proofs.KindProperties.{no_space}

-- a token of one byte where a term must begin
pub mark_on : (m n : ℕ) (x : Context) (line : List ℕ) (a : ℕ) (k : Kind) (t : Token) → a < length line
    → head_kind (drop a line) ≡ k → (k ≡ Space → ⊥)
    → ((c : ℕ) → start_as k spaced c ≡ Some (single t))
    → onward sentences m (Some (operand n x)) (drop a line) ≡ operand_by n x (drop a line) (got t (drop (a + 1) line))
mark_on m n x line a k t l h s b =
    operand_on m n x (drop a line)
    ∙ ap (λ r. operand_by n x r (scan spaced r)) (sym (past_stops space line a l
    (no_space (get_or line a 0) (λ e. s (sym h ∙ head_here line a l ∙ e)))))
    ∙ ap (operand_by n x (drop a line))
    (scan_by_kind line a spaced k l h
    ∙ ap (λ p. or_else p nothing (λ q. scan_from q (drop (a + 1) line))) (b (get_or line a 0))
    ∙ scan_single t (drop (a + 1) line))

-- one more bracket, if one is left
pub enters : (m n : ℕ) (h : Holder) (s r : List ℕ) → 0 < n
    → taken_or n (bracket n h) s r ≡ onward sentences m (Some (operand (n - 1) (among h nil))) r
enters m zero h s r l = absurd (omega arith)
enters m (suc n) h s r l =
    let e : n ≡ suc n - 1 = omega arith in
    any_count (suc n) m (operand n (among h nil)) r
    ∙ ap (λ k. onward sentences m (Some (operand k (among h nil))) r) e

pub none_left : (n : ℕ) (h : Holder) (s r : List ℕ) → n ≡ 0 → taken_or n (bracket n h) s r ≡ bad n s
none_left zero h s r e = refl
none_left (suc n) h s r e = absurd (omega arith)

-- behind the terms: the byte that ends them
pub closed_on : (k : Kind) (m n : ℕ) (h : Holder) (p : Place) (line : List ℕ) (pos : ℕ) (y : Many)
    (before mid : List Op) (close : ℕ) (g : ManyReach n line pos y before mid)
    → Admits (among h nil) (drop pos line) → drop close line ≡ past space (drop y.end line)
    → k ≡ head_kind (drop close line)
    → after_by k g.last n (among h g.terms) (drop close line)
    ≡ taken_or n (Some p) (drop close line) (tail_of (drop close line))
    → onward sentences m (Some (operand n (among h nil))) (drop pos line)
    ≡ onward sentences m (Some p) (drop (close + 1) line)
closed_on k m n h p line pos y before mid close g d s j e =
    g.on m h nil d
    ∙ after_at m n g.last (among h g.terms) line y.end close k s j (λ i. refl)
    ∙ e ∙ any_count n m p (tail_of (drop close line))
    ∙ ap (λ r. onward sentences m (Some p) r) (tail_is_next line close)

-- any other byte behind a term
pub other_kind : (k : Kind) (t : Written) (n : ℕ) (h : Holder) (us : Writtens) (s : List ℕ) → (k ≡ Comma → ⊥)
    → (k ≡ Closing → closing_in h n (with_last us t) ≡ None) → (k ≡ Right → right_in h n (with_last us t) ≡ None)
    → (k ≡ Bar → bar_in h n (with_last us t) ≡ None) → (k ≡ Stop → stop_in h (with_last us t) ≡ None)
    → after_by k t n (among h us) s ≡ bad n s
other_kind Small t n h us s a b c d e = refl
other_kind Capital t n h us s a b c d e = refl
other_kind Digit t n h us s a b c d e = refl
other_kind Symbol t n h us s a b c d e = refl
other_kind Solo t n h us s a b c d e = refl
other_kind Quote t n h us s a b c d e = refl
other_kind Opening t n h us s a b c d e = refl
other_kind Closing t n h us s a b c d e = ap (λ o. taken_or n o s (tail_of s)) (b refl)
other_kind Left t n h us s a b c d e = refl
other_kind Right t n h us s a b c d e = ap (λ o. taken_or n o s (tail_of s)) (c refl)
other_kind Bar t n h us s a b c d e = ap (λ o. taken_or n o s (tail_of s)) (d refl)
other_kind Comma t n h us s a b c d e = absurd (a refl)
other_kind Stop t n h us s a b c d e = ap (λ o. taken_or n o s (tail_of s)) (e refl)
other_kind Space t n h us s a b c d e = refl
other_kind Stray t n h us s a b c d e = refl

pub unclosed_on : (m n : ℕ) (h : Holder) (line : List ℕ) (pos : ℕ) (y : Many) (before mid : List Op) (close : ℕ)
    (g : ManyReach n line pos y before mid)
    → Admits (among h nil) (drop pos line) → drop close line ≡ past space (drop y.end line)
    → ((head_kind (drop close line) ≡ Comma → ⊥)
    → after_by (head_kind (drop close line)) g.last n (among h g.terms) (drop close line)
    ≡ bad n (drop close line))
    → onward sentences m (Some (operand n (among h nil))) (drop pos line) ≡ bad n (drop close line)
unclosed_on m n h line pos y before mid close g d s e =
    g.on m h nil d
    ∙ after_at m n g.last (among h g.terms) line y.end close (head_kind (drop close line)) s refl (λ i. refl)
    ∙ e (λ i. g.no_comma (ap head_kind (sym s) ∙ i))

-- a conjunction is built of the terms on top
pub conj_built : (line : List ℕ) (mid : List Op) (count : ℕ) (ts : Writtens) (t : Written) (st : Stack)
    → run line mid ≡ pushed (with_last ts t) st → count ≡ suc (size ts)
    → run line (mid ++ replicate (count - 1) op.Conjunction) ≡ conj (with_last ts t) ∷ st
conj_built line mid count ts t st h c =
    let e : count - 1 ≡ size ts = omega arith in
    run_append line [] mid (replicate (count - 1) op.Conjunction)
    ∙ ap (λ z. run_from line z (replicate (count - 1) op.Conjunction)) h
    ∙ run_conjunctions line (count - 1) (pushed (with_last ts t) st)
    ∙ ap (λ j. again comma_name j (pushed (with_last ts t) st)) e
    ∙ conj_of_all ts t st

even_inside : (n : ℕ) (line : List ℕ) (a : ℕ) (y : Many) (before mid : List Op) (close : ℕ)
    → head_kind (drop a line) ≡ Opening → ManyReach n line (a + 1) y before mid
    → drop close line ≡ past space (drop y.end line) → quote_open line a ≡ quote_open line close
even_inside n line a y before mid close h g s =
    even_past_byte line a Opening (sym h) (λ e. cc) ∙ g.even ∙ even_past_spaces line y.end close s

-- a bracket where a term must begin
round_on : (m n : ℕ) (x : Context) (line : List ℕ) (a : ℕ) → a < length line → head_kind (drop a line) ≡ Opening
    → onward sentences m (Some (operand n x)) (drop a line)
    ≡ taken_or n (bracket n (round x)) (drop a line) (drop (a + 1) line)
round_on m n x line a l h = mark_on m n x line a Opening (opening false) l h (λ e. cc) (λ c. refl)

pub round_too_deep : {n : ℕ} {line : List ℕ} {a : ℕ} → a < length line → head_kind (drop a line) ≡ Opening → n ≡ 0
    → Breaks n line a (term_fault.Unexpected a n)
round_too_deep {n} {line} {a} l h e =
    breaks_there n line a a (term_fault.Unexpected a n)
    (misplaced line a n Opening h (λ e. cc) (λ e. cc)) refl (omega arith)
    (λ m x d. round_on m n x line a l h ∙ none_left n (round x) (drop a line) (drop (a + 1) line) e)

pub round_breaks : {n : ℕ} {line : List ℕ} {a : ℕ} {f : TermFault} → a < length line
    → head_kind (drop a line) ≡ Opening → 0 < n → ManyBreak (n - 1) line (a + 1) f → Breaks n line a f
round_breaks {n} {line} {a} {f} l h z g = record {
  left = g.left;
  on = λ m x d. round_on m n x line a l h ∙ enters m n (round x) (drop a line) (drop (a + 1) line) z
      ∙ g.on m (round x) nil (λ i. refl);
  blamed = blamed_earlier line a (a + 1) f g.left g.blamed
      (even_past_byte line a Opening (sym h) (λ e. cc));
  within = g.within;
}

pub round_reaches : {n : ℕ} {line : List ℕ} {a : ℕ} {y : Many} {before mid behind : List Op} {close : ℕ}
    → a < length line → head_kind (drop a line) ≡ Opening → 0 < n
    → ManyReach (n - 1) line (a + 1) y before mid → drop close line ≡ past space (drop y.end line)
    → y.end ≤ close → Closing ≡ head_kind (drop close line) → close < length line
    → behind ≡ mid ++ replicate (y.count - 1) op.Conjunction → Reaches n line a (close + 1) before behind
round_reaches {n} {line} {a} {y} {before} {mid} {behind} {close} l h z g s v k u b =
    let e : suc (n - 1) ≡ n = omega arith in
    let f = g.forward in
    let ts = with_last g.terms g.last in
    record {
      term = conj ts;
      on = λ m x d. round_on m n x line a l h ∙ enters m n (round x) (drop a line) (drop (a + 1) line) z
          ∙ closed_on Closing m (n - 1) (round x) (after (conj ts) (suc (n - 1)) x) line (a + 1) y before mid close g
          (λ i. refl) s k refl
          ∙ ap (λ j. onward sentences m (Some (after (conj ts) j x)) (drop (close + 1) line)) e;
      builds = ap (run line) b
          ∙ conj_built line mid y.count g.terms g.last (run line before) g.builds g.counted;
      even = even_inside (n - 1) line a y before mid close h g s
          ∙ even_past_byte line close Closing k (λ e. cc);
      forward = omega arith;
      within = omega arith;
    }

pub round_unclosed : {n : ℕ} {line : List ℕ} {a : ℕ} {y : Many} {before mid : List Op} {close : ℕ} {f : TermFault}
    → a < length line → head_kind (drop a line) ≡ Opening → 0 < n
    → ManyReach (n - 1) line (a + 1) y before mid → drop close line ≡ past space (drop y.end line)
    → close ≤ length line → (head_kind (drop close line) ≡ Closing → ⊥)
    → Faulted line close f (n - 1) → Breaks n line a f
round_unclosed {n} {line} {a} {y} {before} {mid} {close} {f} l h z g s v k b =
    let i = fault_is_there line close f (n - 1) b in
    record {
      left = n - 1;
      on = λ m x d. round_on m n x line a l h ∙ enters m n (round x) (drop a line) (drop (a + 1) line) z
          ∙ unclosed_on m (n - 1) (round x) line (a + 1) y before mid close g (λ i. refl) s
          (λ c. other_kind (head_kind (drop close line)) g.last (n - 1) (round x) g.terms (drop close line) c
          (λ e. absurd (k e)) (λ e. refl) (λ e. refl) (λ e. refl))
          ∙ ap (λ p. bad (n - 1) (drop p line)) (sym i);
      blamed = blamed_from_before line a close f (n - 1) b (even_inside (n - 1) line a y before mid close h g s);
      within = omega arith;
    }

-- a bracket directly behind a name
arguments_on : (m n : ℕ) (b : List ℕ) (x : Context) (line : List ℕ) (a : ℕ) → head_kind (drop a line) ≡ Opening
    → onward sentences m (Some (named b n x)) (drop a line)
    ≡ taken_or n (bracket n (arguments b x)) (drop a line) (drop (a + 1) line)
arguments_on m n b x line a h =
    named_open m n b x (drop a line) h
    ∙ ap (λ r. taken_or n (bracket n (arguments b x)) (drop a line) r) (tail_is_next line a)

pub no_arguments : {n : ℕ} {line : List ℕ} {a : ℕ} {y : Many} {before : List Op}
    → (head_kind (drop a line) ≡ Opening → ⊥) → a ≤ length line → y.end ≡ a → y.count ≡ 0
    → ArgumentsReach n line a y before before
no_arguments {n} {line} {a} {y} {before} h l e c = record {
  terms = nil;
  on = λ m b x. named_else m n b x (drop a line) h
      ∙ ap (λ p. onward sentences m (Some (after (app b nil) n x)) (drop p line)) (sym e);
  builds = refl;
  counted = c;
  even = ap (λ p. quote_open line p) (sym e);
  forward = omega arith;
  within = omega arith;
}

pub arguments_too_deep : {n : ℕ} {line : List ℕ} {a : ℕ} → a < length line → head_kind (drop a line) ≡ Opening → n ≡ 0
    → ArgumentsBreak n line a (term_fault.Unexpected a n)
arguments_too_deep {n} {line} {a} l h e = record {
  left = n;
  on = λ m b x. arguments_on m n b x line a h ∙ none_left n (arguments b x) (drop a line) (drop (a + 1) line) e;
  blamed = blamed_from_before line a a (term_fault.Unexpected a n) n
      (misplaced line a n Opening h (λ e. cc) (λ e. cc)) refl;
  within = omega arith;
}

pub arguments_break : {n : ℕ} {line : List ℕ} {a : ℕ} {f : TermFault} → head_kind (drop a line) ≡ Opening → 0 < n
    → ManyBreak (n - 1) line (a + 1) f → ArgumentsBreak n line a f
arguments_break {n} {line} {a} {f} h z g = record {
  left = g.left;
  on = λ m b x. arguments_on m n b x line a h ∙ enters m n (arguments b x) (drop a line) (drop (a + 1) line) z
      ∙ g.on m (arguments b x) nil (λ i. refl);
  blamed = blamed_earlier line a (a + 1) f g.left g.blamed
      (even_past_byte line a Opening (sym h) (λ e. cc));
  within = g.within;
}

pub arguments_reach : {n : ℕ} {line : List ℕ} {a : ℕ} {y z : Many} {before mid : List Op} {close : ℕ}
    → head_kind (drop a line) ≡ Opening → 0 < n
    → ManyReach (n - 1) line (a + 1) y before mid → drop close line ≡ past space (drop y.end line)
    → y.end ≤ close → Closing ≡ head_kind (drop close line) → close < length line
    → z.end ≡ close + 1 → z.count ≡ y.count → ArgumentsReach n line a z before mid
arguments_reach {n} {line} {a} {y} {z} {before} {mid} {close} h l g s v k u p q =
    let e : suc (n - 1) ≡ n = omega arith in
    let f = g.forward in
    let ts = with_last g.terms g.last in
    record {
      terms = ts;
      on = λ m b x. arguments_on m n b x line a h ∙ enters m n (arguments b x) (drop a line) (drop (a + 1) line) l
          ∙ closed_on Closing m (n - 1) (arguments b x) (after (app b ts) (suc (n - 1)) x) line (a + 1) y before mid
          close g (λ i. refl) s k refl
          ∙ ap (λ j. onward sentences m (Some (after (app b ts) j x)) (drop (close + 1) line)) e
          ∙ ap (λ p. onward sentences m (Some (after (app b ts) n x)) (drop p line)) (sym p);
      builds = g.builds;
      counted = q ∙ g.counted ∙ sym (size_with_last g.terms g.last);
      even = even_inside (n - 1) line a y before mid close h g s
          ∙ even_past_byte line close Closing k (λ e. cc) ∙ ap (λ p. quote_open line p) (sym p);
      forward = omega arith;
      within = omega arith;
    }

pub arguments_unclosed : {n : ℕ} {line : List ℕ} {a : ℕ} {y : Many} {before mid : List Op} {close : ℕ}
    {f : TermFault} → head_kind (drop a line) ≡ Opening → 0 < n
    → ManyReach (n - 1) line (a + 1) y before mid → drop close line ≡ past space (drop y.end line)
    → close ≤ length line → (head_kind (drop close line) ≡ Closing → ⊥)
    → Faulted line close f (n - 1) → ArgumentsBreak n line a f
arguments_unclosed {n} {line} {a} {y} {before} {mid} {close} {f} h z g s v k b =
    let i = fault_is_there line close f (n - 1) b in
    record {
      left = n - 1;
      on = λ m w x. arguments_on m n w x line a h ∙ enters m n (arguments w x) (drop a line) (drop (a + 1) line) z
          ∙ unclosed_on m (n - 1) (arguments w x) line (a + 1) y before mid close g (λ i. refl) s
          (λ c. other_kind (head_kind (drop close line)) g.last (n - 1) (arguments w x) g.terms
          (drop close line) c (λ e. absurd (k e)) (λ e. refl) (λ e. refl) (λ e. refl))
          ∙ ap (λ p. bad (n - 1) (drop p line)) (sym i);
      blamed = blamed_from_before line a close f (n - 1) b (even_inside (n - 1) line a y before mid close h g s);
      within = omega arith;
    }
