-- Lists in square brackets: the empty one, elements, and a tail.
use Rattle.std.proofs.Common.{◌≡◌, ℕ, suc, ◌+◌, ◌-◌, ◌<◌, ◌≤◌, List, [], ◌∷◌, ◌++◌, length, drop, replicate, Some, Ok}
use Rattle.std.proofs.Common.{Err, Result, sym, refl, ap, ◌∙◌, arith}
use Rattle.tokens.specs.declared.kind.Kind.{Kind}
use Rattle.tokens.specs.declared.kind.Kind.TheVariants.{Small, Capital, Digit, Symbol, Solo, Quote, Opening, Closing}
use Rattle.tokens.specs.declared.kind.Kind.TheVariants.{Left, Right, Bar, Comma, Stop, Space, Stray}
use Rattle.tokens.specs.Bytes.{past, space}
use Rattle.tokens.specs.Token.{left, right}
use Rattle.tokens.specs.Scanning.{head_kind}
use Rattle.terms.specs.Known.{dot_name}
use Rattle.grammar.specs.Written.{Written, Writtens, nil, with_last, list_of, empty_list, size}
use Rattle.grammar.specs.Machine.{onward, bad}
use Rattle.grammar.specs.Sentences.{Context, among, tail, square, operand, after, bracket, sentences}
use Rattle.grammar.specs.Places.{taken_or, tail_of, after_by}
use Rattle.reader.specs.declared.op.Op.{Op}
use Rattle.reader.specs.declared.op.Op.TheVariants as op
use Rattle.reader.specs.declared.fault.TermFault.{TermFault}
use Rattle.reader.specs.declared.fault.TermFault.TheVariants as term_fault
use Rattle.reader.specs.Reading.{Many}
use Rattle.reader.specs.Ops.{Stack, run, run_from, pushed}
use Rattle.reader.specs.Reading.{Admits, quote_open, Reaches, Breaks, TermRead, Faulted, ManyReach, ManyBreak}
use Rattle.reader.specs.Reading.{ElementsReach, ElementsBreak, ElementsRead}
use Rattle.reader.proofs.OpsProperties.{run_append, run_one_more, again, run_cells, list_of_pushed, size_with_last}
use Rattle.reader.proofs.BlameProperties.{fault_is_there, blamed_from_before, blamed_earlier, misplaced}
use Rattle.reader.proofs.ByteSteps.{tail_is_next, operand_past_spaces, after_at, even_past_spaces, even_past_byte}
use Rattle.reader.proofs.FoundTokens.{breaks_there}
use Rattle.reader.proofs.BracketSteps.{mark_on, enters, none_left, closed_on, other_kind, unclosed_on}
use Rattle.grammar.proofs.StepProperties.{any_count}

-- a square bracket where a term must begin
square_on : (m n : ℕ) (x : Context) (line : List ℕ) (a : ℕ) → a < length line → head_kind (drop a line) ≡ Left
    → onward sentences m (Some (operand n x)) (drop a line)
    ≡ taken_or n (bracket n (square x)) (drop a line) (drop (a + 1) line)
square_on m n x line a l h = mark_on m n x line a Left left l h (λ e. cc) (λ c. refl)

pub list_too_deep : {n : ℕ} {line : List ℕ} {a : ℕ} → a < length line → head_kind (drop a line) ≡ Left → n ≡ 0
    → Breaks n line a (term_fault.Unexpected a n)
list_too_deep {n} {line} {a} l h e =
    breaks_there n line a a (term_fault.Unexpected a n) (misplaced line a n Left h (λ e. cc) (λ e. cc)) refl
    (omega arith)
    (λ m x d. square_on m n x line a l h ∙ none_left n (square x) (drop a line) (drop (a + 1) line) e)

pub empty_reaches : {n : ℕ} {line : List ℕ} {a : ℕ} {before behind : List Op} {first : ℕ} → a < length line
    → head_kind (drop a line) ≡ Left → 0 < n
    → drop first line ≡ past space (drop (a + 1) line) → a + 1 ≤ first → Right ≡ head_kind (drop first line)
    → first < length line
    → behind ≡ before ++ op.EmptyList ∷ [] → Reaches n line a (first + 1) before behind
empty_reaches {n} {line} {a} {before} {behind} {first} l h z s v k u b =
    let e : suc (n - 1) ≡ n = omega arith in
    record {
      term = empty_list;
      on = λ m x d. square_on m n x line a l h ∙ enters m n (square x) (drop a line) (drop (a + 1) line) z
          ∙ operand_past_spaces m (n - 1) (among (square x) nil) (drop (a + 1) line)
          ∙ ap (λ r. onward sentences m (Some (operand (n - 1) (among (square x) nil))) r) (sym s)
          ∙ mark_on m (n - 1) (among (square x) nil) line first Right right u (sym k) (λ e. cc) (λ c. refl)
          ∙ any_count (n - 1) m (after empty_list (suc (n - 1)) x) (drop (first + 1) line)
          ∙ ap (λ j. onward sentences m (Some (after empty_list j x)) (drop (first + 1) line)) e;
      builds = ap (run line) b ∙ run_one_more line before op.EmptyList;
      even = even_past_byte line a Left (sym h) (λ e. cc) ∙ even_past_spaces line (a + 1) first s
          ∙ even_past_byte line first Right k (λ e. cc);
      forward = omega arith;
      within = omega arith;
    }

pub list_read : (n : ℕ) (line : List ℕ) (a z : ℕ) (before behind : List Op) (r : Result (Unit {0}) TermFault)
    → a < length line → head_kind (drop a line) ≡ Left → 0 < n
    → ElementsRead (n - 1) line (a + 1) z before behind r → TermRead n line a z before behind r
list_read n line a z before behind (Ok x) l h p g =
    let e : suc (n - 1) ≡ n = omega arith in
    let f = g.forward in
    record {
      term = g.term;
      on = λ m x d. square_on m n x line a l h ∙ enters m n (square x) (drop a line) (drop (a + 1) line) p ∙ g.on m x
          ∙ ap (λ j. onward sentences m (Some (after g.term j x)) (drop z line)) e;
      builds = g.builds;
      even = even_past_byte line a Left (sym h) (λ e. cc) ∙ g.even;
      forward = omega arith;
      within = g.within;
    }
list_read n line a z before behind (Err f) l h p g = record {
  left = g.left;
  on = λ m x d. square_on m n x line a l h ∙ enters m n (square x) (drop a line) (drop (a + 1) line) p ∙ g.on m x;
  blamed = blamed_earlier line a (a + 1) f g.left g.blamed (even_past_byte line a Left (sym h) (λ e. cc));
  within = g.within;
}

-- cells are built of the elements under the tail on top
list_built : (line : List ℕ) (mid : List Op) (count : ℕ) (ts : Writtens) (t z : Written) (st : Stack)
    → run line mid ≡ z ∷ pushed (with_last ts t) st → count ≡ suc (size ts)
    → run line (mid ++ replicate count op.ListCell) ≡ list_of (with_last ts t) z ∷ st
list_built line mid count ts t z st h c =
    let us = with_last ts t in
    run_append line [] mid (replicate count op.ListCell)
    ∙ ap (λ y. run_from line y (replicate count op.ListCell)) h
    ∙ run_cells line count (z ∷ pushed us st)
    ∙ ap (λ j. again dot_name j (z ∷ pushed us st)) (c ∙ sym (size_with_last ts t))
    ∙ list_of_pushed us z st

-- no `]` stands where the elements begin
admitted : (line : List ℕ) (pos : ℕ) (x : Context) → (head_kind (past space (drop pos line)) ≡ Right → ⊥)
    → Admits (among (square x) nil) (drop pos line)
admitted line pos x h e = absurd (h e)

pub elements_break : {n : ℕ} {line : List ℕ} {pos : ℕ} {f : TermFault}
    → (head_kind (past space (drop pos line)) ≡ Right → ⊥) → ManyBreak n line pos f → ElementsBreak n line pos f
elements_break {n} {line} {pos} {f} h g = record {
  left = g.left;
  on = λ m x. g.on m (square x) nil
      (admitted line pos x h);
  blamed = g.blamed;
  within = g.within;
}

pub elements_reach : {n : ℕ} {line : List ℕ} {pos : ℕ} {y : Many} {before mid more behind : List Op} {close : ℕ}
    → (head_kind (past space (drop pos line)) ≡ Right → ⊥)
    → ManyReach n line pos y before mid → drop close line ≡ past space (drop y.end line) → y.end ≤ close
    → Right ≡ head_kind (drop close line) → close < length line
    → more ≡ mid ++ op.EmptyList ∷ [] → behind ≡ more ++ replicate y.count op.ListCell
    → ElementsReach n line pos (close + 1) before behind
elements_reach {n} {line} {pos} {y} {before} {mid} {more} {behind} {close} h g s v k u p q =
    let f = g.forward in
    let ts = with_last g.terms g.last in
    record {
      term = list_of ts empty_list;
      on = λ m x. closed_on Right m n (square x) (after (list_of ts empty_list) (suc n) x) line pos y before mid close
          g (admitted line pos x h) s k refl;
      builds = ap (run line) q
          ∙ list_built line more y.count g.terms g.last empty_list (run line before)
          (ap (run line) p ∙ run_one_more line mid op.EmptyList ∙ ap (λ st. empty_list ∷ st) g.builds) g.counted;
      even = g.even ∙ even_past_spaces line y.end close s ∙ even_past_byte line close Right k (λ e. cc);
      forward = omega arith;
      within = omega arith;
    }

pub elements_unclosed : {n : ℕ} {line : List ℕ} {pos : ℕ} {y : Many} {before mid : List Op} {close : ℕ}
    {f : TermFault} → (head_kind (past space (drop pos line)) ≡ Right → ⊥)
    → ManyReach n line pos y before mid → drop close line ≡ past space (drop y.end line) → close ≤ length line
    → (head_kind (drop close line) ≡ Right → ⊥) → (head_kind (drop close line) ≡ Bar → ⊥) → Faulted line close f n
    → ElementsBreak n line pos f
elements_unclosed {n} {line} {pos} {y} {before} {mid} {close} {f} h g s v k j b =
    let i = fault_is_there line close f n b in
    record {
      left = n;
      on = λ m x. unclosed_on m n (square x) line pos y before mid close g (admitted line pos x h) s
          (λ c. other_kind (head_kind (drop close line)) g.last n (square x) g.terms (drop close line) c
          (λ e. refl) (λ e. absurd (k e)) (λ e. absurd (j e)) (λ e. refl))
          ∙ ap (λ p. bad n (drop p line)) (sym i);
      blamed = blamed_from_before line pos close f n b (g.even ∙ even_past_spaces line y.end close s);
      within = omega arith;
    }

-- behind `|`
bar_on : (m n : ℕ) (x : Context) (line : List ℕ) (pos : ℕ) (y : Many) (before mid : List Op) (close : ℕ)
    → (head_kind (past space (drop pos line)) ≡ Right → ⊥)
    → (g : ManyReach n line pos y before mid) → drop close line ≡ past space (drop y.end line)
    → Bar ≡ head_kind (drop close line)
    → onward sentences m (Some (operand n (among (square x) nil))) (drop pos line)
    ≡ onward sentences m (Some (operand n (tail (with_last g.terms g.last) x))) (drop (close + 1) line)
bar_on m n x line pos y before mid close h g s k =
    closed_on Bar m n (square x) (operand n (tail (with_last g.terms g.last) x)) line pos y before mid close g
    (admitted line pos x h) s k refl

bar_even : (n : ℕ) (line : List ℕ) (pos : ℕ) (y : Many) (before mid : List Op) (close : ℕ)
    → ManyReach n line pos y before mid → drop close line ≡ past space (drop y.end line)
    → Bar ≡ head_kind (drop close line) → quote_open line pos ≡ quote_open line (close + 1)
bar_even n line pos y before mid close g s k = g.even ∙ even_past_spaces line y.end close s
    ∙ even_past_byte line close Bar k (λ e. cc)

pub tail_breaks : (close : ℕ) {n : ℕ} {line : List ℕ} {pos : ℕ} {y : Many} {before mid : List Op} {f : TermFault}
    → (head_kind (past space (drop pos line)) ≡ Right → ⊥)
    → ManyReach n line pos y before mid → drop close line ≡ past space (drop y.end line)
    → Bar ≡ head_kind (drop close line) → Breaks n line (close + 1) f → ElementsBreak n line pos f
tail_breaks close {n} {line} {pos} {y} {before} {mid} {f} h g s k t = record {
  left = t.left;
  on = λ m x. bar_on m n x line pos y before mid close h g s k
      ∙ t.on m (tail (with_last g.terms g.last) x) (λ e. refl);
  blamed = blamed_earlier line pos (close + 1) f t.left t.blamed (bar_even n line pos y before mid close g s k);
  within = t.within;
}

pub tail_reaches : {n : ℕ} {line : List ℕ} {pos : ℕ} {y : Many} {before mid more behind : List Op} {close e last : ℕ}
    → (head_kind (past space (drop pos line)) ≡ Right → ⊥)
    → ManyReach n line pos y before mid → drop close line ≡ past space (drop y.end line) → y.end ≤ close
    → Bar ≡ head_kind (drop close line)
    → Reaches n line (close + 1) e mid more → drop last line ≡ past space (drop e line) → e ≤ last
    → Right ≡ head_kind (drop last line) → last < length line
    → behind ≡ more ++ replicate y.count op.ListCell → ElementsReach n line pos (last + 1) before behind
tail_reaches {n} {line} {pos} {y} {before} {mid} {more} {behind} {close} {e} {last} h g s v k t r w j u b =
    let f = g.forward in
    let i = t.forward in
    let ts = with_last g.terms g.last in
    record {
      term = list_of ts t.term;
      on = λ m x. bar_on m n x line pos y before mid close h g s k ∙ t.on m (tail ts x) (λ i. refl)
          ∙ after_at m n t.term (tail ts x) line e last Right r j (λ i. refl)
          ∙ any_count n m (after (list_of ts t.term) (suc n) x) (tail_of (drop last line))
          ∙ ap (λ z. onward sentences m (Some (after (list_of ts t.term) (suc n) x)) z) (tail_is_next line last);
      builds = ap (run line) b
          ∙ list_built line more y.count g.terms g.last t.term (run line before)
          (t.builds ∙ ap (λ st. t.term ∷ st) g.builds) g.counted;
      even = bar_even n line pos y before mid close g s k ∙ t.even ∙ even_past_spaces line e last r
          ∙ even_past_byte line last Right j (λ e. cc);
      forward = omega arith;
      within = omega arith;
    }

-- any other byte behind the tail
other_in_tail : (k : Kind) (t : Written) (n : ℕ) (us : Writtens) (x : Context) (s : List ℕ) → (k ≡ Right → ⊥)
    → after_by k t n (tail us x) s ≡ bad n s
other_in_tail Small t n us x s h = refl
other_in_tail Capital t n us x s h = refl
other_in_tail Digit t n us x s h = refl
other_in_tail Symbol t n us x s h = refl
other_in_tail Solo t n us x s h = refl
other_in_tail Quote t n us x s h = refl
other_in_tail Opening t n us x s h = refl
other_in_tail Closing t n us x s h = refl
other_in_tail Left t n us x s h = refl
other_in_tail Right t n us x s h = absurd (h refl)
other_in_tail Bar t n us x s h = refl
other_in_tail Comma t n us x s h = refl
other_in_tail Stop t n us x s h = refl
other_in_tail Space t n us x s h = refl
other_in_tail Stray t n us x s h = refl

pub tail_unclosed : (close : ℕ) {n : ℕ} {line : List ℕ} {pos : ℕ} {y : Many} {before mid more : List Op} {e last : ℕ}
    {f : TermFault} → (head_kind (past space (drop pos line)) ≡ Right → ⊥)
    → ManyReach n line pos y before mid → drop close line ≡ past space (drop y.end line)
    → Bar ≡ head_kind (drop close line)
    → Reaches n line (close + 1) e mid more → drop last line ≡ past space (drop e line) → last ≤ length line
    → (head_kind (drop last line) ≡ Right → ⊥) → Faulted line last f n
    → ElementsBreak n line pos f
tail_unclosed close {n} {line} {pos} {y} {before} {mid} {more} {e} {last} {f} h g s k t r u j b =
    let i = fault_is_there line last f n b in
    let ts = with_last g.terms g.last in
    record {
      left = n;
      on = λ m x. bar_on m n x line pos y before mid close h g s k ∙ t.on m (tail ts x) (λ i. refl)
          ∙ after_at m n t.term (tail ts x) line e last (head_kind (drop last line)) r refl (λ i. refl)
          ∙ other_in_tail (head_kind (drop last line)) t.term n ts x (drop last line) j
          ∙ ap (λ p. bad n (drop p line)) (sym i);
      blamed = blamed_from_before line pos last f n b (bar_even n line pos y before mid close g s k ∙ t.even
          ∙ even_past_spaces line e last r);
      within = omega arith;
    }
