-- From the parts of a line to the whole: goals and the final stop, a fact, a rule, a query.
use Rattle.std.proofs.Common.{◌≡◌, ℕ, ◌+◌, ◌-◌, ◌<◌, ◌≤◌, List, [], ◌∷◌, ◌++◌, length, get_or, drop, replicate, Some}
use Rattle.std.proofs.Common.{None, Option, Ok, Err, Result, sym, refl, ap, ◌∙◌, arith}
use Rattle.tokens.specs.declared.kind.Kind.{Kind}
use Rattle.tokens.specs.declared.kind.Kind.TheVariants.{Small, Capital, Digit, Symbol, Solo, Quote, Opening, Closing}
use Rattle.tokens.specs.declared.kind.Kind.TheVariants.{Left, Right, Bar, Comma, Stop, Space, Stray}
use Rattle.tokens.specs.Bytes.{past, space}
use Rattle.tokens.specs.Scanning.{head_kind}
use Rattle.tokens.proofs.BytesProperties.{drop_here}
use Rattle.grammar.specs.Written.{Written, nil, with_last, conj, Sentence, fact, rule, query}
use Rattle.grammar.specs.Grammar.{a_rule, a_query, brackets}
use Rattle.grammar.specs.Machine.{onward, bad}
use Rattle.grammar.specs.Sentences.{head, among, body, goals, operand, after, done, sentences}
use Rattle.grammar.specs.Places.{tail_of, after_by}
use Rattle.grammar.specs.Theorem.{judged}
use Rattle.grammar.proofs.StepProperties.{any_count}
use Rattle.grammar.proofs.PlaceProperties.{done_on_end, done_on_more, first_on}
use Rattle.grammar.proofs.ReadingProperties.{read_is_text}
use Rattle.reader.specs.declared.op.Op.{Op}
use Rattle.reader.specs.declared.op.Op.TheVariants as op
use Rattle.reader.specs.declared.fault.TermFault.{TermFault}
use Rattle.reader.specs.Reading.{Many}
use Rattle.reader.specs.Faults.{line_of}
use Rattle.reader.specs.Ops.{run}
use Rattle.reader.specs.Reading.{Admits, quote_open, Reaches, Breaks, Faulted, ManyReach, ManyBreak}
use Rattle.reader.specs.Sentence.{IsFact, IsRule, IsQuery, LineFails}
use Rattle.reader.specs.Parts.{NeckReaches, NeckBreaks, holder_of, whole_of, GoalsReach, GoalsBreak, GoalsRead}
use Rattle.reader.specs.Parts.{QueryJudged}
use Rattle.reader.proofs.BlameProperties.{fault_is_there, blamed_from_before, blamed_earlier}
use Rattle.reader.proofs.ByteSteps.{tail_is_next, after_at, even_past_spaces, even_past_byte}
use Rattle.reader.proofs.BracketSteps.{closed_on, other_kind, unclosed_on, conj_built}
use Rattle.reader.proofs.LineFaults.{line_fails}

-- behind the final stop
more_on : (m : ℕ) (d : Sentence) (line : List ℕ) (e : ℕ) → e < length line
    → onward sentences m (Some (done d)) (drop e line) ≡ bad brackets (drop e line)
more_on m d line e l = done_on_more m d (drop e line) (get_or line e 0) (drop (e + 1) line) (drop_here line e l)

-- no bracket is open around the goals, so that every term may begin there
admitted : (o : Option Written) (s : List ℕ) → Admits (among (holder_of o) nil) s
admitted None s e = refl
admitted (Some h) s e = refl

stop_on : (m : ℕ) (o : Option Written) (line : List ℕ) (pos : ℕ) (y : Many) (before mid : List Op) (stop : ℕ)
    (g : ManyReach brackets line pos y before mid)
    → drop stop line ≡ past space (drop y.end line) → Stop ≡ head_kind (drop stop line)
    → onward sentences m (Some (operand brackets (among (holder_of o) nil))) (drop pos line)
    ≡ onward sentences m (Some (done (whole_of o (conj (with_last g.terms g.last))))) (drop (stop + 1) line)
stop_on m None line pos y before mid stop g s k =
    closed_on Stop m brackets goals (done (query (conj (with_last g.terms g.last)))) line pos y before mid stop
    g (admitted None (drop pos line)) s k refl
stop_on m (Some h) line pos y before mid stop g s k =
    closed_on Stop m brackets (body h) (done (rule h (conj (with_last g.terms g.last)))) line pos y before mid
    stop g (admitted (Some h) (drop pos line)) s k refl

pub goals_reach : (stop : ℕ) {line : List ℕ} {pos : ℕ} {y : Many} {before mid behind : List Op}
    → ManyReach brackets line pos y before mid
    → drop stop line ≡ past space (drop y.end line) → Stop ≡ head_kind (drop stop line) → drop (stop + 1) line ≡ []
    → behind ≡ mid ++ replicate (y.count - 1) op.Conjunction → GoalsReach line pos before behind
goals_reach stop {line} {pos} {y} {before} {mid} {behind} g s k e b = record {
  term = conj (with_last g.terms g.last);
  on = λ m o. stop_on m o line pos y before mid stop g s k
      ∙ done_on_end m (whole_of o (conj (with_last g.terms g.last))) (drop (stop + 1) line) e;
  builds = ap (run line) b
      ∙ conj_built line mid y.count g.terms g.last (run line before) g.builds g.counted;
}

pub goals_break : {line : List ℕ} {pos : ℕ} {f : TermFault} → ManyBreak brackets line pos f → GoalsBreak line pos f
goals_break {line} {pos} {f} g = record {
  left = g.left;
  on = λ m o. g.on m (holder_of o) nil (admitted o (drop pos line));
  blamed = g.blamed;
  within = g.within;
}

goals_fault : (line : List ℕ) (pos p : ℕ) (f : TermFault) → Faulted line p f brackets
    → quote_open line pos ≡ quote_open line p → p ≤ length line
    → ((m : ℕ) (o : Option Written)
    → onward sentences m (Some (operand brackets (among (holder_of o) nil))) (drop pos line)
    ≡ bad brackets (drop p line))
    → GoalsBreak line pos f
goals_fault line pos p f h e l w =
    let i = fault_is_there line p f brackets h in
    record {
      left = brackets;
      on = λ m o. w m o ∙ ap (λ p. bad brackets (drop p line)) (sym i);
      blamed = blamed_from_before line pos p f brackets h e;
      within = omega arith;
    }

pub goals_go_on : (stop : ℕ) (f : TermFault) {line : List ℕ} {pos : ℕ} {y : Many} {before mid : List Op}
    → ManyReach brackets line pos y before mid
    → drop stop line ≡ past space (drop y.end line) → Stop ≡ head_kind (drop stop line) → stop + 1 < length line
    → Faulted line (stop + 1) f brackets → GoalsBreak line pos f
goals_go_on stop f {line} {pos} {y} {before} {mid} g s k l b =
    goals_fault line pos (stop + 1) f b (g.even ∙ even_past_spaces line y.end stop s
    ∙ even_past_byte line stop Stop k (λ e. cc)) (omega arith)
    (λ m o. stop_on m o line pos y before mid stop g s k
    ∙ more_on m (whole_of o (conj (with_last g.terms g.last))) line (stop + 1) l)

not_ended : (m : ℕ) (o : Option Written) (line : List ℕ) (pos : ℕ) (y : Many) (before mid : List Op) (stop : ℕ)
    → ManyReach brackets line pos y before mid
    → drop stop line ≡ past space (drop y.end line) → (head_kind (drop stop line) ≡ Stop → ⊥)
    → onward sentences m (Some (operand brackets (among (holder_of o) nil))) (drop pos line)
    ≡ bad brackets (drop stop line)
not_ended m None line pos y before mid stop g s k =
    unclosed_on m brackets goals line pos y before mid stop g (admitted None (drop pos line)) s
    (λ c. other_kind (head_kind (drop stop line)) g.last brackets goals g.terms (drop stop line) c (λ e. refl)
    (λ e. refl) (λ e. refl) (λ e. absurd (k e)))
not_ended m (Some h) line pos y before mid stop g s k =
    unclosed_on m brackets (body h) line pos y before mid stop g (admitted (Some h) (drop pos line)) s
    (λ c. other_kind (head_kind (drop stop line)) g.last brackets (body h) g.terms (drop stop line) c
    (λ e. refl) (λ e. refl) (λ e. refl) (λ e. absurd (k e)))

pub goals_not_ended : (stop : ℕ) (f : TermFault) {line : List ℕ} {pos : ℕ} {y : Many} {before mid : List Op}
    → ManyReach brackets line pos y before mid
    → drop stop line ≡ past space (drop y.end line) → stop ≤ length line → (head_kind (drop stop line) ≡ Stop → ⊥)
    → Faulted line stop f brackets → GoalsBreak line pos f
goals_not_ended stop f {line} {pos} {y} {before} {mid} g s l k b =
    goals_fault line pos stop f b (g.even ∙ even_past_spaces line y.end stop s) l
    (λ m o. not_ended m o line pos y before mid stop g s k)

-- a query
pub query_read : {line : List ℕ} {ops behind : List Op} → ops ≡ [] → (head_kind line ≡ Space → ⊥)
    → GoalsReach line 0 ops behind → IsQuery line behind
query_read {line} {ops} {behind} z h g = record {
  goals = g.term;
  text = read_is_text a_query line (query g.term) (first_on a_query 0 line h ∙ g.on 0 None);
  builds = g.builds ∙ ap (λ os. g.term ∷ run line os) z;
}

pub query_fails : (line : List ℕ) (f : TermFault) → (head_kind line ≡ Space → ⊥) → GoalsBreak line 0 f
    → LineFails a_query line (line_of f)
query_fails line f h g = line_fails a_query line f g.left h (first_on a_query 0 line h ∙ g.on 0 None) g.blamed
    g.within

pub query_judged : (line : List ℕ) {ops : List Op} (behind : List Op) (r : Result (Unit {0}) TermFault) → ops ≡ []
    → (head_kind line ≡ Space → ⊥) → GoalsRead line 0 ops behind r → QueryJudged line behind r
query_judged line behind (Ok x) z h g = query_read z h g
query_judged line behind (Err f) z h g = query_fails line f h g

-- a head
pub head_fails : (line : List ℕ) (f : TermFault) → (head_kind line ≡ Space → ⊥) → Breaks brackets line 0 f
    → LineFails a_rule line (line_of f)
head_fails line f h g = line_fails a_rule line f g.left h (first_on a_rule 0 line h ∙ g.on 0 head (λ e. refl))
    g.blamed g.within

head_on : (line : List ℕ) (e : ℕ) (before mid : List Op) (g : Reaches brackets line 0 e before mid)
    → (head_kind line ≡ Space → ⊥)
    → judged a_rule line ≡ onward sentences 0 (Some (after g.term brackets head)) (drop e line)
head_on line e before mid g h = first_on a_rule 0 line h ∙ g.on 0 head (λ i. refl)

fact_on : (line : List ℕ) (e next : ℕ) (before mid : List Op) (g : Reaches brackets line 0 e before mid)
    → (head_kind line ≡ Space → ⊥)
    → drop next line ≡ past space (drop e line) → Stop ≡ head_kind (drop next line)
    → judged a_rule line ≡ onward sentences 0 (Some (done (fact g.term))) (drop (next + 1) line)
fact_on line e next before mid g h s k =
    head_on line e before mid g h
    ∙ after_at 0 brackets g.term head line e next Stop s k (λ e. cc)
    ∙ any_count brackets 0 (done (fact g.term)) (tail_of (drop next line))
    ∙ ap (λ r. onward sentences 0 (Some (done (fact g.term))) r) (tail_is_next line next)

pub fact_read : (next : ℕ) {line : List ℕ} {e : ℕ} {before mid : List Op} → before ≡ []
    → Reaches brackets line 0 e before mid → (head_kind line ≡ Space → ⊥)
    → drop next line ≡ past space (drop e line) → Stop ≡ head_kind (drop next line) → drop (next + 1) line ≡ []
    → IsFact line mid
fact_read next {line} {e} {before} {mid} z g h s k d = record {
  head = g.term;
  text = read_is_text a_rule line (fact g.term) (fact_on line e next before mid g h s k
      ∙ done_on_end 0 (fact g.term) (drop (next + 1) line) d);
  builds = g.builds ∙ ap (λ os. g.term ∷ run line os) z;
}

rule_fault : (line : List ℕ) (p : ℕ) (f : TermFault) → (head_kind line ≡ Space → ⊥) → Faulted line p f brackets
    → quote_open line 0 ≡ quote_open line p → p ≤ length line
    → judged a_rule line ≡ bad brackets (drop p line) → LineFails a_rule line (line_of f)
rule_fault line p f h b e l j =
    let i = fault_is_there line p f brackets b in
    line_fails a_rule line f brackets h (j ∙ ap (λ p. bad brackets (drop p line)) (sym i))
    (blamed_from_before line 0 p f brackets b e) (omega arith)

pub fact_goes_on : (next : ℕ) (f : TermFault) {line : List ℕ} {e : ℕ} {before mid : List Op}
    → Reaches brackets line 0 e before mid → (head_kind line ≡ Space → ⊥)
    → drop next line ≡ past space (drop e line) → Stop ≡ head_kind (drop next line) → next + 1 < length line
    → Faulted line (next + 1) f brackets → LineFails a_rule line (line_of f)
fact_goes_on next f {line} {e} {before} {mid} g h s k l b =
    rule_fault line (next + 1) f h b (g.even ∙ even_past_spaces line e next s
    ∙ even_past_byte line next Stop k (λ e. cc)) (omega arith)
    (fact_on line e next before mid g h s k ∙ more_on 0 (fact g.term) line (next + 1) l)

-- any other byte behind a head
other_in_head : (k : Kind) (t : Written) (n : ℕ) (s : List ℕ) → (k ≡ Stop → ⊥) → (k ≡ Symbol → ⊥)
    → after_by k t n head s ≡ bad n s
other_in_head Small t n s h g = refl
other_in_head Capital t n s h g = refl
other_in_head Digit t n s h g = refl
other_in_head Symbol t n s h g = absurd (g refl)
other_in_head Solo t n s h g = refl
other_in_head Quote t n s h g = refl
other_in_head Opening t n s h g = refl
other_in_head Closing t n s h g = refl
other_in_head Left t n s h g = refl
other_in_head Right t n s h g = refl
other_in_head Bar t n s h g = refl
other_in_head Comma t n s h g = refl
other_in_head Stop t n s h g = absurd (h refl)
other_in_head Space t n s h g = refl
other_in_head Stray t n s h g = refl

pub head_goes_on : (next : ℕ) (f : TermFault) {line : List ℕ} {e : ℕ} {before mid : List Op}
    → Reaches brackets line 0 e before mid → (head_kind line ≡ Space → ⊥)
    → drop next line ≡ past space (drop e line) → next ≤ length line → (head_kind (drop next line) ≡ Stop → ⊥)
    → (head_kind (drop next line) ≡ Symbol → ⊥)
    → Faulted line next f brackets → LineFails a_rule line (line_of f)
head_goes_on next f {line} {e} {before} {mid} g h s l p q b =
    rule_fault line next f h b (g.even ∙ even_past_spaces line e next s) l
    (head_on line e before mid g h
    ∙ after_at 0 brackets g.term head line e next (head_kind (drop next line)) s refl (λ i. absurd (q i))
    ∙ other_in_head (head_kind (drop next line)) g.term brackets (drop next line) p q)

-- a head and a neck
pub neck_fails : (next : ℕ) (f : TermFault) {line : List ℕ} {e : ℕ} {before mid : List Op}
    → Reaches brackets line 0 e before mid → (head_kind line ≡ Space → ⊥)
    → drop next line ≡ past space (drop e line) → NeckBreaks line next f → LineFails a_rule line (line_of f)
neck_fails next f {line} {e} {before} {mid} g h s k =
    line_fails a_rule line f brackets h (head_on line e before mid g h ∙ k.on 0 g.term (drop e line) (sym s))
    (blamed_earlier line 0 next f brackets k.blamed (g.even ∙ even_past_spaces line e next s)) k.within

pub body_fails : (next : ℕ) (f : TermFault) {line : List ℕ} {e pos : ℕ} {before mid : List Op}
    → Reaches brackets line 0 e before mid → (head_kind line ≡ Space → ⊥)
    → drop next line ≡ past space (drop e line) → NeckReaches line next pos → GoalsBreak line pos f
    → LineFails a_rule line (line_of f)
body_fails next f {line} {e} {pos} {before} {mid} g h s k b =
    line_fails a_rule line f b.left h (head_on line e before mid g h ∙ k.on 0 g.term (drop e line) (sym s)
    ∙ b.on 0 (Some g.term))
    (blamed_earlier line 0 pos f b.left b.blamed (g.even ∙ even_past_spaces line e next s ∙ k.even))
    b.within

pub rule_read : {line : List ℕ} {e next pos : ℕ} {before mid behind : List Op} → before ≡ []
    → Reaches brackets line 0 e before mid → (head_kind line ≡ Space → ⊥)
    → drop next line ≡ past space (drop e line) → NeckReaches line next pos → GoalsReach line pos mid behind
    → IsRule line behind
rule_read {line} {e} {next} {pos} {before} {mid} {behind} z g h s k b = record {
  head = g.term;
  body = b.term;
  text = read_is_text a_rule line (rule g.term b.term)
      (head_on line e before mid g h ∙ k.on 0 g.term (drop e line) (sym s) ∙ b.on 0 (Some g.term));
  builds = b.builds ∙ ap (λ st. b.term ∷ st) (g.builds ∙ ap (λ os. g.term ∷ run line os) z);
}
