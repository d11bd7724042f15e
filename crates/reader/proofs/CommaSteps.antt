-- Terms with commas between: one more term, and the last one.
use Rattle.std.proofs.Common.{◌≡◌, ℕ, ◌+◌, ◌≤◌, false, List, ◌∷◌, length, drop, Some, sym, refl, ap, ◌∙◌, subst, arith}
use Rattle.tokens.specs.declared.kind.Kind.TheVariants.{Comma}
use Rattle.tokens.specs.Bytes.{past, space}
use Rattle.tokens.specs.Scanning.{head_kind}
use Rattle.grammar.specs.Written.{Written, Writtens, nil, cons, join, with_last}
use Rattle.grammar.specs.Machine.{onward}
use Rattle.grammar.specs.Sentences.{Holder, among, body, goals, arguments, round, square, operand, after}
use Rattle.grammar.specs.Sentences.{sentences}
use Rattle.grammar.specs.Places.{tail_of}
use Rattle.grammar.proofs.SentenceTo.{join_assoc}
use Rattle.reader.specs.declared.op.Op.{Op}
use Rattle.reader.specs.declared.fault.TermFault.{TermFault}
use Rattle.reader.specs.Ops.{run}
use Rattle.reader.specs.Reading.{Admits, bare_square, Reaches, Breaks, ManyReach, ManyBreak}
use Rattle.reader.specs.Along.{Along}
use Rattle.reader.proofs.OpsProperties.{pushed_join, size_with_last}
use Rattle.reader.proofs.BlameProperties.{blamed_earlier}
use Rattle.reader.proofs.ByteSteps.{tail_is_next, past_twice, after_at, even_past_spaces, even_past_byte}
use Rattle.grammar.proofs.StepProperties.{any_count}

join_nil : (us : Writtens) → join us nil ≡ us
join_nil nil = refl
join_nil (cons t us) = ap (cons t) (join_nil us)

-- behind a comma square brackets have a term in them
not_bare : (h : Holder) (us : Writtens) (t : Written) → bare_square h (with_last us t) ≡ false
not_bare (body w) us t = refl
not_bare goals us t = refl
not_bare (arguments b x) us t = refl
not_bare (round x) us t = refl
not_bare (square x) nil t = refl
not_bare (square x) (cons u us) t = refl

pub none_yet : {n : ℕ} {line : List ℕ} {pos : ℕ} {before : List Op} → Along n line pos pos 0 before before
none_yet {n} {line} {pos} {before} = record {
  terms = nil;
  on = λ m h us d. ap (λ us. onward sentences m (Some (operand n (among h us))) (drop pos line)) (sym (join_nil us));
  admits = λ h us d. subst (λ us. Admits (among h us) (drop pos line)) (sym (join_nil us)) d;
  builds = refl;
  counted = refl;
  even = refl;
}

pub one_more : (next : ℕ) {n : ℕ} {line : List ℕ} {pos at end count : ℕ} {before mid behind : List Op}
    → Along n line pos at count before mid → Reaches n line at end mid behind
    → drop next line ≡ past space (drop end line) → Comma ≡ head_kind (drop next line)
    → Along n line pos (next + 1) (count + 1) before behind
one_more next {n} {line} {pos} {at} {end} {count} {before} {mid} {behind} g t s k =
    let c = g.counted in
    let z = size_with_last g.terms t.term in
    record {
      terms = with_last g.terms t.term;
      on = λ m h us d. g.on m h us d ∙ t.on m (among h (join us g.terms)) (g.admits h us d)
          ∙ after_at m n t.term (among h (join us g.terms)) line end next Comma s k (λ e. refl)
          ∙ any_count n m (operand n (among h (with_last (join us g.terms) t.term))) (tail_of (drop next line))
          ∙ ap (λ r. onward sentences m (Some (operand n (among h (with_last (join us g.terms) t.term)))) r)
          (tail_is_next line next)
          ∙ ap (λ us. onward sentences m (Some (operand n (among h us))) (drop (next + 1) line))
          (join_assoc us g.terms (cons t.term nil));
      admits = λ h us d e. ap (bare_square h) (sym (join_assoc us g.terms (cons t.term nil)))
          ∙ not_bare h (join us g.terms) t.term;
      builds = t.builds ∙ ap (λ st. t.term ∷ st) g.builds
          ∙ sym (pushed_join g.terms (cons t.term nil) (run line before));
      counted = omega arith;
      even = g.even ∙ t.even ∙ even_past_spaces line end next s ∙ even_past_byte line next Comma k (λ e. cc);
    }

-- behind a term in brackets, or among goals, spaces change nothing
past_spaces : (m n : ℕ) (t : Written) (h : Holder) (us : Writtens) (line : List ℕ) (e next : ℕ)
    → drop next line ≡ past space (drop e line)
    → onward sentences m (Some (after t n (among h us))) (drop e line)
    ≡ onward sentences m (Some (after t n (among h us))) (drop next line)
past_spaces m n t h us line e next s =
    let twice : drop next line ≡ past space (drop next line)
    = sym (ap (past space) s ∙ past_twice space (drop e line) ∙ sym s) in
    after_at m n t (among h us) line e next (head_kind (drop next line)) s refl (λ i. refl)
    ∙ sym (after_at m n t (among h us) line next next (head_kind (drop next line)) twice refl (λ i. refl))

pub the_last : (next : ℕ) {n : ℕ} {line : List ℕ} {pos at end count : ℕ} {before mid behind : List Op}
    → Along n line pos at count before mid → Reaches n line at end mid behind
    → drop next line ≡ past space (drop end line) → (head_kind (drop next line) ≡ Comma → ⊥) → pos ≤ at → end ≤ next
    → next ≤ length line → ManyReach n line pos (record { end = next; count = count + 1 }) before behind
the_last next {n} {line} {pos} {at} {end} {count} {before} {mid} {behind} g t s k l p w =
    let c = g.counted in
    let f = t.forward in
    let twice : past space (drop next line) ≡ drop next line
    = ap (past space) s ∙ past_twice space (drop end line) ∙ sym s in
    record {
      terms = g.terms;
      last = t.term;
      on = λ m h us d. g.on m h us d ∙ t.on m (among h (join us g.terms)) (g.admits h us d)
          ∙ past_spaces m n t.term h (join us g.terms) line end next s;
      builds = t.builds ∙ ap (λ st. t.term ∷ st) g.builds
          ∙ sym (pushed_join g.terms (cons t.term nil) (run line before));
      counted = omega arith;
      no_comma = λ e. k (ap head_kind (sym twice) ∙ e);
      no_space = twice;
      even = g.even ∙ t.even ∙ even_past_spaces line end next s;
      forward = omega arith;
      within = w;
    }

pub none_more : {n : ℕ} {line : List ℕ} {pos at count : ℕ} {f : TermFault} {before mid : List Op}
    → Along n line pos at count before mid → Breaks n line at f → ManyBreak n line pos f
none_more {n} {line} {pos} {at} {count} {f} {before} {mid} g t = record {
  left = t.left;
  on = λ m h us d. g.on m h us d ∙ t.on m (among h (join us g.terms)) (g.admits h us d);
  blamed = blamed_earlier line pos at f t.left t.blamed g.even;
  within = t.within;
}
