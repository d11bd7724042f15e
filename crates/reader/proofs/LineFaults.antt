-- Where a line goes wrong and which kind of fault that is, from what the grammar's reader of bytes says of it.
use Rattle.std.proofs.Common.{◌≡◌, ℕ, suc, ◌+◌, ◌-◌, ◌<◌, ◌≤◌, Bool, true, false, cond, eqb, ◌⊎◌, List, [], ◌∷◌, ◌++◌}
use Rattle.std.proofs.Common.{length, take, drop, sym, refl, ap, ◌∙◌, subst, inl, inr, arith, length-append}
use Rattle.std.proofs.Common.{length-drop}
use lib.Seq.{take-length, take-append_seam}
use Rattle.std.proofs.lemmas.List.{nil_from_length}
use Rattle.std.proofs.lemmas.Bool.{eqb-true, eqb-false}
use Rattle.tokens.specs.declared.kind.Kind.TheVariants.{Space, Stray}
use Rattle.tokens.specs.declared.scan.TokenFault.TheVariants as token_fault
use Rattle.tokens.specs.Token.{scan, joined, endless}
use Rattle.tokens.specs.Scanning.{head_kind}
use Rattle.tokens.proofs.BytesProperties.{head_past_the_end, space_by_kind, false_true}
use Rattle.grammar.specs.Grammar.{Goal, brackets}
use Rattle.grammar.specs.Machine.{bad}
use Rattle.grammar.specs.Theorem.{judged, Judged, fails_at_end, fails_at, StopsAt}
use Rattle.grammar.specs.Faults.{Fails, NoRow, Unclosed, inside_quote, open_brackets, blames_token, blames_term}
use Rattle.grammar.specs.Faults.{blames_line}
use Rattle.grammar.proofs.BlameProperties.{no_row_to, no_row_from, no_row_at_end}
use Rattle.grammar.proofs.KindProperties.{space_has_kind}
use Rattle.grammar.proofs.PlaceProperties.{first_space}
use Rattle.grammar.proofs.ReadingProperties.{exact}
use Rattle.reader.specs.declared.fault.TermFault.{TermFault}
use Rattle.reader.specs.declared.fault.TermFault.TheVariants as term_fault
use Rattle.reader.specs.declared.fault.LineFault.TheVariants as line_fault
use Rattle.reader.specs.Faults.{term_place, line_of}
use Rattle.reader.specs.Reading.{Blamed}
use Rattle.reader.specs.Sentence.{LineFails}

-- what holds where the reader of bytes stops at the place p, with n brackets left
record Stopped (g : Goal) (line : List ℕ) (p n : ℕ) : Type 0 where
  fails : Fails g line (suc p)
  counted : n + open_brackets (take p line) ≡ brackets
  at_stray : p < length line → head_kind (drop p line) ≡ Stray → NoRow line (suc p)
  at_space : p ≡ 0 → head_kind line ≡ Space → NoRow line (suc p)
  elsewhere : (head_kind line ≡ Space → ⊥) → (p < length line → head_kind (drop p line) ≡ Stray → ⊥)
      → NoRow line (suc p) → ⊥

stopped_at_end : (g : Goal) (line : List ℕ) (p n : ℕ) → p ≡ length line → Fails g line (suc (length line))
    → n + open_brackets line ≡ brackets → Stopped g line p n
stopped_at_end g line p n e f o = record {
  fails = subst (λ q. Fails g line (suc q)) (sym e) f;
  counted = ap (λ l. n + open_brackets l) (ap (λ q. take q line) e ∙ take-length line) ∙ o;
  at_stray = λ l k. absurd (omega arith);
  at_space = λ z k. let y = sym (head_past_the_end line 0 (omega arith))
      ∙ k in cc;
  elsewhere = λ a b r. no_row_at_end line (subst (λ q. NoRow line (suc q)) e r);
}

stopped_at : (g : Goal) (line : List ℕ) (p n : ℕ) (u : List ℕ) (c : ℕ) (r : List ℕ) → line ≡ u ++ c ∷ r
    → length u ≡ p → p < length line → drop p line ≡ c ∷ r
    → Fails g line (suc (length u)) → n + open_brackets u ≡ brackets → StopsAt u c → Stopped g line p n
stopped_at g line p n u c r s e l d f o t = record {
  fails = subst (λ q. Fails g line (suc q)) e f;
  counted = ap (λ l. n + open_brackets l) (ap (λ q. take q line) (sym e) ∙ ap (take (length u)) s
      ∙ take-append_seam u (c ∷ r)) ∙ o;
  at_stray = λ i k. subst (λ q. NoRow line (suc q)) e (no_row_to line u c r s (t.stray (sym (ap head_kind d) ∙ k)));
  at_space = λ z k.
      let v = nil_from_length u (e ∙ z) in
      subst (λ q. NoRow line (suc q)) e (no_row_to line u c r s
      (t.space_first v (space_by_kind c (sym (ap head_kind (s ∙ ap (λ u. u ++ c ∷ r) v)) ∙ k))));
  elsewhere = λ a b y.
      no_row_from line u c r s (subst (λ q. NoRow line (suc q)) (sym e) y)
      (t.otherwise (λ k. b l (ap head_kind d ∙ k)) (λ v i. a
      (ap head_kind (s ∙ ap (λ u. u ++ c ∷ r) v) ∙ space_has_kind c i)));
}

stopped : (g : Goal) (line : List ℕ) (p n : ℕ) → judged g line ≡ bad n (drop p line) → p ≤ length line
    → Stopped g line p n
stopped g line p n h l = go (drop p line) refl (subst (λ v. Judged g line v) h (exact g line))
  where
    go : (r : List ℕ) → drop p line ≡ r → Judged g line (bad n r) → Stopped g line p n
    go [] e (fails_at_end f o) =
        let a : length (drop p line) ≡ 0 = ap length e in
        let b = length-drop p line in
        stopped_at_end g line p n (omega arith) f o
    go (c ∷ r) e (fails_at {u = u} s f o t) =
        let a : length (drop p line) ≡ suc (length r) = ap length e in
        let b = length-drop p line in
        let d : length line ≡ length u + suc (length r) = ap length s ∙ length-append u (c ∷ r) in
        stopped_at g line p n u c r s (omega arith) (omega arith) e f o t

-- a space before the first token
pub space_fails : (g : Goal) (line : List ℕ) → head_kind line ≡ Space
    → LineFails g line (line_fault.Term (term_fault.Token (token_fault.Stray 0)))
space_fails g line h =
    let z = stopped g line 0 64 (first_space g line h) (omega arith) in
    record { fails = z.fails; blames = blames_token (inl (z.at_space refl h)); within = omega arith }

unclosed_there : (line : List ℕ) (q : ℕ)
    → (scan joined (drop q line) ≡ endless) ⊎ ((q ≡ length line) × (inside_quote false line ≡ true))
    → Unclosed line (suc q)
unclosed_there line q (inl i) = let e : suc q - 1 ≡ q = omega arith in inl (ap (λ k. scan joined (drop k line)) e ∙ i)
unclosed_there line q (inr i) = let e = i.0 in inr (omega arith, i.1)

closed_there : (line : List ℕ) (q : ℕ) → (scan joined (drop q line) ≡ endless → ⊥)
    → (length line ≤ q → inside_quote false line ≡ false) → Unclosed line (suc q) → ⊥
closed_there line q h k (inl i) = let e : q ≡ suc q - 1 = omega arith in h (ap (λ k. scan joined (drop k line)) e ∙ i)
closed_there line q h k (inr i) = let e = i.0 in false_true (sym (k (omega arith)) ∙ i.1)

no_token : (line : List ℕ) (P : ℕ) → (NoRow line P → ⊥) → (Unclosed line P → ⊥) → NoRow line P ⊎ Unclosed line P → ⊥
no_token line P a b (inl h) = a h
no_token line P a b (inr h) = b h

-- the fault of a term as one of the line
pub line_fails : (g : Goal) (line : List ℕ) (f : TermFault) (n : ℕ) → (head_kind line ≡ Space → ⊥)
    → judged g line ≡ bad n (drop (term_place f) line) → Blamed line 0 f n
    → term_place f ≤ length line → LineFails g line (line_of f)
line_fails g line (term_fault.Token (token_fault.Stray q)) n s h b l =
    let z = stopped g line q n h l in
    record { fails = z.fails; blames = blames_token (inl (z.at_stray b.0 b.1)); within = l }
line_fails g line (term_fault.Token (token_fault.Unclosed q)) n s h b l =
    let z = stopped g line q n h l in
    record { fails = z.fails; blames = blames_token (inr (unclosed_there line q b)); within = l }
line_fails g line (term_fault.Unexpected q k) n s h b l = go (eqb k 64) refl
  where
    go : (t : Bool) → eqb k 64 ≡ t
        → LineFails g line (cond t (line_fault.Unexpected q) (line_fault.Term (term_fault.Unexpected q k)))
    go true e =
        let z = stopped g line q n h l in
        let i = eqb-true k 64 e in
        let j = b.0 in
        let o = z.counted in
        let p : suc q - 1 ≡ q = omega arith in
        let w : open_brackets (take q line) ≡ 0 = omega arith in
        record {
          fails = z.fails;
          blames = blames_line (no_token line (suc q) (z.elsewhere s b.2) (closed_there line q b.1 b.3))
              (ap (λ q. open_brackets (take q line)) p ∙ w);
          within = l;
        }
    go false e =
        let z = stopped g line q n h l in
        let i = eqb-false k 64 e in
        let j = b.0 in
        let o = z.counted in
        let p : q ≡ suc q - 1 = omega arith in
        let w : 0 < open_brackets (take q line) = omega arith in
        record {
          fails = z.fails;
          blames = blames_term (no_token line (suc q) (z.elsewhere s b.2) (closed_there line q b.1 b.3))
              (subst (λ q. 0 < open_brackets (take q line)) p w);
          within = l;
        }
