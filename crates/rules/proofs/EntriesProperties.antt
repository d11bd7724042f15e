-- The entries of a table: one more, another note on one, and looking one up.
use Rattle.std.proofs.Common.{◌≡◌, ℕ, zero, suc, ◌+◌, ◌<◌, ◌≤◌, true, ◌&&◌, eqb, List, [], ◌∷◌, ◌++◌, length}
use Rattle.std.proofs.Common.{◌-◌, ◌||◌, false, ltb, leb, get_or, set, take, drop, Some, None, refl, ap, ◌∙◌, sym}
use Rattle.std.proofs.Common.{inl, inr, arith}
use Rattle.std.specs.List.{list_any}
use Rattle.std.proofs.lemmas.List.{length-take-le, length-drop, take-append-le, drop-append-le, take_all, drop_at}
use Rattle.std.proofs.lemmas.Bool.{and_parts, and_from, or_parts, eqb-true, eq-eqb, lt-ltb}
use Rattle.std.proofs.lemmas.Bool.{le-ltb, lt-leb, leb-false, ltb-false, cases_lt}
use Rattle.terms.specs.declared.node.Node.{Node}
use Rattle.rules.specs.declared.entry.Entry.{Entry}
use Rattle.rules.specs.Indicators.{is_one}
use Rattle.rules.specs.Meaning.{Value, used, rule_at, is_of_rule, is_full_of, ever_added}
use Rattle.rules.specs.Tables.{Kept, rules_in, note_at, noted}
use Rattle.rules.specs.Entries.{rule_with, kept_at, kept_of, laid}
use Rattle.rules.proofs.MeaningProperties.{rule_at_past}

part_more : (ns more : List Node) (start size : ℕ) → start + size ≤ length ns
    → take size (drop start (ns ++ more)) ≡ take size (drop start ns)
part_more ns more start size h =
    let l = length-drop start ns in
    ap (take size) (drop-append-le start ns more (omega arith))
    ∙ take-append-le size (drop start ns) more (omega arith)

ltb_left : (a n m : ℕ) → n ≤ a → ltb (a - n) m ≡ ltb a (n + m)
ltb_left a n m h =
    elim (cases_lt a (n + m)) [
      | inl less ↦ lt-ltb (a - n) m (omega arith) ∙ sym (lt-ltb a (n + m) less)
      | inr more ↦ le-ltb (a - n) m (omega arith) ∙ sym (le-ltb a (n + m) more)
    ]

module _ {T : Type 0} where
  pub length_kept : (ns : List Node) (es : List (Entry T)) → length (kept_of ns es) ≡ length es
  length_kept ns [] = refl
  length_kept ns (e ∷ es) = ap suc (length_kept ns es)

  pub length_rules : (ks : List (Kept T)) → length (rules_in ks) ≡ length ks
  length_rules [] = refl
  length_rules (k ∷ ks) = ap suc (length_rules ks)

  -- the rule with a label, its note, and whether it is of an indicator
  pub rule_there : (ns : List Node) (es : List (Entry T)) (l : ℕ) (e : Entry T) → l < length es → e ≡ get_or es l e
      → rule_at (rules_in (kept_of ns es)) l ≡ Some (rule_with (take e.size (drop e.start ns)) e)
  rule_there ns [] l e less is = absurd (omega arith)
  rule_there ns (d ∷ es) zero e less is = ap (λ x. Some (kept_at ns x).rule) (sym is)
  rule_there ns (d ∷ es) (suc l) e less is = rule_there ns es l e (omega arith) is

  pub rule_past : (ns : List Node) (es : List (Entry T)) (l : ℕ) → length es ≤ l
      → rule_at (rules_in (kept_of ns es)) l ≡ None
  rule_past ns es l past =
      let n = length_rules (kept_of ns es) in
      let k = length_kept ns es in
      rule_at_past (rules_in (kept_of ns es)) l (omega arith)

  pub note_there : (ns : List Node) (es : List (Entry T)) (l : ℕ) (e : Entry T) → l < length es → e ≡ get_or es l e
      → note_at (kept_of ns es) l ≡ Some e.note
  note_there ns [] l e less is = absurd (omega arith)
  note_there ns (d ∷ es) zero e less is = ap (λ x. Some x.note) (sym is)
  note_there ns (d ∷ es) (suc l) e less is = note_there ns es l e (omega arith) is

  pub note_past : (ns : List Node) (es : List (Entry T)) (l : ℕ) → length es ≤ l → note_at (kept_of ns es) l ≡ None
  note_past ns [] l past = refl
  note_past ns (e ∷ es) zero past = absurd (omega arith)
  note_past ns (e ∷ es) (suc l) past = note_past ns es l (omega arith)

  pub is_of_there : (ns : List Node) (es : List (Entry T)) (l f a : ℕ) (e : Entry T) → l < length es
      → e ≡ get_or es l e
      → is_of_rule (rule_at (rules_in (kept_of ns es)) l) f a ≡ is_one e.indicator.name e.indicator.arity f a
  is_of_there ns es l f a e less is = ap (λ o. is_of_rule o f a) (rule_there ns es l e less is)

  pub any_of : (ns : List Node) (es : List (Entry T)) (f a : ℕ)
      → list_any (λ e. is_one e.indicator.name e.indicator.arity f a) es ≡ ever_added (rules_in (kept_of ns es)) f a
  any_of ns [] f a = refl
  any_of ns (e ∷ es) f a = ap (λ b. is_one e.indicator.name e.indicator.arity f a || b) (any_of ns es f a)

  -- the nodes of the entries: they end where the next ones begin, and stay where they are
  pub laid_le : (s : ℕ) (es : List (Entry T)) (n : ℕ) → laid s es n ≡ true → s ≤ n
  laid_le s [] n t = let e = eqb-true s n t in omega arith
  laid_le s (e ∷ es) n t =
      let le = laid_le (s + e.size) es n (and_parts (eqb e.start s) (laid (s + e.size) es n) t).1 in omega arith

  pub laid_push : (s : ℕ) (es : List (Entry T)) (n : ℕ) (e : Entry T) (m : ℕ) → laid s es n ≡ true → e.start ≡ n
      → m ≡ n + e.size → laid s (es ++ e ∷ []) m ≡ true
  laid_push s [] n e m t is more =
      let u = eqb-true s n t in
      and_from (eqb e.start s) (eqb (s + e.size) m) (eq-eqb e.start s (is ∙ sym u))
      (eq-eqb (s + e.size) m (omega arith))
  laid_push s (d ∷ es) n e m t is more =
      let two = and_parts (eqb d.start s) (laid (s + d.size) es n) t in
      and_from (eqb d.start s) (laid (s + d.size) (es ++ e ∷ []) m) two.0
      (laid_push (s + d.size) es n e m two.1 is more)

  pub laid_at : (s : ℕ) (es : List (Entry T)) (n k : ℕ) (e : Entry T) → laid s es n ≡ true → k < length es
      → e ≡ get_or es k e → e.start + e.size ≤ n
  laid_at s [] n k e t less is = absurd (omega arith)
  laid_at s (d ∷ es) n zero e t less is =
      let two = and_parts (eqb d.start s) (laid (s + d.size) es n) t in
      let at = eqb-true d.start s two.0 in
      let le = laid_le (s + d.size) es n two.1 in
      let p = ap (λ x. x.start) is in
      let q = ap (λ x. x.size) is in
      omega arith
  laid_at s (d ∷ es) n (suc k) e t less is =
      laid_at (s + d.size) es n k e (and_parts (eqb d.start s) (laid (s + d.size) es n) t).1 (omega arith) is

  -- nodes that come behind change no rule
  kept_more : (s : ℕ) (ns more : List Node) (es : List (Entry T)) → laid s es (length ns) ≡ true
      → kept_of (ns ++ more) es ≡ kept_of ns es
  kept_more s ns more [] t = refl
  kept_more s ns more (e ∷ es) t =
      let two = and_parts (eqb e.start s) (laid (s + e.size) es (length ns)) t in
      let at = eqb-true e.start s two.0 in
      let le = laid_le (s + e.size) es (length ns) two.1 in
      ap (λ xs. record { rule = rule_with xs e; note = e.note } ∷ kept_of (ns ++ more) es)
      (part_more ns more e.start e.size (omega arith))
      ∙ ap (λ ks. kept_at ns e ∷ ks) (kept_more (s + e.size) ns more es two.1)

  kept_append : (ns : List Node) (es fs : List (Entry T)) → kept_of ns (es ++ fs) ≡ kept_of ns es ++ kept_of ns fs
  kept_append ns [] fs = refl
  kept_append ns (e ∷ es) fs = ap (λ ks. kept_at ns e ∷ ks) (kept_append ns es fs)

  -- an entry whose nodes come last
  pub kept_push : (ns more : List Node) (es : List (Entry T)) (e : Entry T) → laid 0 es (length ns) ≡ true
      → e.start ≡ length ns → e.size ≡ length more
      → kept_of (ns ++ more) (es ++ e ∷ []) ≡ kept_of ns es ++ record { rule = rule_with more e; note = e.note } ∷ []
  kept_push ns more es e t start size =
      kept_append (ns ++ more) es (e ∷ [])
      ∙ ap (λ ks. ks ++ kept_at (ns ++ more) e ∷ []) (kept_more 0 ns more es t)
      ∙ ap (λ xs. kept_of ns es ++ record { rule = rule_with xs e; note = e.note } ∷ [])
      (ap (take e.size) (drop_at ns more e.start (sym start)) ∙ take_all e.size more (omega arith))

  -- the rules have all nodes
  pub used_kept : (s : ℕ) (ns : List Node) (es : List (Entry T)) → laid s es (length ns) ≡ true
      → used (rules_in (kept_of ns es)) + s ≡ length ns
  used_kept s ns [] t = let e = eqb-true s (length ns) t in omega arith
  used_kept s ns (e ∷ es) t =
      let two = and_parts (eqb e.start s) (laid (s + e.size) es (length ns)) t in
      let at = eqb-true e.start s two.0 in
      let le = laid_le (s + e.size) es (length ns) two.1 in
      let d = length-drop e.start ns in
      let here : length (take e.size (drop e.start ns)) ≡ e.size
      = length-take-le e.size (drop e.start ns) (omega arith) in
      let rest = used_kept (s + e.size) ns es two.1 in
      omega arith

  -- the entry with another note
  abbrev pub with_note : Entry T → T → Entry T
  with_note e n = record e { note = n }

  -- an entry that takes the same part of the nodes may stand for another
  pub laid_set : (s : ℕ) (es : List (Entry T)) (k : ℕ) (d e : Entry T) (n : ℕ) → d ≡ get_or es k d
      → e.start ≡ d.start → e.size ≡ d.size → laid s (set es k e) n ≡ laid s es n
  laid_set s [] k d e n is p q = refl
  laid_set s (c ∷ es) zero d e n is p q =
      ap (λ m. eqb m s && laid (s + e.size) es n) (p ∙ ap (λ x. x.start) is)
      ∙ ap (λ m. eqb c.start s && laid (s + m) es n) (q ∙ ap (λ x. x.size) is)
  laid_set s (c ∷ es) (suc k) d e n is p q =
      ap (λ b. eqb c.start s && b) (laid_set (s + c.size) es k d e n is p q)

  pub laid_noted : (s : ℕ) (es : List (Entry T)) (k : ℕ) (d : Entry T) (note : T) (n : ℕ) → d ≡ get_or es k d
      → laid s (set es k (with_note d note)) n ≡ laid s es n
  laid_noted s es k d note n is = laid_set s es k d (with_note d note) n is refl refl

  pub kept_noted : (ns : List Node) (es : List (Entry T)) (k : ℕ) (d : Entry T) (note : T) → d ≡ get_or es k d
      → kept_of ns (set es k (with_note d note)) ≡ noted (kept_of ns es) k note
  kept_noted ns [] k d note is = refl
  kept_noted ns (e ∷ es) zero d note is =
      ap (λ x. record { rule = (kept_at ns x).rule; note = note } ∷ kept_of ns es) is
  kept_noted ns (e ∷ es) (suc k) d note is = ap (λ ks. kept_at ns e ∷ ks) (kept_noted ns es k d note is)

  -- the nodes of a rule would pass the space if they are more than what is left of it
  pub full_space : (ns : List Node) (es : List (Entry T)) (labels space n : ℕ) (v : Value)
      → laid 0 es (length ns) ≡ true → length ns ≤ space → length es < labels → n ≡ length ns
      → ltb (space - n) (length v.nodes) ≡ is_full_of labels space (rules_in (kept_of ns es)) v
  full_space ns es labels space n v t filled less is =
      let vs = rules_in (kept_of ns es) in
      let l = length_rules (kept_of ns es) in
      let k = length_kept ns es in
      let u = used_kept 0 ns es t in
      let used_is : n ≡ used vs = omega arith in
      ltb_left space n (length v.nodes) (omega arith)
      ∙ ap (λ m. ltb space (m + length v.nodes)) used_is
      ∙ sym (ap (λ b. b || ltb space (used vs + length v.nodes)) (lt-leb labels (length vs) (omega arith)))

  -- where there is room
  pub room : (ns : List Node) (es : List (Entry T)) (labels space : ℕ) (v : Value) → laid 0 es (length ns) ≡ true
      → is_full_of labels space (rules_in (kept_of ns es)) v ≡ false
      → (length es < labels) × (length ns + length v.nodes ≤ space)
  room ns es labels space v t e =
      let vs = rules_in (kept_of ns es) in
      let two = or_parts (leb labels (length vs)) (ltb space (used vs + length v.nodes)) e in
      let some = leb-false labels (length vs) two.0 in
      let wide = ltb-false space (used vs + length v.nodes) two.1 in
      let l = length_rules (kept_of ns es) in
      let k = length_kept ns es in
      let u = used_kept 0 ns es t in
      (omega arith, omega arith)
