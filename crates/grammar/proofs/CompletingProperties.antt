-- The reader of rules and queries is lawful: above all, some bytes complete whatever it has taken so far.
use Rattle.std.proofs.Common.{◌≡◌, ℕ, Bool, true, false, cond, ◌&&◌, eqb, List, [], ◌∷◌, ◌++◌, is_some, Some, None}
use Rattle.std.proofs.Common.{Option, sym, refl, ap, ◌∙◌, subst, arith, eqb-true}
use Rattle.tokens.specs.Bytes.{same, begins}
use Rattle.tokens.specs.Token.{Token, name, variable, integer, neck, Part, small_run, capital_run, digits, symbols}
use Rattle.tokens.specs.Token.{inside, closed, single, Edge, joined, neck_bytes, minus_bytes, ended}
use Rattle.grammar.specs.Written.{var, int}
use Rattle.grammar.specs.Machine.{Lex, edge, within, takes, hope, finished, verdict}
use Rattle.grammar.specs.Laws.{Completes, Lawful}
use Rattle.grammar.specs.Sentences.{Context, head, among, tail, Place, operand, named, after, done, feed, open_ended}
use Rattle.grammar.specs.Sentences.{allowed, sentences}
use Rattle.grammar.proofs.ClosersProperties.{closers, ends_before, Ending, ending, ends_before_closers}
use Rattle.grammar.proofs.ClosersProperties.{any_edge_before_closers, Shut, shut, shut_named}

false_true : {A : Type 0} → false ≡ true → A
false_true h = let z : ◌≡◌ {A = ℕ} 0 1 = cc in absurd (omega arith)

-- these bytes lead to a place from which the closers are read
by_closers : (w : List ℕ) (q : Lex) (p p' : Place) (x : Context)
    → verdict sentences w q p ≡ verdict sentences (closers x) (edge joined) p' → Shut p' x → Completes sentences q p
by_closers w q p p' x e z = record { further = w; read = z.read; taken = e ∙ z.taken }

-- where a term must begin, a word or a quoted name behind its quote ends before the closers
word_ends : (x : Context) (bs : List ℕ) (n : ℕ)
    → verdict sentences (closers x) (within (small_run bs)) (operand n x)
    ≡ verdict sentences (closers x) (edge joined) (named bs n x)
word_ends x bs n = ends_before_closers x _ (name bs) (operand n x) (named bs n x) (ending refl refl refl) refl refl

closed_ends : (x : Context) (bs : List ℕ) (n : ℕ)
    → verdict sentences (closers x) (within (closed bs)) (operand n x)
    ≡ verdict sentences (closers x) (edge joined) (named bs n x)
closed_ends x bs n = ends_before_closers x _ (name bs) (operand n x) (named bs n x) (ending refl refl refl) refl refl

-- at the edge of a token; where a term must begin, it is `a`
at_edge : (e : Edge) (p : Place) → open_ended p ≡ true → Completes sentences (edge e) p
at_edge e (operand n x) h =
    by_closers (97 ∷ closers x) _ _ (named (97 ∷ []) n x) x (word_ends x (97 ∷ []) n) (shut_named x (97 ∷ []) n)
at_edge e (named a n x) h =
    by_closers (closers x) _ _ (named a n x) x (any_edge_before_closers x e _) (shut_named x a n)
at_edge e (after t n x) h =
    by_closers (closers x) _ _ (after t n x) x (any_edge_before_closers x e _) (shut x t n)
at_edge e (done s) h = false_true h

-- behind a token of one byte
at_single : (t : Token) (p : Place) (m : Option Place) → feed p t ≡ m → is_some m ≡ true
    → Completes sentences (within (single t)) p
at_single t p None i h = false_true h
at_single t p (Some (operand n x)) i h =
    let e = ends_before 97 (closers x) (single t) t p (operand n x) refl refl i in
    by_closers (97 ∷ closers x) _ p (named (97 ∷ []) n x) x (e ∙ word_ends x (97 ∷ []) n) (shut_named x (97 ∷ []) n)
at_single t p (Some (named a n x)) i h =
    let e = ends_before_closers x (single t) t p (named a n x) (ending refl refl refl) refl i in
    by_closers (closers x) _ p (named a n x) x e (shut_named x a n)
at_single t p (Some (after u n x)) i h =
    let e = ends_before_closers x (single t) t p (after u n x) (ending refl refl refl) refl i in
    by_closers (closers x) _ p (after u n x) x e (shut x u n)
at_single t p (Some (done s)) i h =
    record { further = []; read = s; taken = ap (λ m. finished sentences (allowed p) m) i }

and_false : (b : Bool) → b && false ≡ false
and_false true = refl
and_false false = refl

and_both : (a b : Bool) → a && b ≡ true → (a ≡ true) × (b ≡ true)
and_both true b h = (refl, h)
and_both false b h = false_true h

-- a run of symbols ends before the closers, and with `+` at its end it is a name
run_ends : (bs : List ℕ) → Ending (symbols bs)
run_ends bs = ending (no_sign 46) (no_sign 41) (no_sign 93)
  where
    no_sign : (c : ℕ) → cond (same bs minus_bytes && false) (Some (digits (bs ++ c ∷ []))) None ≡ None
    no_sign c = ap (λ b. cond b (Some (digits (bs ++ c ∷ []))) None) (and_false (same bs minus_bytes))

not_neck : (bs : List ℕ) → same (bs ++ 43 ∷ []) neck_bytes ≡ false
not_neck [] = refl
not_neck (x ∷ []) = and_false (eqb x 58)
not_neck (x ∷ y ∷ []) = ap (λ b. eqb x 58 && b) (and_false (eqb y 45)) ∙ and_false (eqb x 58)
not_neck (x ∷ y ∷ z ∷ bs) = ap (λ b. eqb x 58 && b) (and_false (eqb y 45)) ∙ and_false (eqb x 58)

run_ended : (bs : List ℕ) → ended (symbols (bs ++ 43 ∷ [])) ≡ Some (name (bs ++ 43 ∷ []))
run_ended bs = ap (λ b. Some (cond b neck (name (bs ++ 43 ∷ [])))) (not_neck bs)

-- behind a head: a run that begins the neck is completed to it, and the body is `a`
abbrev Neck : Place → List ℕ → Type 0
Neck p bs = Completes sentences (within (symbols bs)) p

at_a_neck : (p : Place) → Neck p [] → Neck p (58 ∷ []) → Neck p (58 ∷ 45 ∷ [])
    → (bs : List ℕ) → begins bs neck_bytes ≡ true → Neck p bs
at_a_neck p a b c [] h = a
at_a_neck p a b c (x ∷ []) h =
    let e = eqb-true x 58 (and_both _ _ h).0 in
    subst (λ y. Neck p (y ∷ [])) (sym e) b
at_a_neck p a b c (x ∷ y ∷ []) h =
    let e = eqb-true x 58 (and_both _ _ h).0 in
    let f = eqb-true y 45 (and_both _ _ (and_both _ _ h).1).0 in
    subst (λ z. Neck p (z ∷ y ∷ [])) (sym e) (subst (λ z. Neck p (58 ∷ z ∷ [])) (sym f) c)
at_a_neck p a b c (x ∷ y ∷ z ∷ bs) h =
    false_true (and_both (eqb y 45) false (and_both (eqb x 58) (eqb y 45 && false) h).1).1

-- inside a token
at_part : (q : Part) (p : Place) → hope sentences (within q) p ≡ true → Completes sentences (within q) p
at_part (small_run bs) (operand n x) h =
    by_closers (closers x) _ _ (named bs n x) x (word_ends x bs n) (shut_named x bs n)
at_part (small_run bs) (named a n x) h = false_true h
at_part (small_run bs) (after t n x) h = false_true h
at_part (small_run bs) (done s) h = false_true h
at_part (capital_run bs) (operand n x) h =
    let e = ends_before_closers x _ (variable bs) (operand n x) _ (ending refl refl refl) refl refl in
    by_closers (closers x) _ _ (after (var bs) n x) x e (shut x (var bs) n)
at_part (capital_run bs) (named a n x) h = false_true h
at_part (capital_run bs) (after t n x) h = false_true h
at_part (capital_run bs) (done s) h = false_true h
at_part (digits bs) (operand n x) h =
    let e = ends_before_closers x _ (integer bs) (operand n x) _ (ending refl refl refl) refl refl in
    by_closers (closers x) _ _ (after (int bs) n x) x e (shut x (int bs) n)
at_part (digits bs) (named a n x) h = false_true h
at_part (digits bs) (after t n x) h = false_true h
at_part (digits bs) (done s) h = false_true h
at_part (inside bs) (operand n x) h =
    by_closers (39 ∷ closers x) _ _ (named bs n x) x (closed_ends x bs n) (shut_named x bs n)
at_part (inside bs) (named a n x) h = false_true h
at_part (inside bs) (after t n x) h = false_true h
at_part (inside bs) (done s) h = false_true h
at_part (closed bs) (operand n x) h =
    by_closers (closers x) _ _ (named bs n x) x (closed_ends x bs n) (shut_named x bs n)
at_part (closed bs) (named a n x) h = false_true h
at_part (closed bs) (after t n x) h = false_true h
at_part (closed bs) (done s) h = false_true h
at_part (single t) p h = at_single t p (feed p t) refl h
at_part (symbols bs) (operand n x) h =
    let cs = bs ++ 43 ∷ [] in
    let e = ends_before_closers x _ (name cs) (operand n x) (named cs n x) (run_ends cs) (run_ended bs) refl in
    by_closers (43 ∷ closers x) _ _ (named cs n x) x e (shut_named x cs n)
at_part (symbols bs) (named a n head) h =
    at_a_neck (named a n head)
    (record { further = 58 ∷ 45 ∷ 97 ∷ 46 ∷ []; read = _; taken = refl })
    (record { further = 45 ∷ 97 ∷ 46 ∷ []; read = _; taken = refl })
    (record { further = 97 ∷ 46 ∷ []; read = _; taken = refl }) bs h
at_part (symbols bs) (named a n (among y us)) h = false_true h
at_part (symbols bs) (named a n (tail us x)) h = false_true h
at_part (symbols bs) (after t n head) h =
    at_a_neck (after t n head)
    (record { further = 58 ∷ 45 ∷ 97 ∷ 46 ∷ []; read = _; taken = refl })
    (record { further = 45 ∷ 97 ∷ 46 ∷ []; read = _; taken = refl })
    (record { further = 97 ∷ 46 ∷ []; read = _; taken = refl }) bs h
at_part (symbols bs) (after t n (among y us)) h = false_true h
at_part (symbols bs) (after t n (tail us x)) h = false_true h
at_part (symbols bs) (done s) h = false_true h

hoped_completes : (q : Lex) (p : Place) → hope sentences q p ≡ true → Completes sentences q p
hoped_completes (edge e) p h = at_edge e p h
hoped_completes (within q) p h = at_part q p h

-- the laws that ask only what a place takes
name_taken : (p : Place) (a : List ℕ) → takes sentences p (name a) ≡ takes sentences p (name [])
name_taken (operand n x) a = refl
name_taken (named b n x) a = refl
name_taken (after t n x) a = refl
name_taken (done s) a = refl

variable_taken : (p : Place) (a : List ℕ) → takes sentences p (variable a) ≡ takes sentences p (variable [])
variable_taken (operand n x) a = refl
variable_taken (named b n x) a = refl
variable_taken (after t n x) a = refl
variable_taken (done s) a = refl

integer_taken : (p : Place) (a : List ℕ) → takes sentences p (integer a) ≡ takes sentences p (integer [])
integer_taken (operand n x) a = refl
integer_taken (named b n x) a = refl
integer_taken (after t n x) a = refl
integer_taken (done s) a = refl

integer_then_name : (p : Place) → takes sentences p (integer []) ≡ true → takes sentences p (name []) ≡ true
integer_then_name (operand n x) h = refl
integer_then_name (named b n x) h = h
integer_then_name (after t n x) h = h
integer_then_name (done s) h = h

taken_then_open : (p : Place) (t : Token) → takes sentences p t ≡ true → open_ended p ≡ true
taken_then_open (operand n x) t h = refl
taken_then_open (named b n x) t h = refl
taken_then_open (after u n x) t h = refl
taken_then_open (done s) t h = h

pub sentences_lawful : Lawful sentences
sentences_lawful =
    record {
      any_name = name_taken;
      any_variable = variable_taken;
      any_integer = integer_taken;
      integer_as_name = integer_then_name;
      open_where_taken = taken_then_open;
      completes = hoped_completes;
    }
