-- What the reader of bytes makes of whole tokens: their bytes are taken one by one, and a token that ends is fed.
use Rattle.std.proofs.Common.{◌≡◌, ℕ, Bool, true, false, cond, ◌&&◌, List, [], ◌∷◌, ◌++◌, Some, None, Option, sym, refl}
use Rattle.std.proofs.Common.{ap, ◌∙◌, append_assoc, append-nil}
use mathlib.Core.Bool.{false≢true}
use Rattle.tokens.specs.Bytes.{space, quote}
use Rattle.tokens.specs.Token.{Token, Part, inside, closed, single, Edge, spaced, may_part, start, advance, ended}
use Rattle.grammar.specs.Written.{Sentence}
use Rattle.grammar.specs.Machine.{VerdictOf, bad, Lex, within, edge, StateOf, at, hope_within, check, enter_by, step_by}
use Rattle.grammar.specs.Machine.{fresh, feed_maybe, allowed_at, allowed_by, or_bad, verdict, onward, finished}
use Rattle.grammar.specs.Sentences.{Place, operand, Context, feed, sentences, allowed}
use Rattle.writing.specs.Writing.{all, doubled}

-- on from this place, behind a token
abbrev pub from : Place → List ℕ → VerdictOf Sentence
from p s = onward sentences 0 (Some p) s

abbrev pub reading : List ℕ → Lex → Place → VerdictOf Sentence
reading s q p = verdict sentences s q p

-- on with one more state, or stopped before the bytes l
abbrev pub taking : Option (StateOf Place) → ℕ → List ℕ → List ℕ → VerdictOf Sentence
taking m n l s = or_bad sentences m (bad n l) (verdict sentences s)

pub false_true : {A : Type 0} → false ≡ true → A
false_true h = absurd (false≢true h)

pub and_both : (a b : Bool) → a && b ≡ true → (a ≡ true) × (b ≡ true)
and_both true b h = (refl, h)
and_both false b h = false_true h

-- one more byte of the same token
pub goes_on : (q q' : Part) (p : Place) (c : ℕ) (s : List ℕ) → advance q c ≡ Some q'
    → hope_within sentences q' p ≡ true → reading (c ∷ s) (within q) p ≡ reading s (within q') p
goes_on q q' p c s h k =
    ap (λ m. taking (step_by sentences m q p c) (allowed_at sentences (within q) p) (c ∷ s) s) h
    ∙ ap (λ b. taking (cond b (Some (at (within q') p)) None) (allowed_at sentences (within q) p) (c ∷ s) s) k

-- the first byte of a token
pub begins_on : (e : Edge) (q : Part) (p : Place) (c : ℕ) (s : List ℕ) → space c ≡ false → start e c ≡ Some q
    → hope_within sentences q p ≡ true → reading (c ∷ s) (edge e) p ≡ reading s (within q) p
begins_on e q p c s n h k =
    ap (λ b. taking (cond b (cond (may_part e) (check sentences (edge spaced) p) None)
    (enter_by sentences (start e c) p)) (allowed p) (c ∷ s) s) n
    ∙ ap (λ m. taking (enter_by sentences m p) (allowed p) (c ∷ s) s) h
    ∙ ap (λ b. taking (cond b (Some (at (within q) p)) None) (allowed p) (c ∷ s) s) k

-- a token that ends before a byte, and one of a single byte
pub ends_before : (q : Part) (t : Token) (p p' : Place) (c : ℕ) (s : List ℕ) → advance q c ≡ None → ended q ≡ Some t
    → feed p t ≡ Some p' → reading (c ∷ s) (within q) p ≡ from p' (c ∷ s)
ends_before q t p p' c s h e f =
    ap (λ m. taking (step_by sentences m q p c) (allowed_at sentences (within q) p) (c ∷ s) s) h
    ∙ ap (λ m. taking (fresh sentences (feed_maybe sentences p m) c) (allowed_by sentences (feed_maybe sentences p m) p)
    (c ∷ s) s) e
    ∙ ap (λ m. taking (fresh sentences m c) (allowed_by sentences m p) (c ∷ s) s) f

pub single_on : (s : List ℕ) (t : Token) (p p' : Place) → feed p t ≡ Some p'
    → reading s (within (single t)) p ≡ from p' s
single_on [] t p p' f = ap (finished sentences (allowed p)) f
single_on (c ∷ s) t p p' f = ends_before (single t) t p p' c s refl refl f

-- a run of bytes that pass a test
pub run_on : (f : List ℕ → Part) (test : ℕ → Bool) (p : Place)
    → ((bs : List ℕ) (c : ℕ) → test c ≡ true → advance (f bs) c ≡ Some (f (bs ++ c ∷ [])))
    → ((bs : List ℕ) → hope_within sentences (f bs) p ≡ true) → (s bs r : List ℕ) → all test s ≡ true
    → reading (s ++ r) (within (f bs)) p ≡ reading r (within (f (bs ++ s))) p
run_on f test p step_on hopes [] bs r h = ap (λ l. reading r (within (f l)) p) (sym (append-nil bs))
run_on f test p step_on hopes (c ∷ s) bs r h =
    let b = and_both (test c) (all test s) h in
    goes_on (f bs) (f (bs ++ c ∷ [])) p c (s ++ r) (step_on bs c b.0) (hopes (bs ++ c ∷ []))
    ∙ run_on f test p step_on hopes s (bs ++ c ∷ []) r b.1
    ∙ ap (λ l. reading r (within (f l)) p) (append_assoc bs (c ∷ []) s)

-- a quoted name up to the quote that ends it
pub quoted_on : (a bs r : List ℕ) (n : ℕ) (x : Context)
    → reading (doubled a ++ 39 ∷ r) (within (inside bs)) (operand n x)
    ≡ reading r (within (closed (bs ++ a))) (operand n x)
quoted_on [] bs r n x = ap (λ l. reading r (within (closed l)) (operand n x)) (sym (append-nil bs))
quoted_on (c ∷ a) bs r n x =
    go (quoted_on a (bs ++ c ∷ []) r n x
    ∙ ap (λ l. reading r (within (closed l)) (operand n x)) (append_assoc bs (c ∷ []) a)) (quote c) refl
  where
    go : reading (doubled a ++ 39 ∷ r) (within (inside (bs ++ c ∷ []))) (operand n x)
        ≡ reading r (within (closed (bs ++ c ∷ a))) (operand n x) → (b : Bool) → quote c ≡ b
        → reading (cond b (c ∷ c ∷ doubled a) (c ∷ doubled a) ++ 39 ∷ r) (within (inside bs)) (operand n x)
        ≡ reading r (within (closed (bs ++ c ∷ a))) (operand n x)
    go ih true e =
        goes_on (inside bs) (closed bs) (operand n x) c (c ∷ doubled a ++ 39 ∷ r)
        (ap (λ b. cond b (Some (closed bs)) (Some (inside (bs ++ c ∷ [])))) e) refl
        ∙ goes_on (closed bs) (inside (bs ++ c ∷ [])) (operand n x) c (doubled a ++ 39 ∷ r)
        (ap (λ b. cond b (Some (inside (bs ++ c ∷ []))) None) e) refl
        ∙ ih
    go ih false e =
        goes_on (inside bs) (inside (bs ++ c ∷ [])) (operand n x) c (doubled a ++ 39 ∷ r)
        (ap (λ b. cond b (Some (closed bs)) (Some (inside (bs ++ c ∷ [])))) e) refl
        ∙ ih
