-- The bytes that close every open bracket and end the sentence are taken behind any term.
use Rattle.std.proofs.Common.{◌≡◌, ℕ, suc, List, [], ◌∷◌, Some, None, Option, refl, ap, ◌∙◌}
use Rattle.tokens.specs.Token.{Token, closing, right, Part, single, Edge, joined, advance, ended}
use Rattle.grammar.specs.Written.{Written, Writtens, app, nil, with_last, conj, list_of, empty_list, Sentence}
use Rattle.grammar.specs.Machine.{edge, within, VerdictOf, good, bad, fresh, feed_maybe, step_by, allowed_by}
use Rattle.grammar.specs.Machine.{allowed_at, or_bad, verdict}
use Rattle.grammar.specs.Sentences.{Context, head, among, tail, Holder, body, goals, arguments, round, square, Place}
use Rattle.grammar.specs.Sentences.{named, after, feed, sentences}

-- one closing bracket for each open one, then the full stop
abbrev mutual
  pub closers : Context → List ℕ
  closers head = 46 ∷ []
  closers (among h us) = closers_in h
  closers (tail us x) = 93 ∷ closers x

  pub closers_in : Holder → List ℕ
  closers_in (body h) = 46 ∷ []
  closers_in goals = 46 ∷ []
  closers_in (arguments a x) = 41 ∷ closers x
  closers_in (round x) = 41 ∷ closers x
  closers_in (square x) = 93 ∷ closers x

-- bytes that begin with a closing bracket or a full stop
data Closes : List ℕ → Type 0 where
  by_stop : {s : List ℕ} → Closes (46 ∷ s)
  by_closing : {s : List ℕ} → Closes (41 ∷ s)
  by_right : {s : List ℕ} → Closes (93 ∷ s)

closers_close : (x : Context) → Closes (closers x)
closers_close head = by_stop
closers_close (among (body h) us) = by_stop
closers_close (among goals us) = by_stop
closers_close (among (arguments a x) us) = by_closing
closers_close (among (round x) us) = by_closing
closers_close (among (square x) us) = by_right
closers_close (tail us x) = by_right

-- a byte behind a whole token, which was taken or not
abbrev behind : Option Place → Place → ℕ → List ℕ → VerdictOf Sentence
behind m p c s = or_bad sentences (fresh sentences m c) (bad (allowed_by sentences m p) (c ∷ s)) (verdict sentences s)

-- a part that ends before this byte is taken as its token, and the byte is read behind it
pub ends_before : (c : ℕ) (s : List ℕ) (q : Part) (t : Token) (p p' : Place)
    → advance q c ≡ None → ended q ≡ Some t → feed p t ≡ Some p'
    → verdict sentences (c ∷ s) (within q) p ≡ verdict sentences (c ∷ s) (edge joined) p'
ends_before c s q t p p' i j k =
    let v = bad (allowed_at sentences (within q) p) (c ∷ s) in
    ap (λ m. or_bad sentences (step_by sentences m q p c) v (verdict sentences s)) i
    ∙ ap (λ m. behind (feed_maybe sentences p m) p c s) j
    ∙ ap (λ m. behind m p c s) k

-- parts that end before each closer
pub data Ending : Part → Type 0 where
  ending : {q : Part} → advance q 46 ≡ None → advance q 41 ≡ None → advance q 93 ≡ None → Ending q

ends_before_any : {s : List ℕ} {q : Part} → Closes s → Ending q → (t : Token) (p p' : Place)
    → ended q ≡ Some t → feed p t ≡ Some p'
    → verdict sentences s (within q) p ≡ verdict sentences s (edge joined) p'
ends_before_any {q = q} (by_stop {s = s}) (ending i j k) t p p' e f = ends_before 46 s q t p p' i e f
ends_before_any {q = q} (by_closing {s = s}) (ending i j k) t p p' e f = ends_before 41 s q t p p' j e f
ends_before_any {q = q} (by_right {s = s}) (ending i j k) t p p' e f = ends_before 93 s q t p p' k e f

-- a part that ends before each closer is taken as its token, and the closers are read behind it
pub ends_before_closers : (x : Context) (q : Part) (t : Token) (p p' : Place)
    → Ending q → ended q ≡ Some t → feed p t ≡ Some p'
    → verdict sentences (closers x) (within q) p ≡ verdict sentences (closers x) (edge joined) p'
ends_before_closers x q t p p' i e f = ends_before_any (closers_close x) i t p p' e f

any_edge : {s : List ℕ} → Closes s → (e : Edge) (p : Place)
    → verdict sentences s (edge e) p ≡ verdict sentences s (edge joined) p
any_edge by_stop e p = refl
any_edge by_closing e p = refl
any_edge by_right e p = refl

-- spaces before the closers do not matter
pub any_edge_before_closers : (x : Context) (e : Edge) (p : Place)
    → verdict sentences (closers x) (edge e) p ≡ verdict sentences (closers x) (edge joined) p
any_edge_before_closers x e p = any_edge (closers_close x) e p

-- from p the closers of x are read, as some sentence
pub record Shut (p : Place) (x : Context) : Type 0 where
  pub read : Sentence
  pub taken : verdict sentences (closers x) (edge joined) p ≡ good read

-- one bracket more is closed
shut_around : (t : Token) (p p' : Place) (x y : Context) → feed p t ≡ Some p'
    → verdict sentences (closers y) (edge joined) p ≡ verdict sentences (closers x) (within (single t)) p
    → Shut p' x → Shut p y
shut_around t p p' x y e i z =
    let j = ends_before_closers x (single t) t p p' (ending refl refl refl) refl e in
    record { read = z.read; taken = i ∙ j ∙ z.taken }

mutual
  pub shut : (x : Context) (t : Written) (n : ℕ) → Shut (after t n x) x
  shut head t n = record { read = _; taken = refl }
  shut (among h us) t n = shut_in h us t n
  shut (tail us x) t n = shut_around right _ _ x _ refl refl (shut x (list_of us t) (suc n))

  shut_in : (h : Holder) (us : Writtens) (t : Written) (n : ℕ) → Shut (after t n (among h us)) (among h us)
  shut_in (body h) us t n = record { read = _; taken = refl }
  shut_in goals us t n = record { read = _; taken = refl }
  shut_in (arguments a x) us t n =
      shut_around closing _ _ x _ refl refl (shut x (app a (with_last us t)) (suc n))
  shut_in (round x) us t n = shut_around closing _ _ x _ refl refl (shut x (conj (with_last us t)) (suc n))
  shut_in (square x) us t n =
      shut_around right _ _ x _ refl refl (shut x (list_of (with_last us t) empty_list) (suc n))

-- behind a name that may still take arguments
pub shut_named : (x : Context) (a : List ℕ) (n : ℕ) → Shut (named a n x) x
shut_named head a n = record { read = _; taken = refl }
shut_named (among (body h) us) a n = record { read = _; taken = refl }
shut_named (among goals us) a n = record { read = _; taken = refl }
shut_named (among (arguments b x) us) a n =
    shut_around closing _ _ x _ refl refl (shut x (app b (with_last us (app a nil))) (suc n))
shut_named (among (round x) us) a n =
    shut_around closing _ _ x _ refl refl (shut x (conj (with_last us (app a nil))) (suc n))
shut_named (among (square x) us) a n =
    shut_around right _ _ x _ refl refl (shut x (list_of (with_last us (app a nil)) empty_list) (suc n))
shut_named (tail us x) a n = shut_around right _ _ x _ refl refl (shut x (list_of us (app a nil)) (suc n))
