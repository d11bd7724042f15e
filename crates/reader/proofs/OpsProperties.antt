-- What rows of building steps build: one step more, the same step again and again, and the arguments of a name.
use Rattle.std.proofs.Common.{◌≡◌, ℕ, zero, suc, List, [], ◌∷◌, ◌++◌, replicate, sym, refl, ap, ◌∙◌}
use Rattle.terms.specs.Known.{comma_name, dot_name}
use Rattle.grammar.specs.Written.{Written, Writtens, nil, cons, join, with_last, conj_from, conj, list_of, size}
use Rattle.reader.specs.declared.op.Op.{Op}
use Rattle.reader.specs.declared.op.Op.TheVariants as op
use Rattle.reader.specs.Ops.{Stack, take_one, take_many, joined, apply, run_from, run, pushed}

pub run_append : (line : List ℕ) (st : Stack) (as' bs : List Op)
    → run_from line st (as' ++ bs) ≡ run_from line (run_from line st as') bs
run_append line st [] bs = refl
run_append line st (o ∷ os) bs = run_append line (apply line o st) os bs

pub run_one_more : (line : List ℕ) (os : List Op) (o : Op) → run line (os ++ o ∷ []) ≡ apply line o (run line os)
run_one_more line os o = run_append line [] os (o ∷ [])

-- the same step again and again, first n times and then once more
abbrev pub again : List ℕ → ℕ → Stack → Stack
again f zero st = st
again f (suc n) st = joined f (again f n st)

again_after : (f : List ℕ) (n : ℕ) (st : Stack) → again f n (joined f st) ≡ joined f (again f n st)
again_after f zero st = refl
again_after f (suc n) st = ap (joined f) (again_after f n st)

pub run_cells : (line : List ℕ) (n : ℕ) (st : Stack) → run_from line st (replicate n op.ListCell) ≡ again dot_name n st
run_cells line zero st = refl
run_cells line (suc n) st = run_cells line n (joined dot_name st) ∙ again_after dot_name n st

pub run_conjunctions : (line : List ℕ) (n : ℕ) (st : Stack)
    → run_from line st (replicate n op.Conjunction) ≡ again comma_name n st
run_conjunctions line zero st = refl
run_conjunctions line (suc n) st = run_conjunctions line n (joined comma_name st) ∙ again_after comma_name n st

pub list_of_pushed : (ts : Writtens) (z : Written) (st : Stack)
    → again dot_name (size ts) (z ∷ pushed ts st) ≡ list_of ts z ∷ st
list_of_pushed nil z st = refl
list_of_pushed (cons t ts) z st = ap (joined dot_name) (list_of_pushed ts z (t ∷ st))

pub conj_of_pushed : (t : Written) (ts : Writtens) (st : Stack)
    → again comma_name (size ts) (pushed ts (t ∷ st)) ≡ conj_from t ts ∷ st
conj_of_pushed t nil st = refl
conj_of_pushed t (cons u us) st = ap (joined comma_name) (conj_of_pushed u us (t ∷ st))

pub taken_of_pushed : (ts : Writtens) (st : Stack)
    → take_many (size ts) (pushed ts st) ≡ record { stack = st; terms = ts }
taken_of_pushed nil st = refl
taken_of_pushed (cons t ts) st = ap (λ x. take_one x.stack x.terms) (taken_of_pushed ts (t ∷ st))

pub pushed_join : (ts us : Writtens) (st : Stack) → pushed (join ts us) st ≡ pushed us (pushed ts st)
pushed_join nil us st = refl
pushed_join (cons t ts) us st = pushed_join ts us (t ∷ st)

pub size_with_last : (ts : Writtens) (t : Written) → size (with_last ts t) ≡ suc (size ts)
size_with_last nil t = refl
size_with_last (cons u us) t = ap suc (size_with_last us t)

-- a conjunction of terms on top of the stack, one of which is there at least
pub conj_of_all : (ts : Writtens) (t : Written) (st : Stack)
    → again comma_name (size ts) (pushed (with_last ts t) st) ≡ conj (with_last ts t) ∷ st
conj_of_all nil t st = refl
conj_of_all (cons u us) t st =
    ap (λ n. again comma_name n (pushed (with_last us t) (u ∷ st))) (sym (size_with_last us t))
    ∙ conj_of_pushed u (with_last us t) st
