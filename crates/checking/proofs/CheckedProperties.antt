-- A rule is written piece by piece: all of it, or it is longer than the line.
use Rattle.std.proofs.Common.{◌≡◌, ℕ, ◌+◌, ◌<◌, true, false, List, [], ◌++◌, length, is_err, Ok, Err, Result, sym, ap}
use Rattle.std.proofs.Common.{◌∙◌, append-nil, arith, length-append, leb-false}
use Rattle.std.proofs.Common.{eqb, ◌&&◌, ◌∷◌, refl}
use Rattle.std.specs.Cmp.Lexicographic.{pointwise}
use Rattle.tokens.specs.Bytes.{same}
use Rattle.tokens.proofs.BytesProperties.{false_true}
use Rattle.writer.specs.declared.fault.DoesNotFit.{DoesNotFit}
use Rattle.writer.specs.declared.line.LineWriter.{LineWriter}
use Rattle.terms.specs.Term.{Term}
use Rattle.writer.specs.Lines.{line_bytes, line_seen, line_limit, fits, Added, TermAdded}
use Rattle.writer.specs.Shown.{shown}
use Rattle.checking.specs.Checked.{WroteAs}

-- a piece that does not fit is part of a text that is too long
pub piece_too_long : (w : LineWriter) (front piece rest all : List ℕ) → line_bytes w ≡ front → line_limit w ≡ 65536
    → (front ++ piece) ++ rest ≡ all → false ≡ fits w piece → 65536 < length all
piece_too_long w front piece rest all b l h f =
    let n = leb-false (length (line_bytes w) + length piece) (line_limit w) (sym f) in
    let e = ap length b in
    let g = ap length h in
    let i = length-append (front ++ piece) rest in
    let j = length-append front piece in
    omega arith

pub not_written : (all bytes : List ℕ) (r : Result (Unit {0}) DoesNotFit) → is_err r ≡ true → 65536 < length all → WroteAs all bytes r
not_written all bytes (Ok x) h l = false_true h
not_written all bytes (Err e) h l = l

-- the last piece
pub last_piece : (w v : LineWriter) (r : Result (Unit {0}) DoesNotFit) (front piece seen all : List ℕ) → line_bytes w ≡ front → line_limit w ≡ 65536
    → front ++ piece ≡ all → Added w v piece seen r → WroteAs all (line_bytes v) r
last_piece w v (Ok x) front piece seen all b l h a = a.bytes ∙ ap (λ s. s ++ piece) b ∙ h
last_piece w v (Err e) front piece seen all b l h a = piece_too_long w front piece [] all b l (append-nil (front ++ piece) ∙ h) a.value

-- a line with these bytes and variables
pub record Line (w : LineWriter) (bytes seen : List ℕ) : Type 0 where
  pub holds : line_bytes w ≡ bytes
  pub numbers : line_seen w ≡ seen
  pub wide : line_limit w ≡ 65536

pub term_off : (w v : LineWriter) (bytes seen rest all : List ℕ) (t : Term) (e : DoesNotFit) → Line w bytes seen → TermAdded w v t (Err e)
    → (bytes ++ shown seen t) ++ rest ≡ all → 65536 < length all
term_off w v bytes seen rest all t e k a h =
    piece_too_long w bytes (shown seen t) rest all k.holds k.wide h (a.value ∙ ap (λ s. fits w (shown s t)) k.numbers)

-- `==` of two texts says whether they are the same
pub pointwise_same : (xs ys : List ℕ) → pointwise eqb xs ys ≡ same xs ys
pointwise_same [] [] = refl
pointwise_same [] (y ∷ ys) = refl
pointwise_same (x ∷ xs) [] = refl
pointwise_same (x ∷ xs) (y ∷ ys) = ap (λ b. eqb x y && b) (pointwise_same xs ys)
