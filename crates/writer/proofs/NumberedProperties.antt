-- The texts of arguments, one after another.
use Rattle.std.proofs.Common.{◌≡◌, ℕ, suc, ◌+◌, ◌<◌, ◌≤◌, cond, eqb, List, [], ◌∷◌, ◌++◌, length, get_or, take, drop}
use Rattle.std.proofs.Common.{pos, sym, refl, ap, ◌∙◌, append_assoc, append-nil, arith}
use Rattle.std.proofs.lemmas.List.{length-append, take-append-drop, take-take, take_more, length-take-le}
use Rattle.std.proofs.lemmas.Bool.{ne_eqb}
use Rattle.terms.specs.Term.{Term, Terms, int, nil, cons, join, count}
use Rattle.terms.specs.Rows.{terms_at}
use Rattle.terms.proofs.RowsProperties.{terms_at_append}
use Rattle.grammar.specs.Written as written
use Rattle.writing.specs.Writing as writing
use Rattle.writing.specs.Writing.{text_at, arguments_text, others_text}
use Rattle.writer.specs.declared.piece.Form.{Form}
use Rattle.writer.specs.declared.piece.Spot.TheVariants.{Alone}
use Rattle.writer.specs.Pieces.{spot_of, others_spot, argument_spot}
use Rattle.writer.specs.Shown.{firsts, firsts_all}
use Rattle.writer.specs.Numbered.{numbered, all_numbered}

firsts_all_more : (xs : List ℕ) (ts : Terms) (t : Term)
    → firsts_all xs (join ts (cons t nil)) ≡ firsts (firsts_all xs ts) t
firsts_all_more xs nil t = refl
firsts_all_more xs (cons u us) t = firsts_all_more (firsts xs u) us t

others_text_more : (q : writing.Spot) (xs : List ℕ) (ts : Terms) (t : Term)
    → others_text q (all_numbered xs (join ts (cons t nil)))
    ≡ others_text q (all_numbered xs ts) ++ text_at q (numbered (firsts_all xs ts) t)
others_text_more q xs nil t = append-nil (text_at q (numbered xs t))
others_text_more q xs (cons u us) t =
    ap (λ s. text_at q (numbered xs u) ++ s) (others_text_more q (firsts xs u) us t)
    ∙ sym (append_assoc (text_at q (numbered xs u)) (others_text q (all_numbered (firsts xs u) us))
    (text_at q (numbered (firsts_all (firsts xs u) us) t)))

arguments_text_more : (k : Form) (xs : List ℕ) (ts : Terms) (t : Term) (n : ℕ) → count ts ≡ n
    → arguments_text (spot_of (others_spot k)) (all_numbered xs (join ts (cons t nil)))
    ≡ arguments_text (spot_of (others_spot k)) (all_numbered xs ts)
    ++ text_at (spot_of (argument_spot k n)) (numbered (firsts_all xs ts) t)
arguments_text_more k xs nil t n e =
    append-nil (text_at writing.alone (numbered xs t))
    ∙ ap (λ m. text_at (spot_of (cond (eqb m 0) Alone (others_spot k))) (numbered xs t)) e
arguments_text_more k xs (cons u us) t n e =
    let q = spot_of (others_spot k) in
    ap (λ s. text_at writing.alone (numbered xs u) ++ s) (others_text_more q (firsts xs u) us t)
    ∙ sym (append_assoc (text_at writing.alone (numbered xs u)) (others_text q (all_numbered (firsts xs u) us))
    (text_at q (numbered (firsts_all (firsts xs u) us) t)))
    ∙ ap (λ b. (text_at writing.alone (numbered xs u) ++ others_text q (all_numbered (firsts xs u) us))
    ++ text_at (spot_of (cond b Alone (others_spot k))) (numbered (firsts_all (firsts xs u) us) t))
    (sym (ne_eqb n 0 (λ z. omega arith)))

others_text_longer : (q : writing.Spot) (xs : List ℕ) (ts us : Terms)
    → length (others_text q (all_numbered xs ts)) ≤ length (others_text q (all_numbered xs (join ts us)))
others_text_longer q xs nil us = omega arith
others_text_longer q xs (cons t ts) us =
    let l = others_text_longer q (firsts xs t) ts us in
    let a = length-append (text_at q (numbered xs t)) (others_text q (all_numbered (firsts xs t) ts)) in
    let b = length-append (text_at q (numbered xs t)) (others_text q (all_numbered (firsts xs t) (join ts us))) in
    omega arith

arguments_text_longer : (q : writing.Spot) (xs : List ℕ) (ts us : Terms)
    → length (arguments_text q (all_numbered xs ts)) ≤ length (arguments_text q (all_numbered xs (join ts us)))
arguments_text_longer q xs nil us = omega arith
arguments_text_longer q xs (cons t ts) us =
    let l = others_text_longer q (firsts xs t) ts us in
    let a = length-append (text_at writing.alone (numbered xs t)) (others_text q (all_numbered (firsts xs t) ts)) in
    let b = length-append (text_at writing.alone (numbered xs t)) (others_text q (all_numbered (firsts xs t) (join ts us))) in
    omega arith

pub count_terms_at : (ts : List Term) (is : List ℕ) → count (terms_at ts is) ≡ length is
count_terms_at ts [] = refl
count_terms_at ts (i ∷ is) = ap suc (count_terms_at ts is)

pub size_all_numbered : (xs : List ℕ) (ts : Terms) → written.size (all_numbered xs ts) ≡ count ts
size_all_numbered xs nil = refl
size_all_numbered xs (cons t ts) = ap suc (size_all_numbered (firsts xs t) ts)

-- the arguments at the first n places: their text, and what is seen behind them
abbrev pub part_text : Form → List ℕ → List Term → List ℕ → ℕ → List ℕ
part_text k xs ts is n = arguments_text (spot_of (others_spot k)) (all_numbered xs (terms_at ts (take n is)))

abbrev pub part_seen : List ℕ → List Term → List ℕ → ℕ → List ℕ
part_seen xs ts is n = firsts_all xs (terms_at ts (take n is))

terms_at_more : (ts : List Term) (is : List ℕ) (n : ℕ) → n < length is
    → terms_at ts (take (n + 1) is) ≡ join (terms_at ts (take n is)) (cons (get_or ts (get_or is n 0) (int (pos 0))) nil)
terms_at_more ts is n l =
    ap (terms_at ts) (take_more is n 0 l) ∙ terms_at_append ts (take n is) (get_or is n 0 ∷ [])

pub part_text_more : (k : Form) (xs : List ℕ) (ts : List Term) (is : List ℕ) (n i : ℕ) → n < length is
    → i ≡ get_or is n 0
    → part_text k xs ts is (n + 1)
    ≡ part_text k xs ts is n
    ++ text_at (spot_of (argument_spot k n)) (numbered (part_seen xs ts is n) (get_or ts i (int (pos 0))))
part_text_more k xs ts is n i l e =
    ap (λ us. arguments_text (spot_of (others_spot k)) (all_numbered xs us)) (terms_at_more ts is n l)
    ∙ arguments_text_more k xs (terms_at ts (take n is)) (get_or ts (get_or is n 0) (int (pos 0))) n
    (count_terms_at ts (take n is) ∙ length-take-le n is (omega arith))
    ∙ ap (λ j. part_text k xs ts is n
    ++ text_at (spot_of (argument_spot k n)) (numbered (part_seen xs ts is n) (get_or ts j (int (pos 0))))) (sym e)

pub part_seen_more : (xs : List ℕ) (ts : List Term) (is : List ℕ) (n i : ℕ) → n < length is → i ≡ get_or is n 0
    → part_seen xs ts is (n + 1) ≡ firsts (part_seen xs ts is n) (get_or ts i (int (pos 0)))
part_seen_more xs ts is n i l e =
    ap (firsts_all xs) (terms_at_more ts is n l)
    ∙ firsts_all_more xs (terms_at ts (take n is)) (get_or ts (get_or is n 0) (int (pos 0)))
    ∙ ap (λ j. firsts (part_seen xs ts is n) (get_or ts j (int (pos 0)))) (sym e)

pub part_text_longer : (k : Form) (xs : List ℕ) (ts : List Term) (is : List ℕ) (m n : ℕ) → m ≤ n
    → length (part_text k xs ts is m) ≤ length (part_text k xs ts is n)
part_text_longer k xs ts is m n l =
    let q = spot_of (others_spot k) in
    let e : take n is ≡ take m is ++ drop m (take n is) =
    sym (take-append-drop m (take n is)) ∙ ap (λ s. s ++ drop m (take n is)) (take-take m n is l) in
    let d = ap (λ s. length (arguments_text q (all_numbered xs (terms_at ts s)))) e
    ∙ ap (λ us. length (arguments_text q (all_numbered xs us))) (terms_at_append ts (take m is) (drop m (take n is))) in
    let far = arguments_text_longer q xs (terms_at ts (take m is)) (terms_at ts (drop m (take n is))) in
    omega arith
