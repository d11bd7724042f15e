-- A term's text is what stands before the arguments, the arguments, and what stands behind them.
use Rattle.std.proofs.Common.{◌≡◌, ℕ, Bool, true, false, cond, eqb, List, [], ◌∷◌, ◌++◌, sym, refl, ap, ◌∙◌}
use Rattle.std.proofs.Common.{append_assoc, append-nil, arith}
use Rattle.std.proofs.lemmas.Bool.{ne_eqb}
use Rattle.terms.specs.Known.{comma_name, dot_name, empty_name}
use Rattle.tokens.specs.Bytes.{same}
use Rattle.grammar.specs.Written as written
use Rattle.writing.specs.Writing as writing
use Rattle.writing.specs.Writing.{placed, form_text, others, text_at, arguments_text, name_text}
use Rattle.writer.specs.declared.piece.Spot.{Spot}
use Rattle.writer.specs.declared.piece.Spot.TheVariants.{Alone, Argument, InList, InConjunction}
use Rattle.writer.specs.declared.piece.Form.{Form}
use Rattle.writer.specs.declared.piece.Form.TheVariants.{Constant, Empty, List as AList, Conjunction, Plain}
use Rattle.writer.specs.Pieces.{spot_of, form_of, others_spot, opening_text, closing_text, spot_before, spot_after}

-- the text of a form with arguments s
abbrev parts : Spot → Form → List ℕ → List ℕ → List ℕ
parts p k f s = (opening_text p k f ++ s) ++ closing_text p k

constant_parts : (p : Spot) (f : List ℕ) → form_text (spot_of p) writing.constant f [] ≡ parts p Constant f []
constant_parts Alone f = sym (append-nil (name_text f ++ []) ∙ append-nil (name_text f))
constant_parts Argument f = sym (append-nil ((44 ∷ name_text f) ++ []) ∙ append-nil (44 ∷ name_text f))
constant_parts InList f = ap (λ s. s ++ 93 ∷ []) (sym (append-nil (124 ∷ name_text f)))
constant_parts InConjunction f = ap (λ s. s ++ 41 ∷ []) (sym (append-nil (44 ∷ name_text f)))

empty_parts : (p : Spot) (f : List ℕ) → form_text (spot_of p) writing.empty f [] ≡ parts p Empty f []
empty_parts Alone f = refl
empty_parts Argument f = refl
empty_parts InList f = refl
empty_parts InConjunction f = refl

list_parts : (p : Spot) (f s : List ℕ) → form_text (spot_of p) writing.list f s ≡ parts p AList f s
list_parts Alone f s = sym (append-nil (91 ∷ s))
list_parts Argument f s = sym (append-nil (44 ∷ 91 ∷ s))
list_parts InList f s = sym (append-nil (44 ∷ s))
list_parts InConjunction f s = refl

conjunction_parts : (p : Spot) (f s : List ℕ) → form_text (spot_of p) writing.conjunction f s ≡ parts p Conjunction f s
conjunction_parts Alone f s = sym (append-nil (40 ∷ s))
conjunction_parts Argument f s = sym (append-nil (44 ∷ 40 ∷ s))
conjunction_parts InList f s = refl
conjunction_parts InConjunction f s = sym (append-nil (44 ∷ s))

plain_parts : (p : Spot) (f s : List ℕ) → form_text (spot_of p) writing.plain f s ≡ parts p Plain f s
plain_parts Alone f s = simp append_assoc
plain_parts Argument f s = simp append_assoc
plain_parts InList f s = simp append_assoc
plain_parts InConjunction f s = simp append_assoc

-- the text of a name with arguments, of such a form
abbrev text_as : Spot → writing.Form → List ℕ → written.Writtens → List ℕ
text_as p k f ws = form_text (spot_of p) k f (arguments_text (others k) ws)

abbrev parts_as : Spot → Form → List ℕ → written.Writtens → List ℕ
parts_as p k f ws = parts p k f (arguments_text (spot_of (others_spot k)) ws)

none_parts : (p : Spot) (f : List ℕ) (b : Bool)
    → text_as p (cond b writing.empty writing.constant) f written.nil ≡ parts_as p (cond b Empty Constant) f written.nil
none_parts p f true = empty_parts p f
none_parts p f false = constant_parts p f

two_parts : (p : Spot) (f : List ℕ) (ws : written.Writtens) (b d : Bool)
    → text_as p (cond b writing.list (cond d writing.conjunction writing.plain)) f ws
    ≡ parts_as p (cond b AList (cond d Conjunction Plain)) f ws
two_parts p f ws true d = list_parts p f (arguments_text writing.in_list ws)
two_parts p f ws false true = conjunction_parts p f (arguments_text writing.in_conjunction ws)
two_parts p f ws false false = plain_parts p f (arguments_text writing.argument ws)

plain_form : (f : List ℕ) (n : ℕ) → (n ≡ 0 → ⊥) → (n ≡ 2 → ⊥) → form_of f n ≡ Plain
plain_form f n few two =
    ap (λ b. cond b (cond (same f empty_name) Empty Constant)
    (cond (eqb n 2) (cond (same f dot_name) AList (cond (same f comma_name) Conjunction Plain)) Plain)) (ne_eqb n 0 few)
    ∙ ap (λ b. cond b (cond (same f dot_name) AList (cond (same f comma_name) Conjunction Plain)) Plain) (ne_eqb n 2 two)

pub app_parts : (p : Spot) (f : List ℕ) (ws : written.Writtens) (n : ℕ) → written.size ws ≡ n
    → parts_as p (form_of f n) f ws ≡ text_at (spot_of p) (written.app f ws)
app_parts p f written.nil n e =
    ap (λ m. parts_as p (form_of f m) f written.nil) (sym e) ∙ sym (none_parts p f (same f empty_name))
app_parts p f (written.cons t written.nil) n e =
    ap (λ k. parts_as p k f (written.cons t written.nil)) (plain_form f n (λ z. omega arith) (λ z. omega arith))
    ∙ sym (plain_parts p f (arguments_text writing.argument (written.cons t written.nil)))
app_parts p f (written.cons t (written.cons u written.nil)) n e =
    ap (λ m. parts_as p (form_of f m) f (written.cons t (written.cons u written.nil))) (sym e)
    ∙ sym (two_parts p f (written.cons t (written.cons u written.nil)) (same f dot_name) (same f comma_name))
app_parts p f (written.cons t (written.cons u (written.cons v vs))) n e =
    ap (λ k. parts_as p k f (written.cons t (written.cons u (written.cons v vs))))
    (plain_form f n (λ z. omega arith) (λ z. omega arith))
    ∙ sym (plain_parts p f (arguments_text writing.argument (written.cons t (written.cons u (written.cons v vs)))))

-- a sign and digits between what the spot asks for
pub number_parts : (p : Spot) (s t : List ℕ) → ((spot_before p ++ s) ++ t) ++ spot_after p ≡ placed (spot_of p) (s ++ t)
number_parts Alone s t = append-nil (s ++ t)
number_parts Argument s t = append-nil (44 ∷ (s ++ t))
number_parts InList s t = simp append_assoc
number_parts InConjunction s t = simp append_assoc
