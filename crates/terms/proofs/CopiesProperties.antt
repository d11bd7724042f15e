-- The last node of a copy: behind its arguments, or a leaf and the call of it.
use Rattle.std.proofs.Common.{◌≡◌, ℕ, ◌+◌, ◌<◌, ◌≤◌, true, ltb, List, [], ◌∷◌, ◌++◌, length, get_or, take}
use Rattle.std.proofs.Common.{Some, None, Option, sym, refl, ap, ◌∙◌, subst, inl, inr, arith}
use Rattle.std.proofs.lemmas.List.{length_push, length-take, take-append-le, take-take, take_all, take_at}
use Rattle.std.proofs.lemmas.Bool.{lt-ltb, and_from}
use Rattle.terms.specs.declared.form.Form.{Form}
use Rattle.terms.specs.declared.form.Form.TheVariants.{Plain, Goal}
use Rattle.terms.specs.declared.node.Node.{Node}
use Rattle.terms.specs.declared.node.Node.TheVariants.{Var, Int, App}
use Rattle.terms.specs.Term.{Term, app, nil, cons, size}
use Rattle.terms.specs.Known.{call_name}
use Rattle.terms.specs.Rows.{build, meanings, meaning, fitting, fitting_from}
use Rattle.terms.specs.Places.{no_node, is_leaf, place_for, with_node}
use Rattle.terms.specs.Goals.{goal_form}
use Rattle.terms.specs.Copies.{Standard, Reads, formed, Added, Laid}
use Rattle.terms.proofs.RowsProperties.{meaning_new, meaning_build, push_cases}

-- a row that begins with another is at least as long
pub front_le : (B T : List Node) → take (length B) T ≡ B → length B ≤ length T
front_le B T e = let n = ap length e in let m = length-take (length B) T in omega arith

-- fronts of fronts
pub front_front : (B T A : List Node) → take (length B) T ≡ B → take (length T) A ≡ T → take (length B) A ≡ B
front_front B T A e d = sym (take-take (length B) (length T) A (front_le B T e)) ∙ ap (take (length B)) d ∙ e

-- the last node of a term, behind the others
pub added_push : (Good : List (List ℕ) → Type 0) (term : List (List ℕ) → Term) (B T : List Node) (x : Node)
    → take (length B) T ≡ B
    → ((ns : List (List ℕ)) → Good ns → length T + 1 ≡ length B + size (term ns))
    → ((ns : List (List ℕ)) → Good ns → build ns (meanings ns T) x ≡ term ns)
    → Added Good term B (T ++ x ∷ []) (length T)
added_push Good term B T x front grown means =
    let le = front_le B T front in
    record {
      last = sym (length_push T x);
      kept = take-append-le (length B) T (x ∷ []) le ∙ front;
      grown = λ ns g. length_push T x ∙ grown ns g;
      means = λ ns g. meaning_new ns T x ∙ means ns g;
    }

pub laid_push : (Good : List (List ℕ) → Type 0) (term : List (List ℕ) → Term) (limit : ℕ) (B T A : List Node)
    (x : Node) (r : Option ℕ)
    → take (length B) T ≡ B → fitting (length T) x ≡ true
    → ((ns : List (List ℕ)) → Good ns → length T + 1 ≡ length B + size (term ns))
    → ((ns : List (List ℕ)) → Good ns → build ns (meanings ns T) x ≡ term ns)
    → r ≡ place_for limit T x → A ≡ with_node limit T x → Laid Good term limit B A r
laid_push Good term limit B T A x r front fit grown means er ea =
    elim (push_cases limit T x r A fit er ea) [ inl w ↦ room w | inr w ↦ full w ]
  where
    room : (r ≡ Some (length T)) × (A ≡ T ++ x ∷ []) × (length T < limit) → Laid Good term limit B A r
    room w =
        subst (λ o. Laid Good term limit B A o) (sym w.0)
        (subst (λ l. Added Good term B l (length T)) (sym w.1) (added_push Good term B T x front grown means))

    full : (r ≡ None) × (A ≡ T) × (limit ≤ length T) → Laid Good term limit B A r
    full w =
        subst (λ o. Laid Good term limit B A o) (sym w.0)
        (ap (take (length B)) w.1 ∙ front, λ ns g. let n = grown ns g in let m = w.2 in omega arith)

pub leaf_build : (x : Node) → is_leaf x ≡ true → (ns : List (List ℕ)) (ts us : List Term)
    → build ns ts x ≡ build ns us x
leaf_build (Var v) e ns ts us = refl
leaf_build (Int i) e ns ts us = refl
leaf_build (App f n is) e ns ts us = let z : ◌≡◌ {A = ℕ} 0 1 = cc in absurd (omega arith)

pub leaf_form : (x : Node) → is_leaf x ≡ true → (ns : List (List ℕ)) (ts : List Term)
    → goal_form (build ns ts x) ≡ app call_name (cons (build ns ts x) nil)
leaf_form (Var v) e ns ts = refl
leaf_form (Int i) e ns ts = refl
leaf_form (App f n is) e ns ts = let z : ◌≡◌ {A = ℕ} 0 1 = cc in absurd (omega arith)

pub leaf_size : (x : Node) → is_leaf x ≡ true → (ns : List (List ℕ)) (ts : List Term) → size (build ns ts x) ≡ 1
leaf_size (Var v) e ns ts = refl
leaf_size (Int i) e ns ts = refl
leaf_size (App f n is) e ns ts = let z : ◌≡◌ {A = ℕ} 0 1 = cc in absurd (omega arith)

pub leaf_fits : (x : Node) → is_leaf x ≡ true → (j : ℕ) → fitting j x ≡ true
leaf_fits (Var v) e j = refl
leaf_fits (Int i) e j = refl
leaf_fits (App f n is) e j = let z : ◌≡◌ {A = ℕ} 0 1 = cc in absurd (omega arith)

-- a leaf alone
pub laid_leaf : (form : Form) (limit : ℕ) (B A : List Node) (x : Node) (r : Option ℕ) → form ≡ Plain
    → is_leaf x ≡ true → r ≡ place_for limit B x → A ≡ with_node limit B x
    → Laid (Reads form) (λ ns. formed form (build ns [] x)) limit B A r
laid_leaf form limit B A x r plain leaf er ea =
    laid_push (Reads form) (λ ns. formed form (build ns [] x)) limit B B A x r
    (take_all (length B) B (omega arith))
    (leaf_fits x leaf (length B))
    (λ ns g. let one = leaf_size x leaf ns [] in let e = ap (λ k. size (formed k (build ns [] x))) plain in
    omega arith)
    (λ ns g. leaf_build x leaf ns (meanings ns B) [] ∙ sym (ap (λ k. formed k (build ns [] x)) plain)) er ea

-- a leaf that stands, and the call of it
called : (form : Form) (limit : ℕ) (B T A : List Node) (x : Node) (p : ℕ) (is : List ℕ) (r : Option ℕ)
    → form ≡ Goal → is_leaf x ≡ true → p ≡ length B → T ≡ B ++ x ∷ []
    → r ≡ place_for limit T (App 6 1 (p ∷ is)) → A ≡ with_node limit T (App 6 1 (p ∷ is))
    → Laid (Reads form) (λ ns. formed form (build ns [] x)) limit B A r
called form limit B T A x p is r whole leaf ep et er ea =
    laid_push (Reads form) (λ ns. formed form (build ns [] x)) limit B T A (App 6 1 (p ∷ is)) r
    (ap (take (length B)) et ∙ take_at B (x ∷ []) (length B) refl)
    (and_from (ltb p (length T)) true (lt-ltb p (length T) (let n = longer in omega arith)) refl) grown means er ea
  where
    longer : length T ≡ length B + 1
    longer = ap length et ∙ length_push B x

    grown : (ns : List (List ℕ)) → Reads form ns → length T + 1 ≡ length B + size (formed form (build ns [] x))
    grown ns g =
        let n = longer in
        let one = leaf_size x leaf ns [] in
        let e = ap (λ k. size (formed k (build ns [] x))) whole in
        let d = ap size (leaf_form x leaf ns []) in
        omega arith

    leaf_there : (ns : List (List ℕ)) → meaning ns T p ≡ build ns [] x
    leaf_there ns =
        ap (λ l. meaning ns l p) et ∙ ap (meaning ns (B ++ x ∷ [])) ep
        ∙ meaning_new ns B x ∙ leaf_build x leaf ns (meanings ns B) []

    means : (ns : List (List ℕ)) → Reads form ns
        → build ns (meanings ns T) (App 6 1 (p ∷ is)) ≡ formed form (build ns [] x)
    means ns g =
        let standard : Standard ns = subst (λ k. Reads k ns) whole g in
        ap (λ f. app f (cons (meaning ns T p) nil)) standard.call
        ∙ ap (λ t. app call_name (cons t nil)) (leaf_there ns)
        ∙ sym (leaf_form x leaf ns [])
        ∙ sym (ap (λ k. formed k (build ns [] x)) whole)

pub laid_call : (form : Form) (limit : ℕ) (B T A : List Node) (x : Node) (p : ℕ) (is : List ℕ) (q r : Option ℕ)
    → form ≡ Goal → is_leaf x ≡ true
    → q ≡ Some p → q ≡ place_for limit B x → T ≡ with_node limit B x
    → r ≡ place_for limit T (App 6 1 (p ∷ is)) → A ≡ with_node limit T (App 6 1 (p ∷ is))
    → Laid (Reads form) (λ ns. formed form (build ns [] x)) limit B A r
laid_call form limit B T A x p is q r whole leaf eq ep et er ea =
    elim (push_cases limit B x q T (leaf_fits x leaf (length B)) ep et) [
      | inl w ↦ stands w.0 w.1
      | inr w ↦ full w.0
    ]
  where
    stands : q ≡ Some (length B) → T ≡ B ++ x ∷ []
        → Laid (Reads form) (λ ns. formed form (build ns [] x)) limit B A r
    stands e f = let d : p ≡ length B = cc in called form limit B T A x p is r whole leaf d f er ea

    full : q ≡ None → Laid (Reads form) (λ ns. formed form (build ns [] x)) limit B A r
    full e = let z : ◌≡◌ {A = ℕ} 0 1 = cc in absurd (omega arith)

-- the leaf that stands at a place
pub laid_at : (form : Form) (limit : ℕ) (S B A : List Node) (at : ℕ) (x : Node) (r : Option ℕ)
    → fitting_from 0 S ≡ true → at < length S
    → get_or S at no_node ≡ x → is_leaf x ≡ true → Laid (Reads form) (λ ns. formed form (build ns [] x)) limit B A r
    → Laid (Reads form) (λ ns. formed form (meaning ns S at)) limit B A r
laid_at form limit S B A at x r fit l e leaf laid = again r laid
  where
    same : (ns : List (List ℕ)) → formed form (build ns [] x) ≡ formed form (meaning ns S at)
    same ns =
        ap (formed form) (leaf_build x leaf ns [] (meanings ns S) ∙ ap (build ns (meanings ns S)) (sym e)
        ∙ sym (meaning_build ns S fit at l))

    again : (o : Option ℕ) → Laid (Reads form) (λ ns. formed form (build ns [] x)) limit B A o
        → Laid (Reads form) (λ ns. formed form (meaning ns S at)) limit B A o
    again None h = (h.0, λ ns g. let a = h.1 ns g in let b = ap size (same ns) in omega arith)
    again (Some p) h =
        record {
          last = h.last;
          kept = h.kept;
          grown = λ ns g. let a = h.grown ns g in let b = ap size (same ns) in omega arith;
          means = λ ns g. h.means ns g ∙ same ns;
        }
