-- Goal forms of arguments, and their sizes.
use Rattle.std.proofs.Common.{◌≡◌, ℕ, zero, suc, ◌+◌, ◌≤◌, Bool, true, false, cond, ◌&&◌, ◌||◌, eqb, List, [], ◌∷◌}
use Rattle.std.proofs.Common.{length, get_or, take, sym, refl, ap, ◌∙◌, add_assoc, zero-add, arith}
use Rattle.terms.specs.Term.{Term, Terms, var, int, app, nil, cons, join, count, size, sizes}
use Rattle.terms.specs.Rows.{terms_at}
use Rattle.terms.specs.Goals.{goal_form, goal_forms}
use Rattle.terms.specs.declared.form.Form.{Form}
use Rattle.terms.specs.declared.form.Form.TheVariants.{Plain, Goal}
use Rattle.terms.specs.Copies.{Standard, Reads, formed, passed_on}

pub size_positive : (t : Term) → 1 ≤ size t
size_positive (var v) = omega arith
size_positive (int i) = omega arith
size_positive (app f ts) = omega arith

pub sizes_join : (ts us : Terms) → sizes (join ts us) ≡ sizes ts + sizes us
sizes_join nil us = sym (zero-add (sizes us))
sizes_join (cons t ts) us = ap (λ n. size t + n) (sizes_join ts us) ∙ sym (add_assoc (size t) (sizes ts) (sizes us))

pub count_terms_at : (ts : List Term) (is : List ℕ) → count (terms_at ts is) ≡ length is
count_terms_at ts [] = refl
count_terms_at ts (i ∷ is) = ap suc (count_terms_at ts is)

-- the arguments, each in this form
abbrev pub forms : Form → Terms → Terms
forms form nil = nil
forms form (cons t ts) = cons (formed form t) (forms form ts)

forms_plain : (ts : Terms) → forms Plain ts ≡ ts
forms_plain nil = refl
forms_plain (cons t ts) = ap (cons t) (forms_plain ts)

forms_goals : (b : Bool) (ts : Terms) → forms (cond b Goal Plain) ts ≡ goal_forms b ts
forms_goals b nil = refl
forms_goals true (cons t ts) = ap (cons (goal_form t)) (forms_goals true ts)
forms_goals false (cons t ts) = ap (cons t) (forms_goals false ts)

pub forms_join : (form : Form) (ts us : Terms) → forms form (join ts us) ≡ join (forms form ts) (forms form us)
forms_join form nil us = refl
forms_join form (cons t ts) us = ap (cons (formed form t)) (forms_join form ts us)

-- an application that is told by number to be a control, with its arguments
pub formed_app : (form : Form) (ns : List (List ℕ)) → Reads form ns → (f n : ℕ) (ts : Terms) → count ts ≡ n
    → formed form (app (get_or ns f []) ts) ≡ app (get_or ns f []) (forms (passed_on form f n) ts)
formed_app Plain ns reads f n ts e = ap (app (get_or ns f [])) (sym (forms_plain ts))
formed_app Goal ns reads f n ts e =
    ap (λ b. app (get_or ns f []) (goal_forms (b && eqb (count ts) 2) ts)) (reads.control f)
    ∙ ap (λ m. app (get_or ns f []) (goal_forms ((eqb f 3 || eqb f 4) && eqb m 2) ts)) e
    ∙ ap (app (get_or ns f [])) (sym (forms_goals ((eqb f 3 || eqb f 4) && eqb n 2) ts))

-- names that serve for a form serve for that of the arguments
standard_reads : (b : Bool) (ns : List (List ℕ)) → Standard ns → Reads (cond b Goal Plain) ns
standard_reads true ns standard = standard
standard_reads false ns standard = tt

pub reads_passed : (form : Form) (ns : List (List ℕ)) (f n : ℕ) → Reads form ns → Reads (passed_on form f n) ns
reads_passed Plain ns f n reads = tt
reads_passed Goal ns f n reads = standard_reads ((eqb f 3 || eqb f 4) && eqb n 2) ns reads

-- fewer places, fewer nodes
pub sizes_take : (form : Form) (ts : List Term) (j k : ℕ) (is : List ℕ) → j ≤ k
    → sizes (forms form (terms_at ts (take j is))) ≤ sizes (forms form (terms_at ts (take k is)))
sizes_take form ts zero k is l = omega arith
sizes_take form ts (suc j) zero is l = absurd (omega arith)
sizes_take form ts (suc j) (suc k) [] l = omega arith
sizes_take form ts (suc j) (suc k) (i ∷ is) l =
    let rest = sizes_take form ts j k is (omega arith) in omega arith
