-- The terms at places of a row.
use Rattle.std.proofs.Common.{◌≡◌, ℕ, zero, suc, true, ltb, List, [], ◌∷◌, ◌++◌, length, take, drop, refl, ap, ◌∙◌}
use Rattle.std.proofs.Common.{arith}
use Rattle.std.proofs.lemmas.List.{length_push}
use Rattle.std.proofs.lemmas.Bool.{ltb-true, and_parts, and_from}
use Rattle.terms.specs.declared.node.Node.{Node}
use Rattle.terms.specs.Rows.{terms_at, meanings, meaning, all_below}
use Rattle.terms.specs.Term as term
use Rattle.terms.specs.Term.{Term, Terms}
use Rattle.terms.proofs.RowsProperties.{meaning_old}
use Rattle.reader.specs.Ops.{Stack}
use Rattle.text.specs.Numbering.{met_stack, numbered, numbered_stack}
use Rattle.text.specs.Building.{meanings_at}
use Rattle.text.proofs.StacksProperties.{listed}

-- the terms at places

pub meanings_at_append : (ns : List (List ℕ)) (nodes : List Node) (ps qs : List ℕ)
    → meanings_at ns nodes (ps ++ qs) ≡ meanings_at ns nodes ps ++ meanings_at ns nodes qs
meanings_at_append ns nodes [] qs = refl
meanings_at_append ns nodes (p ∷ ps) qs = ap (λ l. meaning ns nodes p ∷ l) (meanings_at_append ns nodes ps qs)

pub meanings_at_old : (ns : List (List ℕ)) (nodes : List Node) (x : Node) (ps : List ℕ) → all_below (length nodes) ps ≡ true
    → meanings_at ns (nodes ++ x ∷ []) ps ≡ meanings_at ns nodes ps
meanings_at_old ns nodes x [] below = refl
meanings_at_old ns nodes x (p ∷ ps) below =
    let two = and_parts (ltb p (length nodes)) (all_below (length nodes) ps) below in
    ap (λ t. t ∷ meanings_at ns (nodes ++ x ∷ []) ps)
    (meaning_old ns nodes (x ∷ []) p (ltb-true p (length nodes) two.0))
    ∙ ap (λ l. meaning ns nodes p ∷ l) (meanings_at_old ns nodes x ps two.1)

pub meanings_at_take : (ns : List (List ℕ)) (nodes : List Node) (k : ℕ) (ps : List ℕ)
    → meanings_at ns nodes (take k ps) ≡ take k (meanings_at ns nodes ps)
meanings_at_take ns nodes zero ps = refl
meanings_at_take ns nodes (suc k) [] = refl
meanings_at_take ns nodes (suc k) (p ∷ ps) = ap (λ l. meaning ns nodes p ∷ l) (meanings_at_take ns nodes k ps)

pub meanings_at_drop : (ns : List (List ℕ)) (nodes : List Node) (k : ℕ) (ps : List ℕ)
    → meanings_at ns nodes (drop k ps) ≡ drop k (meanings_at ns nodes ps)
meanings_at_drop ns nodes zero ps = refl
meanings_at_drop ns nodes (suc k) [] = refl
meanings_at_drop ns nodes (suc k) (p ∷ ps) = meanings_at_drop ns nodes k ps

pub length_meanings_at : (ns : List (List ℕ)) (nodes : List Node) (ps : List ℕ) → length (meanings_at ns nodes ps) ≡ length ps
length_meanings_at ns nodes [] = refl
length_meanings_at ns nodes (p ∷ ps) = ap suc (length_meanings_at ns nodes ps)

pub length_numbered_stack : (st : Stack) → length (numbered_stack st) ≡ length st
length_numbered_stack [] = refl
length_numbered_stack (t ∷ st) =
    let e = length_push (numbered_stack st) (numbered (met_stack st) t) in
    let r = length_numbered_stack st in
    omega arith

pub all_below_take : (j k : ℕ) (ps : List ℕ) → all_below j ps ≡ true → all_below j (take k ps) ≡ true
all_below_take j zero ps below = refl
all_below_take j (suc k) [] below = refl
all_below_take j (suc k) (p ∷ ps) below =
    let two = and_parts (ltb p j) (all_below j ps) below in
    and_from (ltb p j) (all_below j (take k ps)) two.0 (all_below_take j k ps two.1)

pub all_below_drop : (j k : ℕ) (ps : List ℕ) → all_below j ps ≡ true → all_below j (drop k ps) ≡ true
all_below_drop j zero ps below = below
all_below_drop j (suc k) [] below = refl
all_below_drop j (suc k) (p ∷ ps) below =
    all_below_drop j k ps (and_parts (ltb p j) (all_below j ps) below).1

abbrev pub together : List Term → Terms
together [] = term.nil
together (t ∷ ts) = term.cons t (together ts)

pub together_listed : (ts : Terms) → together (listed ts) ≡ ts
together_listed term.nil = refl
together_listed (term.cons t ts) = ap (term.cons t) (together_listed ts)

pub terms_at_together : (ns : List (List ℕ)) (nodes : List Node) (ps : List ℕ)
    → terms_at (meanings ns nodes) ps ≡ together (meanings_at ns nodes ps)
terms_at_together ns nodes [] = refl
terms_at_together ns nodes (p ∷ ps) = ap (term.cons (meaning ns nodes p)) (terms_at_together ns nodes ps)
