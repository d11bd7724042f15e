-- Places below a place, and rows in which every node may stand where it stands.
use Rattle.std.proofs.Common.{◌≡◌, ℕ, zero, suc, ◌+◌, ◌<◌, ◌≤◌, Bool, true, false, ◌&&◌, ltb, leb, List, [], ◌∷◌, ◌++◌}
use Rattle.std.proofs.Common.{length, get_or, take, sym, refl, ap, ◌∙◌, add-zero, zero-add, arith}
use Rattle.std.proofs.lemmas.List.Folds.{list_all-append}
use Rattle.std.proofs.lemmas.Bool.{ltb-true, leb-true, lt-ltb, and_parts, and_from}
use Rattle.terms.specs.declared.node.Node.{Node}
use Rattle.terms.specs.declared.node.Node.TheVariants.{App}
use Rattle.terms.specs.Rows.{all_below, fitting, fitting_from}
use Rattle.terms.specs.Places.{no_node}

pub and_assoc : (x y z : Bool) → (x && (y && z)) ≡ ((x && y) && z)
and_assoc true y z = refl
and_assoc false y z = refl

pub all_below_push : (j : ℕ) (is : List ℕ) (i : ℕ) → all_below j is ≡ true → i < j → all_below j (is ++ i ∷ []) ≡ true
all_below_push j is i below l =
    list_all-append (λ k. ltb k j) is (i ∷ [])
    ∙ and_from (all_below j is) (all_below j (i ∷ [])) below (and_from (ltb i j) true (lt-ltb i j l) refl)

pub all_below_at : (j : ℕ) (is : List ℕ) → all_below j is ≡ true → (k : ℕ) → k < length is → get_or is k 0 < j
all_below_at j [] below k l = omega arith
all_below_at j (i ∷ is) below zero l = ltb-true i j (and_parts (ltb i j) (all_below j is) below).0
all_below_at j (i ∷ is) below (suc k) l =
    all_below_at j is (and_parts (ltb i j) (all_below j is) below).1 k (omega arith)

pub all_below_more : (j k : ℕ) → j ≤ k → (is : List ℕ) → all_below j is ≡ true → all_below k is ≡ true
all_below_more j k l [] below = refl
all_below_more j k l (i ∷ is) below =
    let two = and_parts (ltb i j) (all_below j is) below in
    let less = ltb-true i j two.0 in
    and_from (ltb i k) (all_below k is) (lt-ltb i k (omega arith)) (all_below_more j k l is two.1)

pub fitting_args : (j f n : ℕ) (is : List ℕ) → fitting j (App f n is) ≡ true
    → (n ≤ 8) × (all_below j (take n is) ≡ true)
fitting_args j f n is fit =
    let two = and_parts (leb n 8) (all_below j (take n is)) fit in (leb-true n 8 two.0, two.1)

pub fitting_from_append : (j : ℕ) (xs ys : List Node)
    → fitting_from j (xs ++ ys) ≡ (fitting_from j xs && fitting_from (j + length xs) ys)
fitting_from_append j [] ys = ap (λ n. fitting_from n ys) (sym (add-zero j))
fitting_from_append j (x ∷ xs) ys =
    let e : (j + 1) + length xs ≡ j + suc (length xs) = omega arith in
    ap (λ b. fitting j x && b) (fitting_from_append (j + 1) xs ys
    ∙ ap (λ n. fitting_from (j + 1) xs && fitting_from n ys) e)
    ∙ and_assoc (fitting j x) (fitting_from (j + 1) xs) (fitting_from (j + suc (length xs)) ys)

pub fitting_from_push : (xs : List Node) (x : Node) → fitting_from 0 xs ≡ true → fitting (length xs) x ≡ true
    → fitting_from 0 (xs ++ x ∷ []) ≡ true
fitting_from_push xs x before fit =
    let e : fitting (0 + length xs) x ≡ true = ap (λ n. fitting n x) (zero-add (length xs)) ∙ fit in
    fitting_from_append 0 xs (x ∷ [])
    ∙ and_from (fitting_from 0 xs) (fitting_from (0 + length xs) (x ∷ [])) before
    (and_from (fitting (0 + length xs) x) true e refl)

pub fitting_from_take : (j n : ℕ) (xs : List Node) → fitting_from j xs ≡ true → fitting_from j (take n xs) ≡ true
fitting_from_take j zero xs fit = refl
fitting_from_take j (suc n) [] fit = refl
fitting_from_take j (suc n) (x ∷ xs) fit =
    let two = and_parts (fitting j x) (fitting_from (j + 1) xs) fit in
    and_from (fitting j x) (fitting_from (j + 1) (take n xs)) two.0 (fitting_from_take (j + 1) n xs two.1)

fitting_from_add : (j : ℕ) (xs : List Node) → fitting_from j xs ≡ true → (i : ℕ) → i < length xs
    → fitting (j + i) (get_or xs i no_node) ≡ true
fitting_from_add j [] fit i l = absurd (omega arith)
fitting_from_add j (x ∷ xs) fit zero l =
    ap (λ n. fitting n x) (add-zero j) ∙ (and_parts (fitting j x) (fitting_from (j + 1) xs) fit).0
fitting_from_add j (x ∷ xs) fit (suc i) l =
    let e : j + suc i ≡ (j + 1) + i = omega arith in
    ap (λ n. fitting n (get_or xs i no_node)) e
    ∙ fitting_from_add (j + 1) xs (and_parts (fitting j x) (fitting_from (j + 1) xs) fit).1 i (omega arith)

pub fitting_from_at : (xs : List Node) → fitting_from 0 xs ≡ true → (i : ℕ) → i < length xs
    → fitting i (get_or xs i no_node) ≡ true
fitting_from_at xs fit i l = ap (λ n. fitting n (get_or xs i no_node)) (sym (zero-add i)) ∙ fitting_from_add 0 xs fit i l
