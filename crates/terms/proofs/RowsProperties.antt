-- What rows mean: adding nodes keeps the meanings before them, and each meaning is built from the others.
use Rattle.std.proofs.Common.{◌≡◌, ℕ, ◌+◌, ◌<◌, ◌≤◌, true, false, cond, ltb, ◌⊎◌, List, [], ◌∷◌, ◌++◌, length, get_or}
use Rattle.std.proofs.Common.{take, drop, pos, Some, None, Option, sym, refl, ap, ◌∙◌, inl, inr, append_assoc, add-zero}
use Rattle.std.proofs.Common.{zero-add, arith}
use Rattle.std.proofs.lemmas.List.{length_push, length-take-le, get_or-take, get_or_append_left, get_or_push}
use Rattle.std.proofs.lemmas.List.{take-append-drop, drop_more}
use Rattle.std.proofs.lemmas.Bool.{ltb-true, ltb-false, and_parts, and_from, and_left, cases_Bool}
use Rattle.terms.specs.declared.node.Node.{Node}
use Rattle.terms.specs.declared.node.Node.TheVariants.{Var, Int, App}
use Rattle.terms.specs.Term.{Term, int, app, cons, join}
use Rattle.terms.specs.Rows.{terms_at, build, grow, meanings, meaning, all_below, fitting, fitting_from}
use Rattle.terms.specs.Places.{no_node, takes, place_for, with_node}
use Rattle.terms.proofs.FittingProperties.{all_below_at, fitting_args, fitting_from_at}

pub terms_at_append : (ts : List Term) (is ks : List ℕ)
    → terms_at ts (is ++ ks) ≡ join (terms_at ts is) (terms_at ts ks)
terms_at_append ts [] ks = refl
terms_at_append ts (i ∷ is) ks = ap (cons (get_or ts i (int (pos 0)))) (terms_at_append ts is ks)

-- lists that agree below j give the same terms at places below j
pub terms_at_same : (ts us : List Term) (j : ℕ)
    → ((i : ℕ) → i < j → get_or ts i (int (pos 0)) ≡ get_or us i (int (pos 0)))
    → (is : List ℕ) → all_below j is ≡ true → terms_at ts is ≡ terms_at us is
terms_at_same ts us j same [] below = refl
terms_at_same ts us j same (i ∷ is) below =
    let two = and_parts (ltb i j) (all_below j is) below in
    ap (λ t. cons t (terms_at ts is)) (same i (ltb-true i j two.0))
    ∙ ap (cons (get_or us i (int (pos 0)))) (terms_at_same ts us j same is two.1)

-- lists that agree below j build the same term of a node that may stand at j
pub build_same : (ns : List (List ℕ)) (ts us : List Term) (j : ℕ)
    → ((i : ℕ) → i < j → get_or ts i (int (pos 0)) ≡ get_or us i (int (pos 0)))
    → (x : Node) → fitting j x ≡ true → build ns ts x ≡ build ns us x
build_same ns ts us j same (Var v) fit = refl
build_same ns ts us j same (Int i) fit = refl
build_same ns ts us j same (App f n is) fit =
    ap (app (get_or ns f [])) (terms_at_same ts us j same (take n is) (fitting_args j f n is fit).1)

pub grow_append : (ns : List (List ℕ)) (ts : List Term) (xs ys : List Node)
    → grow ns ts (xs ++ ys) ≡ grow ns (grow ns ts xs) ys
grow_append ns ts [] ys = refl
grow_append ns ts (x ∷ xs) ys = grow_append ns (ts ++ build ns ts x ∷ []) xs ys

pub length_grow : (ns : List (List ℕ)) (ts : List Term) (xs : List Node)
    → length (grow ns ts xs) ≡ length ts + length xs
length_grow ns ts [] = sym (add-zero (length ts))
length_grow ns ts (x ∷ xs) =
    let more = length_push ts (build ns ts x) in
    let rest = length_grow ns (ts ++ build ns ts x ∷ []) xs in
    omega arith

pub length_meanings : (ns : List (List ℕ)) (xs : List Node) → length (meanings ns xs) ≡ length xs
length_meanings ns xs = length_grow ns [] xs ∙ zero-add (length xs)

pub grow_old : (ns : List (List ℕ)) (ts : List Term) (xs : List Node) (i : ℕ) → i < length ts
    → get_or (grow ns ts xs) i (int (pos 0)) ≡ get_or ts i (int (pos 0))
grow_old ns ts [] i l = refl
grow_old ns ts (x ∷ xs) i l =
    let more = length_push ts (build ns ts x) in
    grow_old ns (ts ++ build ns ts x ∷ []) xs i (omega arith)
    ∙ get_or_append_left ts (build ns ts x ∷ []) (int (pos 0)) i l

-- a node more: its meaning stands behind the others
pub meanings_push : (ns : List (List ℕ)) (xs : List Node) (x : Node)
    → meanings ns (xs ++ x ∷ []) ≡ meanings ns xs ++ build ns (meanings ns xs) x ∷ []
meanings_push ns xs x = grow_append ns [] xs (x ∷ [])

-- nodes more: the meanings before them stay
pub meaning_old : (ns : List (List ℕ)) (xs ys : List Node) (i : ℕ) → i < length xs
    → meaning ns (xs ++ ys) i ≡ meaning ns xs i
meaning_old ns xs ys i l =
    let all = length_meanings ns xs in
    ap (λ ts. get_or ts i (int (pos 0))) (grow_append ns [] xs ys) ∙ grow_old ns (meanings ns xs) ys i (omega arith)

-- the same of a row that begins with xs
pub meaning_front : (ns : List (List ℕ)) (xs ys : List Node) → take (length xs) ys ≡ xs → (i : ℕ) → i < length xs
    → meaning ns ys i ≡ meaning ns xs i
meaning_front ns xs ys front i l =
    let whole : ys ≡ xs ++ drop (length xs) ys = sym (take-append-drop (length xs) ys)
    ∙ ap (λ zs. zs ++ drop (length xs) ys) front in
    ap (λ zs. meaning ns zs i) whole ∙ meaning_old ns xs (drop (length xs) ys) i l

pub meaning_new : (ns : List (List ℕ)) (xs : List Node) (x : Node)
    → meaning ns (xs ++ x ∷ []) (length xs) ≡ build ns (meanings ns xs) x
meaning_new ns xs x =
    ap (λ ts. get_or ts (length xs) (int (pos 0))) (meanings_push ns xs x)
    ∙ get_or_push (meanings ns xs) (build ns (meanings ns xs) x) (int (pos 0)) (length xs) (length_meanings ns xs)

-- in a row in which every node may stand where it stands, a node's meaning is built from the row's meanings
pub meaning_build : (ns : List (List ℕ)) (xs : List Node) → fitting_from 0 xs ≡ true → (i : ℕ) → i < length xs
    → meaning ns xs i ≡ build ns (meanings ns xs) (get_or xs i no_node)
meaning_build ns xs fit i l =
    let x = get_or xs i no_node in
    let front = take i xs in
    let e : front ++ (x ∷ drop (i + 1) xs) ≡ xs = ap (λ ys. front ++ ys) (sym (drop_more xs i no_node l))
    ∙ take-append-drop i xs in
    let e' : (front ++ x ∷ []) ++ drop (i + 1) xs ≡ xs = append_assoc front (x ∷ []) (drop (i + 1) xs) ∙ e in
    let n : length front ≡ i = length-take-le i xs (omega arith) in
    let more = length_push front x in
    let here : meaning ns xs i ≡ meaning ns (front ++ x ∷ []) i = ap (λ ys. meaning ns ys i) (sym e')
    ∙ meaning_old ns (front ++ x ∷ []) (drop (i + 1) xs) i (omega arith) in
    let built : meaning ns (front ++ x ∷ []) i ≡ build ns (meanings ns front) x =
    ap (meaning ns (front ++ x ∷ [])) (sym n) ∙ meaning_new ns front x in
    here ∙ built ∙ build_same ns (meanings ns front) (meanings ns xs) i
    (λ k m. sym (ap (λ ys. meaning ns ys k) (sym e) ∙ meaning_old ns front (x ∷ drop (i + 1) xs) k (omega arith)))
    x (fitting_from_at xs fit i l)

-- what a row of at most `limit` nodes answers to a node that may stand at its end
pub push_cases : (limit : ℕ) (xs : List Node) (x : Node) (r : Option ℕ) (ys : List Node)
    → fitting (length xs) x ≡ true → r ≡ place_for limit xs x → ys ≡ with_node limit xs x
    → ((r ≡ Some (length xs)) × (ys ≡ xs ++ x ∷ []) × (length xs < limit))
    ⊎ ((r ≡ None) × (ys ≡ xs) × (limit ≤ length xs))
push_cases limit xs x r ys fit er ey =
    elim (cases_Bool (ltb (length xs) limit)) [ inl e ↦ inl (room e) | inr e ↦ inr (full e) ]
  where
    room : ltb (length xs) limit ≡ true → (r ≡ Some (length xs)) × (ys ≡ xs ++ x ∷ []) × (length xs < limit)
    room e =
        let ok : takes limit xs x ≡ true = and_from (ltb (length xs) limit) (fitting (length xs) x) e fit in (
          er ∙ ap (λ b. cond b (Some (length xs)) None) ok,
          ey ∙ ap (λ b. cond b (xs ++ x ∷ []) xs) ok,
          ltb-true (length xs) limit e,
        )

    full : ltb (length xs) limit ≡ false → (r ≡ None) × (ys ≡ xs) × (limit ≤ length xs)
    full e =
        let out : takes limit xs x ≡ false = and_left (ltb (length xs) limit) (fitting (length xs) x) e in (
          er ∙ ap (λ b. cond b (Some (length xs)) None) out,
          ey ∙ ap (λ b. cond b (xs ++ x ∷ []) xs) out,
          ltb-false (length xs) limit e,
        )

-- a node that was taken stands at the end
pub push_some : (limit : ℕ) (xs : List Node) (x : Node) (p : ℕ) → Some p ≡ place_for limit xs x
    → (p ≡ length xs) × (with_node limit xs x ≡ xs ++ x ∷ []) × (length xs < limit) × (fitting (length xs) x ≡ true)
push_some limit xs x p e = elim (cases_Bool (takes limit xs x)) [ inl t ↦ taken t | inr f ↦ left f ]
  where
    taken : takes limit xs x ≡ true
        → (p ≡ length xs) × (with_node limit xs x ≡ xs ++ x ∷ []) × (length xs < limit) × (fitting (length xs) x ≡ true)
    taken t =
        let two = and_parts (ltb (length xs) limit) (fitting (length xs) x) t in
        let some : Some p ≡ Some (length xs) = e ∙ ap (λ b. cond b (Some (length xs)) None) t in
        let at : p ≡ length xs = cc in
        (at, ap (λ b. cond b (xs ++ x ∷ []) xs) t, ltb-true (length xs) limit two.0, two.1)

    left : takes limit xs x ≡ false
        → (p ≡ length xs) × (with_node limit xs x ≡ xs ++ x ∷ []) × (length xs < limit) × (fitting (length xs) x ≡ true)
    left f =
        let none : Some p ≡ None = e ∙ ap (λ b. cond b (Some (length xs)) None) f in
        let z : ◌≡◌ {A = ℕ} 0 1 = cc in
        absurd (omega arith)

-- a node that was not taken leaves the row as it was
pub push_none : (limit : ℕ) (xs : List Node) (x : Node) → None ≡ place_for limit xs x
    → (with_node limit xs x ≡ xs) × (takes limit xs x ≡ false)
push_none limit xs x e =
    elim (cases_Bool (takes limit xs x)) [ inl t ↦ taken t | inr f ↦ (ap (λ b. cond b (xs ++ x ∷ []) xs) f, f) ]
  where
    taken : takes limit xs x ≡ true → (with_node limit xs x ≡ xs) × (takes limit xs x ≡ false)
    taken t =
        let some : None ≡ Some (length xs) = e ∙ ap (λ b. cond b (Some (length xs)) None) t in
        let z : ◌≡◌ {A = ℕ} 0 1 = cc in
        absurd (omega arith)

-- in such a row an application has at most eight arguments
pub app_arity : (xs : List Node) → fitting_from 0 xs ≡ true → (i : ℕ) → i < length xs → (f n : ℕ) (is : List ℕ)
    → get_or xs i no_node ≡ App f n is → n ≤ 8
app_arity xs fit i l f n is e = (fitting_args i f n is (ap (fitting i) (sym e) ∙ fitting_from_at xs fit i l)).0

-- and they stand before it
pub app_argument : (xs : List Node) → fitting_from 0 xs ≡ true → (i : ℕ) → i < length xs → (f n : ℕ) (is : List ℕ)
    → get_or xs i no_node ≡ App f n is
    → n ≤ length is → (k : ℕ) → k < n → get_or is k 0 < i
app_argument xs fit i l f n is e m k lk =
    let below = (fitting_args i f n is (ap (fitting i) (sym e) ∙ fitting_from_at xs fit i l)).1 in
    let all = length-take-le n is m in
    let same = get_or-take n is k 0 lk in
    let less = all_below_at i (take n is) below k (omega arith) in
    omega arith
