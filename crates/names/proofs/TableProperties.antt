-- Cutting bytes at bounds: how the names change as the bytes and the bounds grow and shrink.
use Rattle.std.proofs.Common.{◌≡◌, ℕ, zero, suc, ◌+◌, ◌-◌, ◌<◌, ◌≤◌, true, false, eqb, leb, List, [], ◌∷◌, ◌++◌, length}
use Rattle.std.proofs.Common.{get_or, take, drop, sym, refl, ap, ◌∙◌, add-one, arith}
use Rattle.std.specs.List.{between}
use Rattle.std.proofs.lemmas.List.{length-take-le, length-drop, take-take, take_all, take_at, drop_at}
use Rattle.std.proofs.lemmas.Slice.{between_is}
use Rattle.std.proofs.lemmas.Bool.{and_parts, and_from, leb-true, le-leb, eqb-true, eq-eqb, both_ways}
use Rattle.names.specs.Table.{cut_from, names_of, ascends_from, ascends}
use Rattle.names.specs.Listed.{total}

-- the names that bounds cut out

pub length_cut_from : (bytes : List ℕ) (b : ℕ) (es : List ℕ) → length (cut_from bytes b es) ≡ length es
length_cut_from bytes b [] = refl
length_cut_from bytes b (e ∷ es) = ap suc (length_cut_from bytes e es)

pub cut_from_at :
    (bytes : List ℕ) (b : ℕ) (es : List ℕ) (i : ℕ) → i < length es
    → get_or (cut_from bytes b es) i [] ≡ between (get_or (b ∷ es) i 0) (get_or es i 0) bytes
cut_from_at bytes b [] i l = absurd (omega arith)
cut_from_at bytes b (e ∷ es) zero l = refl
cut_from_at bytes b (e ∷ es) (suc i) l = cut_from_at bytes e es i (omega arith)

pub cut_from_take :
    (bytes : List ℕ) (b : ℕ) (k : ℕ) (es : List ℕ) → cut_from bytes b (take k es) ≡ take k (cut_from bytes b es)
cut_from_take bytes b zero es = refl
cut_from_take bytes b (suc k) [] = refl
cut_from_take bytes b (suc k) (e ∷ es) = ap (λ xs. between b e bytes ∷ xs) (cut_from_take bytes e k es)

-- ascending bounds

pub ascends_from_le : (n b : ℕ) (es : List ℕ) → ascends_from n b es ≡ true → b ≤ n
ascends_from_le n b [] h = omega (arith, eqb-true b n h)
ascends_from_le n b (e ∷ es) h =
    let p = and_parts (leb b e) (ascends_from n e es) h in
    omega (arith, leb-true b e p.0, ascends_from_le n e es p.1)

pub ascends_from_at :
    (n b : ℕ) (es : List ℕ) (i : ℕ) → i < length es → ascends_from n b es ≡ true
    → (get_or (b ∷ es) i 0 ≤ get_or es i 0) × (get_or es i 0 ≤ n)
ascends_from_at n b [] i l h = absurd (omega arith)
ascends_from_at n b (e ∷ es) zero l h =
    let p = and_parts (leb b e) (ascends_from n e es) h in
    (leb-true b e p.0, ascends_from_le n e es p.1)
ascends_from_at n b (e ∷ es) (suc i) l h =
    ascends_from_at n e es i (omega arith) (and_parts (leb b e) (ascends_from n e es) h).1

pub ascends_from_push :
    (n m b : ℕ) (es : List ℕ) → n ≤ m → ascends_from n b es ≡ true → ascends_from m b (es ++ m ∷ []) ≡ true
ascends_from_push n m b [] l h =
    and_from (leb b m) (eqb m m) (le-leb b m (omega (arith, eqb-true b n h))) (eq-eqb m m refl)
ascends_from_push n m b (e ∷ es) l h =
    let p = and_parts (leb b e) (ascends_from n e es) h in
    and_from (leb b e) (ascends_from m e (es ++ m ∷ [])) p.0 (ascends_from_push n m e es l p.1)

pub ascends_from_take :
    (n b : ℕ) (k : ℕ) (es : List ℕ) → k ≤ length es → ascends_from n b es ≡ true
    → ascends_from (get_or (b ∷ es) k 0) b (take k es) ≡ true
ascends_from_take n b zero es l h = eq-eqb b b refl
ascends_from_take n b (suc k) [] l h = absurd (omega arith)
ascends_from_take n b (suc k) (e ∷ es) l h =
    let p = and_parts (leb b e) (ascends_from n e es) h in
    and_from (leb b e) (ascends_from (get_or (e ∷ es) k 0) e (take k es)) p.0
    (ascends_from_take n e k es (omega arith) p.1)

-- only the bytes below the last bound matter

between_front : (bytes : List ℕ) (b e m : ℕ) → e ≤ m → between b e (take m bytes) ≡ between b e bytes
between_front bytes b e m l =
    between_is (take m bytes) b e ∙ ap (drop b) (take-take e m bytes l) ∙ sym (between_is bytes b e)

pub cut_from_front :
    (bytes : List ℕ) (m b : ℕ) (es : List ℕ) → ascends_from m b es ≡ true
    → cut_from (take m bytes) b es ≡ cut_from bytes b es
cut_from_front bytes m b [] h = refl
cut_from_front bytes m b (e ∷ es) h =
    let p = and_parts (leb b e) (ascends_from m e es) h in
    let here : between b e (take m bytes) ≡ between b e bytes =
    between_front bytes b e m (ascends_from_le m e es p.1) in
    let rest : cut_from (take m bytes) e es ≡ cut_from bytes e es = cut_from_front bytes m e es p.1 in
    cc

cut_from_grown :
    (bytes more : List ℕ) (b : ℕ) (es : List ℕ) → ascends_from (length bytes) b es ≡ true
    → cut_from (bytes ++ more) b es ≡ cut_from bytes b es
cut_from_grown bytes more b es h =
    sym (cut_from_front (bytes ++ more) (length bytes) b es h) ∙ ap (λ xs. cut_from xs b es)
    (take_at bytes more (length bytes) refl)

cut_from_more :
    (bytes : List ℕ) (n b e : ℕ) (es : List ℕ) → ascends_from n b es ≡ true
    → cut_from bytes b (es ++ e ∷ []) ≡ cut_from bytes b es ++ between n e bytes ∷ []
cut_from_more bytes n b e [] h = ap (λ k. between k e bytes ∷ []) (eqb-true b n h)
cut_from_more bytes n b e (x ∷ xs) h =
    ap (λ ys. between b x bytes ∷ ys) (cut_from_more bytes n x e xs (and_parts (leb b x) (ascends_from n x xs) h).1)

between_last : (bytes name : List ℕ) → between (length bytes) (length bytes + length name) (bytes ++ name) ≡ name
between_last bytes name =
    let d : drop (length bytes) (bytes ++ name) ≡ name = drop_at bytes name (length bytes) refl in
    let n : (length bytes + length name) - length bytes ≡ length name = omega arith in
    ap (take ((length bytes + length name) - length bytes)) d ∙ ap (λ k. take k name) n ∙ take_all (length name) name
    (omega arith)

pub cut_from_push :
    (bytes name : List ℕ) (b : ℕ) (es : List ℕ) → ascends_from (length bytes) b es ≡ true
    → cut_from (bytes ++ name) b (es ++ (length bytes + length name) ∷ []) ≡ cut_from bytes b es ++ name ∷ []
cut_from_push bytes name b es h =
    let x = cut_from_more (bytes ++ name) (length bytes) b (length bytes + length name) es h in
    let y = cut_from_grown bytes name b es h in
    let z = between_last bytes name in
    cc

length_between_in : (bytes : List ℕ) (b e : ℕ) → b ≤ e → e ≤ length bytes → length (between b e bytes) + b ≡ e
length_between_in bytes b e l m =
    let d : length (drop b bytes) ≡ length bytes - b = length-drop b bytes in
    let t : length (between b e bytes) ≡ e - b = length-take-le (e - b) (drop b bytes) (omega arith) in
    omega arith

pub total_cut_from :
    (bytes : List ℕ) (n b : ℕ) (es : List ℕ) → n ≤ length bytes → ascends_from n b es ≡ true
    → total (cut_from bytes b es) + b ≡ n
total_cut_from bytes n b [] l h = omega (arith, eqb-true b n h)
total_cut_from bytes n b (e ∷ es) l h =
    let p = and_parts (leb b e) (ascends_from n e es) h in
    let x = total_cut_from bytes n e es l p.1 in
    let y = length_between_in bytes b e (leb-true b e p.0) (omega (arith, ascends_from_le n e es p.1)) in
    omega arith

-- the same of all bounds

pub length_names_of :
    (n : ℕ) (bytes bounds : List ℕ) → ascends n bounds ≡ true → length (names_of bytes bounds) + 1 ≡ length bounds
length_names_of n bytes [] h = absurd (both_ways false refl h)
length_names_of n bytes (b ∷ bs) h = omega (arith, length_cut_from bytes b bs)

pub names_of_at :
    (bytes bounds : List ℕ) (i : ℕ) → i + 1 < length bounds
    → get_or (names_of bytes bounds) i [] ≡ between (get_or bounds i 0) (get_or bounds (i + 1) 0) bytes
names_of_at bytes [] i l = absurd (omega arith)
names_of_at bytes (b ∷ bs) i l = rw add-one (cut_from_at bytes b bs i (omega arith))

pub ascends_at :
    (n : ℕ) (bounds : List ℕ) (i : ℕ) → i + 1 < length bounds → ascends n bounds ≡ true
    → (get_or bounds i 0 ≤ get_or bounds (i + 1) 0) × (get_or bounds (i + 1) 0 ≤ n)
ascends_at n [] i l h = absurd (omega arith)
ascends_at n (b ∷ bs) i l h =
    rw add-one (ascends_from_at n b bs i (omega arith) (and_parts (eqb b 0) (ascends_from n b bs) h).1)

pub total_names_of :
    (bytes bounds : List ℕ) → ascends (length bytes) bounds ≡ true → total (names_of bytes bounds) ≡ length bytes
total_names_of bytes [] h = absurd (both_ways false refl h)
total_names_of bytes (b ∷ bs) h =
    let p = and_parts (eqb b 0) (ascends_from (length bytes) b bs) h in
    omega (arith, eqb-true b 0 p.0, total_cut_from bytes (length bytes) b bs (omega arith) p.1)

pub names_of_push :
    (bytes name bounds : List ℕ) → ascends (length bytes) bounds ≡ true
    → names_of (bytes ++ name) (bounds ++ (length bytes + length name) ∷ []) ≡ names_of bytes bounds ++ name ∷ []
names_of_push bytes name [] h = absurd (both_ways false refl h)
names_of_push bytes name (b ∷ bs) h =
    cut_from_push bytes name b bs (and_parts (eqb b 0) (ascends_from (length bytes) b bs) h).1

pub ascends_push : (n m : ℕ) (bounds : List ℕ) → n ≤ m → ascends n bounds ≡ true → ascends m (bounds ++ m ∷ []) ≡ true
ascends_push n m [] l h = absurd (both_ways false refl h)
ascends_push n m (b ∷ bs) l h =
    let p = and_parts (eqb b 0) (ascends_from n b bs) h in
    and_from (eqb b 0) (ascends_from m b (bs ++ m ∷ [])) p.0 (ascends_from_push n m b bs l p.1)

pub names_of_take :
    (n : ℕ) (bytes bounds : List ℕ) (k : ℕ) → k < length bounds → ascends n bounds ≡ true
    → names_of (take (get_or bounds k 0) bytes) (take (k + 1) bounds) ≡ take k (names_of bytes bounds)
names_of_take n bytes [] k l h = absurd (omega arith)
names_of_take n bytes (b ∷ bs) k l h =
    let a = ascends_from_take n b k bs (omega arith) (and_parts (eqb b 0) (ascends_from n b bs) h).1 in
    rw add-one (cut_from_front bytes (get_or (b ∷ bs) k 0) b (take k bs) a ∙ cut_from_take bytes b k bs)

pub ascends_take :
    (n : ℕ) (bounds : List ℕ) (k : ℕ) → k < length bounds → ascends n bounds ≡ true
    → ascends (get_or bounds k 0) (take (k + 1) bounds) ≡ true
ascends_take n [] k l h = absurd (omega arith)
ascends_take n (b ∷ bs) k l h =
    let p = and_parts (eqb b 0) (ascends_from n b bs) h in
    rw add-one (and_from (eqb b 0) (ascends_from (get_or (b ∷ bs) k 0) b (take k bs)) p.0
    (ascends_from_take n b k bs (omega arith) p.1))
