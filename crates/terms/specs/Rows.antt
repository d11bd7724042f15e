-- What a row of nodes means: the term of each node, built from the terms of the nodes before it.
use Rattle.std.specs.Prelude.{ℕ, ◌+◌, Bool, true, ◌&&◌, List, [], ◌∷◌, ◌++◌, take, pos, nat_le, nat_lt, slice_index_or}
use Rattle.std.specs.List.{list_all}
use Rattle.terms.specs.declared.node.Node.{Node}
use Rattle.terms.specs.declared.node.Node.TheVariants.{Var, Int, App}
use Rattle.terms.specs.Term.{Term, Terms, var, int, app, nil, cons}

-- the terms at these places
abbrev pub terms_at : List Term → List ℕ → Terms
terms_at ts [] = nil
terms_at ts (i ∷ is) = cons (slice_index_or ts i (int (pos 0))) (terms_at ts is)

-- a node's term, by the list of names and the terms of the nodes before it
abbrev pub build : List (List ℕ) → List Term → Node → Term
build ns ts (Var v) = var v
build ns ts (Int i) = int i
build ns ts (App f n is) = app (slice_index_or ns f []) (terms_at ts (take n is))

-- the terms of all nodes, in order, after those of ts
abbrev pub grow : List (List ℕ) → List Term → List Node → List Term
grow ns ts [] = ts
grow ns ts (x ∷ xs) = grow ns (ts ++ build ns ts x ∷ []) xs

abbrev pub meanings : List (List ℕ) → List Node → List Term
meanings ns xs = grow ns [] xs

abbrev pub meaning : List (List ℕ) → List Node → ℕ → Term
meaning ns xs i = slice_index_or (meanings ns xs) i (int (pos 0))

-- all these places stand below j
abbrev pub all_below : ℕ → List ℕ → Bool
all_below j is = list_all (λ i. nat_lt i j) is

-- a node that may stand at j
abbrev pub fitting : ℕ → Node → Bool
fitting j (Var v) = true
fitting j (Int i) = true
fitting j (App f n is) = nat_le n 8 && all_below j (take n is)

-- a row from place j on in which every node may stand where it stands
abbrev pub fitting_from : ℕ → List Node → Bool
fitting_from j [] = true
fitting_from j (x ∷ xs) = fitting j x && fitting_from (j + 1) xs
