-- What holds of the list of names of every table.
use Rattle.std.proofs.Common.{◌≡◌, ℕ, ◌+◌, ◌<◌, ◌≤◌, true, List, [], ◌∷◌, ◌++◌, length, get_or, take, None, vec_items}
use Rattle.std.proofs.Common.{vec_len, ap, ◌∙◌, subst, arith}
use Rattle.std.specs.List.{between}
use Rattle.std.proofs.lemmas.List.{get_or_read_under}
use Rattle.terms.specs.Known.{known}
use Rattle.names.specs.declared.names.Names.{Names}
use Rattle.names.specs.Table.{ascends, names_of}
use Rattle.names.specs.Listed.{total, short, distinct, begins, place_of, Lawful}
use Rattle.names.specs.View.{list}
use Rattle.names.proofs.TableProperties.{length_names_of, total_names_of, names_of_at, ascends_at, names_of_push}
use Rattle.names.proofs.TableProperties.{ascends_push, names_of_take, ascends_take}
use Rattle.names.proofs.ListedProperties.{length_begins, lawful, short_push, short_take, distinct_push, distinct_take}
use Rattle.names.proofs.ListedProperties.{begins_append, begins_take, place_from_none}

pub ascends_bounds : (t : Names) → ascends (length (vec_items t.bytes)) (vec_items t.bounds) ≡ true
ascends_bounds t = subst (λ n. ascends n (vec_items t.bounds) ≡ true) t.bytes.ok.0 t.cut

pub length_list : (t : Names) → length (list t) + 1 ≡ vec_len t.bounds
length_list t =
    let n =
    length_names_of (length (vec_items t.bytes)) (vec_items t.bytes) (vec_items t.bounds)
    (ascends_bounds t) in
    omega (arith, t.bounds.ok.0)

pub total_list : (t : Names) → total (list t) ≡ vec_len t.bytes
total_list t =
    let n = total_names_of (vec_items t.bytes) (vec_items t.bounds) (ascends_bounds t) in
    omega (arith, t.bytes.ok.0)

pub known_le_list : (t : Names) → 48 ≤ length (list t)
known_le_list t = length_begins known (list t) t.first

pub lawful_list : (t : Names) → Lawful (list t)
lawful_list t =
    lawful (list t) (omega (arith, length_list t, t.few)) (omega (arith, total_list t, t.small)) t.brief
    t.apart t.first

-- where a name that is in the table begins and ends, as read from the bounds

pub bounds_read :
    (t : Names) (i x y : ℕ) → i < length (list t) → x ≡ get_or (vec_items t.bounds) i x
    → y ≡ get_or (vec_items t.bounds) (i + 1) y
    → (x ≤ y) × (y ≤ length (vec_items t.bytes)) × (between x y (vec_items t.bytes) ≡ get_or (list t) i [])
bounds_read t i x y l p q =
    let bytes = vec_items t.bytes in
    let bounds = vec_items t.bounds in
    let n = length_list t in
    let m = t.bounds.ok.0 in
    let u : x ≡ get_or bounds i 0 = get_or_read_under bounds i (vec_len t.bounds) x 0 p (omega arith) m in
    let v : y ≡ get_or bounds (i + 1) 0 = get_or_read_under bounds (i + 1) (vec_len t.bounds) y 0 q (omega arith) m in
    let w = ascends_at (length bytes) bounds i (omega arith) (ascends_bounds t) in
    let e = names_of_at bytes bounds i (omega arith) in
    (omega arith, omega arith, cc)

-- one name more

pub list_pushed :
    (t : Names) (name bytes bounds : List ℕ) (end : ℕ) → end ≡ vec_len t.bytes + length name
    → bytes ≡ vec_items t.bytes ++ name → bounds ≡ vec_items t.bounds ++ end ∷ []
    → names_of bytes bounds ≡ list t ++ name ∷ []
list_pushed t name bytes bounds end p q r =
    let n = t.bytes.ok.0 in
    let z = names_of_push (vec_items t.bytes) name (vec_items t.bounds) (ascends_bounds t) in
    cc

pub ascends_pushed :
    (t : Names) (name bounds : List ℕ) (end n : ℕ) → end ≡ vec_len t.bytes + length name → n ≡ end
    → bounds ≡ vec_items t.bounds ++ end ∷ [] → ascends n bounds ≡ true
ascends_pushed t name bounds end n p q r =
    let z = ascends_push (vec_len t.bytes) end (vec_items t.bounds) (omega arith) t.cut in
    rw (q, r) z

pub sound_pushed :
    (t : Names) (name : List ℕ) (names : List (List ℕ)) → length name ≤ 64 → place_of (list t) name ≡ None
    → names ≡ list t ++ name ∷ [] → (short names ≡ true) × (distinct names ≡ true) × (begins known names ≡ true)
sound_pushed t name names l new e = (
  ap short e ∙ short_push (list t) name t.brief l,
  ap distinct e ∙ distinct_push (list t) name t.apart (place_from_none 0 (list t) name new),
  ap (begins known) e ∙ begins_append known (list t) (name ∷ []) t.first,
)

-- the first names alone

pub list_cut :
    (t : Names) (k x : ℕ) (bytes bounds : List ℕ) → k < vec_len t.bounds → x ≡ get_or (vec_items t.bounds) k x
    → bytes ≡ take x (vec_items t.bytes) → bounds ≡ take (k + 1) (vec_items t.bounds)
    → names_of bytes bounds ≡ take k (list t)
list_cut t k x bytes bounds l p q r =
    let m = t.bounds.ok.0 in
    let u : x ≡ get_or (vec_items t.bounds) k 0 =
    get_or_read_under (vec_items t.bounds) k (vec_len t.bounds) x 0 p l m in
    let z =
    names_of_take (length (vec_items t.bytes)) (vec_items t.bytes) (vec_items t.bounds) k (omega arith)
    (ascends_bounds t) in
    cc

pub ascends_cut :
    (t : Names) (k x n : ℕ) (bounds : List ℕ) → k < vec_len t.bounds → x ≡ get_or (vec_items t.bounds) k x → n ≡ x
    → bounds ≡ take (k + 1) (vec_items t.bounds) → ascends n bounds ≡ true
ascends_cut t k x n bounds l p q r =
    let m = t.bounds.ok.0 in
    let u : x ≡ get_or (vec_items t.bounds) k 0 =
    get_or_read_under (vec_items t.bounds) k (vec_len t.bounds) x 0 p l m in
    let z = ascends_take (vec_len t.bytes) (vec_items t.bounds) k (omega arith) t.cut in
    rw (q, u, r) z

pub bound_le :
    (t : Names) (k x : ℕ) → k < length (list t) → x ≡ get_or (vec_items t.bounds) k x → x ≤ vec_len t.bytes
bound_le t k x l p =
    let m = t.bounds.ok.0 in
    let n = length_list t in
    let u : x ≡ get_or (vec_items t.bounds) k 0 =
    get_or_read_under (vec_items t.bounds) k (vec_len t.bounds) x 0 p (omega arith) m in
    let w = ascends_at (vec_len t.bytes) (vec_items t.bounds) k (omega arith) t.cut in
    omega arith

pub sound_cut :
    (t : Names) (k : ℕ) (names : List (List ℕ)) → 48 ≤ k → names ≡ take k (list t)
    → (short names ≡ true) × (distinct names ≡ true) × (begins known names ≡ true)
sound_cut t k names l e = (
  ap short e ∙ short_take k (list t) t.brief,
  ap distinct e ∙ distinct_take k (list t) t.apart,
  ap (begins known) e ∙ begins_take k known (list t) l t.first,
)
