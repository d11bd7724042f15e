-- A table that is filled with the known names one by one.
use Rattle.std.proofs.Common.{◌≡◌, ℕ, zero, suc, ◌+◌, ◌<◌, ◌≤◌, true, List, [], ◌∷◌, ◌++◌, map, length, get_or, take}
use Rattle.std.proofs.Common.{sym, refl, ap, ◌∙◌, arith, Bor}
use Rattle.std.proofs.lemmas.List.{take_more, take_all, get_or-map}
use Rattle.terms.specs.Known.{known}
use Rattle.names.specs.Table.{names_of, ascends}
use Rattle.names.specs.Listed.{total, short, distinct, begins}
use Rattle.names.proofs.TableProperties.{total_names_of, names_of_push, ascends_push}
use Rattle.names.proofs.ListedProperties.{short_at}

total_take_le : (k : ℕ) (xs : List (List ℕ)) → total (take k xs) ≤ total xs
total_take_le zero xs = omega arith
total_take_le (suc k) [] = omega arith
total_take_le (suc k) (x ∷ xs) = omega (arith, total_take_le k xs)

-- the bytes of all known names, and of one
pub stored_le :
    (i : ℕ) (bytes bounds : List ℕ) → names_of bytes bounds ≡ take i known → ascends (length bytes) bounds ≡ true
    → length bytes ≤ 278
stored_le i bytes bounds e a =
    let t : total (take i known) ≤ 278 = total_take_le i known in
    omega (arith, total_names_of bytes bounds a, ap total e)

pub known_brief : (i : ℕ) → length (get_or known i []) ≤ 64
known_brief i = short_at known i refl

pub stored_more :
    (i : ℕ) (bytes bounds name : List ℕ) → i < 48 → name ≡ get_or known i [] → names_of bytes bounds ≡ take i known
    → ascends (length bytes) bounds ≡ true
    → names_of (bytes ++ name) (bounds ++ (length bytes + length name) ∷ []) ≡ take (i + 1) known
stored_more i bytes bounds name l p e a =
    let x = names_of_push bytes name bounds a in
    let y : take (i + 1) known ≡ take i known ++ get_or known i [] ∷ [] = take_more known i [] l in
    cc

pub stored_ascends :
    (bytes bounds name : List ℕ) → ascends (length bytes) bounds ≡ true
    → ascends (length bytes + length name) (bounds ++ (length bytes + length name) ∷ []) ≡ true
stored_ascends bytes bounds name a = ascends_push (length bytes) (length bytes + length name) bounds (omega arith) a

pub stored_all :
    (i : ℕ) (bytes bounds : List ℕ) → 48 ≤ i → names_of bytes bounds ≡ take i known → names_of bytes bounds ≡ known
stored_all i bytes bounds l e = e ∙ take_all i known l

pub sound_known :
    (names : List (List ℕ)) → names ≡ known
    → (short names ≡ true) × (distinct names ≡ true) × (begins known names ≡ true)
sound_known names e = (ap short e, ap distinct e, ap (begins known) e)

-- a row of names behind references
pub now_get_d :
    (xs : List (Bor (List ℕ))) (i : ℕ) (d : Bor (List ℕ)) → i < length xs
    → (get_or xs i d).now ≡ get_or (map (λ x. x.now) xs) i []
now_get_d xs i d l = sym (get_or-map (λ x. x.now) xs i d [] l)
