-- Adding a name that is too long or already there, and what keeps its place.
use Rattle.std.proofs.Common.{◌≡◌, ℕ, ◌<◌, ◌≤◌, cond, List, length}
use Rattle.std.proofs.Common.{take, Some, Ok, Err, Option, sym, ap, ◌∙◌, arith}
use Rattle.std.proofs.lemmas.Bool.{lt-ltb, le-ltb}
use Rattle.names.specs.declared.fault.NameFault.TheVariants.{TooLong}
use Rattle.std.proofs.lemmas.List.{take_all}
use Rattle.names.specs.Listed.{place_of}
use Rattle.names.specs.Interned.{interned, interned_at, list_after, list_after_at}

pub interned_long :
    (names : List (List ℕ)) (name : List ℕ) → 64 < length name
    → (Err TooLong ≡ interned names name) × (names ≡ list_after names name)
interned_long names name l =
    let b = lt-ltb 64 (length name) l in (
      sym (ap (λ b. cond b (Err TooLong) (interned_at names name (place_of names name))) b),
      sym (ap (λ b. cond b names (list_after_at names name (place_of names name))) b),
    )

interned_short :
    (names : List (List ℕ)) (name : List ℕ) (o : Option ℕ) → length name ≤ 64 → place_of names name ≡ o
    → interned names name ≡ interned_at names name o
interned_short names name o l new =
    ap (λ b. cond b (Err TooLong) (interned_at names name (place_of names name))) (le-ltb 64 (length name) l) ∙ ap
    (interned_at names name) new

list_after_short :
    (names : List (List ℕ)) (name : List ℕ) (o : Option ℕ) → length name ≤ 64 → place_of names name ≡ o
    → list_after names name ≡ list_after_at names name o
list_after_short names name o l new =
    ap (λ b. cond b names (list_after_at names name (place_of names name))) (le-ltb 64 (length name) l) ∙ ap
    (list_after_at names name) new

pub interned_old :
    (names : List (List ℕ)) (name : List ℕ) (place : ℕ) → length name ≤ 64 → place_of names name ≡ Some place
    → (Ok place ≡ interned names name) × (names ≡ list_after names name)
interned_old names name place l old = (
  sym (interned_short names name (Some place) l old),
  sym (list_after_short names name (Some place) l old),
)

-- the names before keep their places

pub kept_same : (names : List (List ℕ)) → take (length names) names ≡ names
kept_same names = take_all (length names) names (omega arith)
