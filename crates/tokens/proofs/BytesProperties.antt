-- The bytes of a line from a place on.
use Rattle.std.proofs.Common.{◌≡◌, ℕ, suc, ◌+◌, ◌-◌, ◌<◌, ◌≤◌, Bool, true, false, cond, List, [], ◌∷◌}
use Rattle.std.proofs.Common.{length, get_or, drop, sym, refl, ap, ◌∙◌, add-one, arith, drop-cons, length-drop}
use Rattle.std.proofs.lemmas.Bool.{false≢true}
use Rattle.std.proofs.lemmas.List.{drop_all}
use Rattle.std.specs.List.{prefix_len}
use Rattle.tokens.specs.declared.kind.Kind.{Kind}
use Rattle.tokens.specs.declared.kind.Kind.TheVariants.{Small, Capital, Digit, Symbol, Solo, Quote, Opening, Closing}
use Rattle.tokens.specs.declared.kind.Kind.TheVariants.{Left, Right, Bar, Comma, Stop, Space, Stray}
use Rattle.tokens.specs.Bytes.{class, digit, space, past}
use Rattle.tokens.specs.Scanning.{head_kind, digit_at}

pub drop_past_the_end : (s : List ℕ) (i : ℕ) → length s ≤ i → drop i s ≡ []
drop_past_the_end s i = drop_all i s

pub drop_here : (s : List ℕ) (i : ℕ) → i < length s → drop i s ≡ get_or s i 0 ∷ drop (i + 1) s
drop_here s i h = rw (add-one, drop-cons s i 0)

pub head_here : (s : List ℕ) (i : ℕ) → i < length s → head_kind (drop i s) ≡ class (get_or s i 0)
head_here s i h = ap head_kind (drop_here s i h)

pub head_past_the_end : (s : List ℕ) (i : ℕ) → length s ≤ i → head_kind (drop i s) ≡ Stray
head_past_the_end s i h = ap head_kind (drop_past_the_end s i h)

pub inside_by_kind : (s : List ℕ) (i : ℕ) → (head_kind (drop i s) ≡ Stray → ⊥) → i < length s
inside_by_kind s i h = go (drop i s) h (length-drop i s)
  where
    go : (r : List ℕ) → (head_kind r ≡ Stray → ⊥) → length r ≡ length s - i → i < length s
    go [] h e = absurd (h refl)
    go (c ∷ r) h e = omega arith

-- runs
pub past_by_drop : (f : ℕ → Bool) (s : List ℕ) → past f s ≡ drop (prefix_len f s) s
past_by_drop f [] = refl
past_by_drop f (c ∷ s) =
    elim (f c) as (λ b. cond b (past f s) (c ∷ s) ≡ drop (cond b (1 + prefix_len f s) 0) (c ∷ s)) [
      | true ↦
          let n : 1 + prefix_len f s ≡ suc (prefix_len f s) = omega arith in
          past_by_drop f s ∙ sym (ap (λ n. drop n (c ∷ s)) n)
      | false ↦ refl
    ]

pub past_stops : (f : ℕ → Bool) (s : List ℕ) (i : ℕ) → i < length s → f (get_or s i 0) ≡ false
    → drop i s ≡ past f (drop i s)
past_stops f s i h t =
    drop_here s i h ∙ sym (ap (past f) (drop_here s i h)
    ∙ ap (λ b. cond b (past f (drop (i + 1) s)) (get_or s i 0 ∷ drop (i + 1) s)) t)

pub false_true : {A : Type 0} → false ≡ true → A
false_true h = absurd (false≢true h)

-- the first test that passes gives the kind, as in `class`
abbrev first_of : (a b d y o q p r l m v k t s : Bool) → Kind
first_of a b d y o q p r l m v k t s =
    cond a Small (cond b Capital (cond d Digit (cond y Symbol (cond o Solo (cond q Quote (cond p Opening (cond r Closing
    (cond l Left (cond m Right (cond v Bar (cond k Comma (cond t Stop (cond s Space Stray)))))))))))))

space_passes : (a b d y o q p r l m v k t s : Bool) → first_of a b d y o q p r l m v k t s ≡ Space → s ≡ true
space_passes a b d y o q p r l m v k t s h = grind arith

digit_passes : (a b d y o q p r l m v k t s : Bool) → first_of a b d y o q p r l m v k t s ≡ Digit → d ≡ true
digit_passes a b d y o q p r l m v k t s h = grind arith

-- only a space is of the kind of spaces, and only a digit of that of digits
pub space_by_kind : (c : ℕ) → class c ≡ Space → space c ≡ true
space_by_kind c = space_passes _ _ _ _ _ _ _ _ _ _ _ _ _ _

pub digit_by_kind : (c : ℕ) → class c ≡ Digit → digit c ≡ true
digit_by_kind c = digit_passes _ _ _ _ _ _ _ _ _ _ _ _ _ _

pub no_digit_by_kind : (c : ℕ) → (class c ≡ Digit → ⊥) → digit c ≡ false
no_digit_by_kind c h = grind arith

pub digit_at_by_kind : (s : List ℕ) → head_kind s ≡ Digit → digit_at s ≡ true
digit_at_by_kind [] h = cc
digit_at_by_kind (c ∷ s) h = digit_by_kind c h

pub no_digit_at_by_kind : (s : List ℕ) → (head_kind s ≡ Digit → ⊥) → digit_at s ≡ false
no_digit_at_by_kind [] h = refl
no_digit_at_by_kind (c ∷ s) h = no_digit_by_kind c h
