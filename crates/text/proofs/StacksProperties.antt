-- What a stack of terms keeps when those on top become the arguments of a name.
use Rattle.std.proofs.Common.{◌≡◌, ℕ, zero, suc, ◌+◌, ◌<◌, ◌≤◌, min, true, false, ◌&&◌, leb, List, [], ◌∷◌, ◌++◌}
use Rattle.std.proofs.Common.{length, is_ok, sym, refl, ap, ◌∙◌, inl, inr, append_assoc, arith}
use Rattle.std.proofs.lemmas.List.{append-nil}
use Rattle.std.proofs.lemmas.Bool.{leb-true, le-leb, and_parts, and_from, cases_Bool}
use Rattle.names.specs.Interned.{interned, list_after}
use Rattle.terms.specs.Term as term
use Rattle.terms.proofs.FittingProperties.{and_assoc}
use Rattle.grammar.specs.Written.{Written, Writtens, nil, cons, size}
use Rattle.reader.specs.Ops.{Stack, take_one, take_many, named}
use Rattle.text.specs.Numbering.{met_all, numbered_all, met_stack, numbered_stack}
use Rattle.text.specs.Limits.{small, small_all, entered_all, room_for, room_for_all, small_stack, nodes_stack}
use Rattle.text.specs.Limits.{entered_stack, room_for_stack, stack_fits}
use Rattle.std.proofs.Math.Bool.{and-true}

-- what holds of a stack and the terms taken from it holds when one more is taken

take_one_keeps : (P : Stack → Writtens → Type 0) → ((t : Written) (st : Stack) (ts : Writtens) → P (t ∷ st) ts → P st (cons t ts))
    → (st : Stack) (ts : Writtens) → P st ts → P (take_one st ts).stack (take_one st ts).terms
take_one_keeps P step [] ts p = p
take_one_keeps P step (t ∷ st) ts p = step t st ts p

take_many_keeps : (P : Stack → Writtens → Type 0) → ((t : Written) (st : Stack) (ts : Writtens) → P (t ∷ st) ts → P st (cons t ts))
    → (n : ℕ) (st : Stack) → P st nil → P (take_many n st).stack (take_many n st).terms
take_many_keeps P step zero st p = p
take_many_keeps P step (suc n) st p =
    take_one_keeps P step (take_many n st).stack (take_many n st).terms (take_many_keeps P step n st p)

pub take_many_met : (n : ℕ) (st : Stack) → met_all (met_stack (take_many n st).stack) (take_many n st).terms ≡ met_stack st
take_many_met n st = take_many_keeps (λ s ts. met_all (met_stack s) ts ≡ met_stack st) (λ t s ts p. p) n st refl

pub take_many_entered : (ns : List (List ℕ)) (n : ℕ) (st : Stack)
    → entered_all (entered_stack ns (take_many n st).stack) (take_many n st).terms ≡ entered_stack ns st
take_many_entered ns n st =
    take_many_keeps (λ s ts. entered_all (entered_stack ns s) ts ≡ entered_stack ns st) (λ t s ts p. p) n st refl

pub take_many_room : (ns : List (List ℕ)) (n : ℕ) (st : Stack)
    → (room_for_stack ns (take_many n st).stack && room_for_all (entered_stack ns (take_many n st).stack) (take_many n st).terms)
    ≡ room_for_stack ns st
take_many_room ns n st =
    take_many_keeps (λ s ts. (room_for_stack ns s && room_for_all (entered_stack ns s) ts) ≡ room_for_stack ns st)
    (λ t s ts p.
    and_assoc (room_for_stack ns s) (room_for (entered_stack ns s) t) (room_for_all (entered_stack ns (t ∷ s)) ts) ∙ p)
    n st (and-true (room_for_stack ns st))

pub take_many_small : (n : ℕ) (st : Stack)
    → (small_stack (take_many n st).stack && small_all (take_many n st).terms) ≡ small_stack st
take_many_small n st =
    take_many_keeps (λ s ts. (small_stack s && small_all ts) ≡ small_stack st)
    (λ t s ts p. and_assoc (small_stack s) (small t) (small_all ts) ∙ p) n st (and-true (small_stack st))

pub take_many_nodes : (n : ℕ) (st : Stack)
    → nodes_stack (take_many n st).stack + term.sizes (numbered_all (met_stack (take_many n st).stack) (take_many n st).terms)
    ≡ nodes_stack st
take_many_nodes n st =
    take_many_keeps (λ s ts. nodes_stack s + term.sizes (numbered_all (met_stack s) ts) ≡ nodes_stack st)
    (λ t s ts p. omega arith) n st (omega arith)

-- the terms as a list
abbrev pub listed : term.Terms → List term.Term
listed term.nil = []
listed (term.cons t ts) = t ∷ listed ts

pub take_many_numbered : (n : ℕ) (st : Stack)
    → numbered_stack (take_many n st).stack ++ listed (numbered_all (met_stack (take_many n st).stack) (take_many n st).terms)
    ≡ numbered_stack st
take_many_numbered n st =
    take_many_keeps (λ s ts. numbered_stack s ++ listed (numbered_all (met_stack s) ts) ≡ numbered_stack st)
    (λ t s ts p. sym (append_assoc (numbered_stack s) _ _) ∙ p) n st (append-nil (numbered_stack st))

pub take_many_count : (n : ℕ) (st : Stack) → size (take_many n st).terms + length (take_many n st).stack ≡ length st
take_many_count n st =
    take_many_keeps (λ s ts. size ts + length s ≡ length st) (λ t s ts p. omega arith) n st (omega arith)

-- as many are taken as there are
pub take_many_size : (n : ℕ) (st : Stack) → size (take_many n st).terms ≡ min n (length st)
take_many_size zero st = omega arith
take_many_size (suc n) st =
    one n (length st) (take_many n st).stack (take_many n st).terms (take_many_size n st) (take_many_count n st)
  where
    one : (n l : ℕ) (s : Stack) (ts : Writtens) → size ts ≡ min n l → size ts + length s ≡ l
        → size (take_one s ts).terms ≡ min (suc n) l
    one n l [] ts e h = omega arith
    one n l (t ∷ s) ts e h = omega arith

-- the limits, one by one
pub record Fits (ns : List (List ℕ)) (st : Stack) : Type 0 where
  pub brief : small_stack st ≡ true
  pub few : length (met_stack st) ≤ 32
  pub nodes : nodes_stack st ≤ 256
  pub room : room_for_stack ns st ≡ true

pub fits_parts : (ns : List (List ℕ)) (st : Stack) → stack_fits ns st ≡ true → Fits ns st
fits_parts ns st e =
    let one = and_parts _ _ e in
    let two = and_parts _ _ one.1 in
    let three = and_parts _ _ two.1 in
    record {
      brief = one.0;
      few = leb-true (length (met_stack st)) 32 two.0;
      nodes = leb-true (nodes_stack st) 256 three.0;
      room = three.1;
    }

pub fits_from : (ns : List (List ℕ)) (st : Stack) → Fits ns st → stack_fits ns st ≡ true
fits_from ns st f =
    and_from _ _ f.brief (and_from _ _ (le-leb (length (met_stack st)) 32 f.few)
    (and_from _ _ (le-leb (nodes_stack st) 256 f.nodes) f.room))

pub unfit : (ns : List (List ℕ)) (st : Stack) → (Fits ns st → ⊥) → stack_fits ns st ≡ false
unfit ns st n =
    elim (cases_Bool (stack_fits ns st)) [ inl e ↦ absurd (n (fits_parts ns st e)) | inr e ↦ e ]

-- a name over the terms on top

pub named_met : (f : List ℕ) (n : ℕ) (st : Stack) → met_stack (named f (take_many n st)) ≡ met_stack st
named_met f n st = take_many_met n st

pub named_entered : (ns : List (List ℕ)) (f : List ℕ) (n : ℕ) (st : Stack)
    → entered_stack ns (named f (take_many n st)) ≡ list_after (entered_stack ns st) f
named_entered ns f n st = ap (λ l. list_after l f) (take_many_entered ns n st)

pub named_nodes : (f : List ℕ) (n : ℕ) (st : Stack) → nodes_stack (named f (take_many n st)) ≡ suc (nodes_stack st)
named_nodes f n st = let e = take_many_nodes n st in omega arith

pub named_room : (ns : List (List ℕ)) (f : List ℕ) (n : ℕ) (st : Stack)
    → room_for_stack ns (named f (take_many n st)) ≡ (room_for_stack ns st && is_ok (interned (entered_stack ns st) f))
named_room ns f n st =
    and_assoc (room_for_stack ns (take_many n st).stack) (room_for_all (entered_stack ns (take_many n st).stack) (take_many n st).terms)
    (is_ok (interned (entered_all (entered_stack ns (take_many n st).stack) (take_many n st).terms) f))
    ∙ ap (λ b. b && is_ok (interned (entered_all (entered_stack ns (take_many n st).stack) (take_many n st).terms) f)) (take_many_room ns n st)
    ∙ ap (λ l. room_for_stack ns st && is_ok (interned l f)) (take_many_entered ns n st)

pub named_small : (f : List ℕ) (n : ℕ) (st : Stack)
    → small_stack (named f (take_many n st)) ≡ (small_stack st && (leb (length f) 64 && leb (min n (length st)) 8))
named_small f n st =
    and_assoc (small_stack (take_many n st).stack) (small_all (take_many n st).terms)
    (leb (length f) 64 && leb (size (take_many n st).terms) 8)
    ∙ ap (λ b. b && (leb (length f) 64 && leb (size (take_many n st).terms) 8)) (take_many_small n st)
    ∙ ap (λ k. small_stack st && (leb (length f) 64 && leb k 8)) (take_many_size n st)

-- the limits of the whole are those of the terms, and those of the name
pub record Named (ns : List (List ℕ)) (f : List ℕ) (n : ℕ) (st : Stack) : Type 0 where
  pub before : Fits ns st
  pub brief : length f ≤ 64
  pub arguments : min n (length st) ≤ 8
  pub nodes : nodes_stack st < 256
  pub room : is_ok (interned (entered_stack ns st) f) ≡ true

pub named_parts : (ns : List (List ℕ)) (f : List ℕ) (n : ℕ) (st : Stack) → Fits ns (named f (take_many n st)) → Named ns f n st
named_parts ns f n st h =
    let s = and_parts (small_stack st) _ (sym (named_small f n st) ∙ h.brief) in
    let s' = and_parts (leb (length f) 64) (leb (min n (length st)) 8) s.1 in
    let r = and_parts (room_for_stack ns st) _ (sym (named_room ns f n st) ∙ h.room) in
    let m = ap length (named_met f n st) in
    let k = named_nodes f n st in
    let few = h.few in
    let nodes = h.nodes in
    record {
      before = record { brief = s.0; few = omega arith; nodes = omega arith; room = r.0 };
      brief = leb-true (length f) 64 s'.0;
      arguments = leb-true (min n (length st)) 8 s'.1;
      nodes = omega arith;
      room = r.1;
    }

pub named_from : (ns : List (List ℕ)) (f : List ℕ) (n : ℕ) (st : Stack) → Named ns f n st → Fits ns (named f (take_many n st))
named_from ns f n st h =
    let m = ap length (named_met f n st) in
    let k = named_nodes f n st in
    let few = h.before.few in
    let nodes = h.nodes in
    record {
      brief = named_small f n st ∙ and_from _ _ h.before.brief
          (and_from _ _ (le-leb (length f) 64 h.brief) (le-leb (min n (length st)) 8 h.arguments));
      few = omega arith;
      nodes = omega arith;
      room = named_room ns f n st ∙ and_from _ _ h.before.room h.room;
    }
