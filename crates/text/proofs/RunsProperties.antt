-- Steps one after another: what fits in the end fitted all along.
use Rattle.std.proofs.Common.{◌≡◌, ℕ, ◌+◌, ◌<◌, true, false, List, [], ◌∷◌, ◌++◌, length, get_or, take, drop, sym, refl}
use Rattle.std.proofs.Common.{ap, ◌∙◌, inl, inr, arith}
use Rattle.std.proofs.lemmas.List.{take_more, take-append-drop}
use Rattle.std.proofs.lemmas.Bool.{and_parts, cases_Bool, both_ways}
use Rattle.tokens.specs.Scanning.{undouble}
use Rattle.terms.specs.Known.{empty_name, dot_name, comma_name}
use Rattle.grammar.specs.Written.{var, int}
use Rattle.reader.specs.declared.op.Op.{Op}
use Rattle.reader.specs.declared.op.Op.TheVariants as op
use Rattle.reader.specs.Ops.{Stack, part, joined, apply, run_from, run}
use Rattle.text.specs.Integers.{fits_integer}
use Rattle.text.specs.Numbering.{met_stack}
use Rattle.text.specs.Limits.{small_stack, room_for_stack, stack_fits}
use Rattle.text.proofs.NumberingProperties.{length_meets}
use Rattle.text.proofs.StacksProperties.{Fits, fits_parts, fits_from, named_parts}

var_before : (ns : List (List ℕ)) (a : List ℕ) (st : Stack) → Fits ns (var a ∷ st) → Fits ns st
var_before ns a st h =
    let m = length_meets (met_stack st) a in
    let few = h.few in
    let nodes = h.nodes in
    record {
      brief = (and_parts (small_stack st) true h.brief).0;
      few = omega arith;
      nodes = omega arith;
      room = (and_parts (room_for_stack ns st) true h.room).0;
    }

int_before : (ns : List (List ℕ)) (a : List ℕ) (st : Stack) → Fits ns (int a ∷ st) → Fits ns st
int_before ns a st h =
    let nodes = h.nodes in
    record {
      brief = (and_parts (small_stack st) (fits_integer a) h.brief).0;
      few = h.few;
      nodes = omega arith;
      room = (and_parts (room_for_stack ns st) true h.room).0;
    }

joined_before : (ns : List (List ℕ)) (f : List ℕ) (st : Stack) → Fits ns (joined f st) → Fits ns st
joined_before ns f [] h = h
joined_before ns f (t ∷ []) h = h
joined_before ns f (t ∷ u ∷ st) h = (named_parts ns f 2 (t ∷ u ∷ st) h).before

apply_before : (ns : List (List ℕ)) (text : List ℕ) (o : Op) (st : Stack) → Fits ns (apply text o st) → Fits ns st
apply_before ns text (op.Variable s) st h = var_before ns (part text s.start s.end) st h
apply_before ns text (op.Integer s) st h = int_before ns (part text s.start s.end) st h
apply_before ns text (op.Name s n) st h = (named_parts ns (part text s.start s.end) n st h).before
apply_before ns text (op.Quoted s n) st h = (named_parts ns (undouble false (part text s.start s.end)) n st h).before
apply_before ns text op.EmptyList st h = (named_parts ns empty_name 0 st h).before
apply_before ns text op.ListCell st h = joined_before ns dot_name st h
apply_before ns text op.Conjunction st h = joined_before ns comma_name st h

run_from_before : (ns : List (List ℕ)) (text : List ℕ) (st : Stack) (os : List Op)
    → Fits ns (run_from text st os) → Fits ns st
run_from_before ns text st [] h = h
run_from_before ns text st (o ∷ os) h =
    apply_before ns text o st (run_from_before ns text (apply text o st) os h)

run_from_append : (text : List ℕ) (st : Stack) (os us : List Op)
    → run_from text st (os ++ us) ≡ run_from text (run_from text st os) us
run_from_append text st [] us = refl
run_from_append text st (o ∷ os) us = run_from_append text (apply text o st) os us

pub run_more : (text : List ℕ) (os : List Op) (i : ℕ) (d : Op) → i < length os
    → apply text (get_or os i d) (run text (take i os)) ≡ run text (take (i + 1) os)
run_more text os i d l =
    sym (ap (run_from text []) (take_more os i d l) ∙ run_from_append text [] (take i os) (get_or os i d ∷ []))

-- what does not fit at a step does not fit in the end
pub run_unfit : (ns : List (List ℕ)) (text : List ℕ) (os : List Op) (i : ℕ) (d : Op) → i < length os
    → stack_fits ns (apply text (get_or os i d) (run text (take i os))) ≡ false → stack_fits ns (run text os) ≡ false
run_unfit ns text os i d l e =
    elim (cases_Bool (stack_fits ns (run text os))) [ inl t ↦ never t | inr f ↦ f ]
  where
    whole : run text os ≡ run_from text (apply text (get_or os i d) (run text (take i os))) (drop (i + 1) os)
    whole =
        ap (run_from text []) (sym (take-append-drop (i + 1) os))
        ∙ run_from_append text [] (take (i + 1) os) (drop (i + 1) os)
        ∙ ap (λ st. run_from text st (drop (i + 1) os)) (sym (run_more text os i d l))

    never : stack_fits ns (run text os) ≡ true → stack_fits ns (run text os) ≡ false
    never t =
        let at = apply text (get_or os i d) (run text (take i os)) in
        let h = fits_parts ns (run_from text at (drop (i + 1) os)) (ap (stack_fits ns) (sym whole) ∙ t) in
        absurd (both_ways (stack_fits ns at) e (fits_from ns at (run_from_before ns text at (drop (i + 1) os) h)))
