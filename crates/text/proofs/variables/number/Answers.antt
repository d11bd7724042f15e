-- An earlier variable of the same name, or one more.
use Rattle.std.proofs.Common.{◌≡◌, ◌<◌, [], ◌∷◌, ◌++◌, length, Some, vec_items, sym, refl, ap, ◌∙◌, arith, rules}
use Rattle.std.proofs.lemmas.List.{length_push}
use Rattle.text.specs.Numbering.{found_in, number_of, meets}
use Rattle.text.specs.Building.{cuts}
use Rattle.text.proofs.NumberingProperties.{number_old, number_below, number_new, length_cuts, cuts_push}
use Rattle.text.proofs.variables.number.Goals as goal

found : (c : goal.In-Some)
    → Some c.in-Some.known ≡ found_in (cuts c.args.text.now (vec_items c.args.variables.now)) c.part-name.result.now
found c =
    c.in-Some.ensures
    ∙ ap (λ ss. found_in (cuts c.args.text.now ss) c.part-name.result.now) c.as_slice.ensures.value

pub overflow_cast-result : goal.overflow_cast-result
overflow_cast-result c =
    let ss = vec_items c.args.variables.now in
    let l = number_below (cuts c.args.text.now ss) c.part-name.result.now c.in-Some.known (found c) in
    let n = length_cuts c.args.text.now ss in
    let m : c.in-Some.known < 32 = omega arith in
    search rules

pub returns-in-Some : goal.returns-in-Some
returns-in-Some c =
    let e = cuts c.args.text.now (vec_items c.args.variables.now) in
    let old = number_old e c.part-name.result.now c.in-Some.known (found c) in
    let a = c.part-name.ensures in
    record {
      same_room = refl;
      still_few = c.requires.few;
      value = (old.0 ∙ ap (number_of e) a, old.1 ∙ ap (meets e) a);
    }

pub returns-then-next-ge-MAX_VARIABLES : goal.returns-then-next-ge-MAX_VARIABLES
returns-then-next-ge-MAX_VARIABLES c =
    let e = cuts c.args.text.now (vec_items c.args.variables.now) in
    let new = number_new e c.part-name.result.now (c.in_default.ensures
    ∙ ap (λ ss. found_in (cuts c.args.text.now ss) c.part-name.result.now) c.as_slice.ensures.value) in
    let more = ap length (new.1 ∙ ap (meets e) c.part-name.ensures) in
    let one = length_push e c.part-name.result.now in
    let all = length_cuts c.args.text.now (vec_items c.args.variables.now) in
    record { same_room = refl; still_few = c.requires.few; value = omega arith }

pub returns : goal.returns
returns c =
    let text = c.args.text.now in
    let ss = vec_items c.args.variables.now in
    let e = cuts text ss in
    let a = c.part-name.ensures in
    let new = number_new e c.part-name.result.now (c.in_default.ensures
    ∙ ap (λ ss. found_in (cuts text ss) c.part-name.result.now) c.as_slice.ensures.value) in
    let all = length_cuts text ss in
    let next : c.len-next.result ≡ length e = omega arith in
    record {
      same_room = c.push_reserved.ensures.capacity;
      still_few = (let n = c.push_reserved.ensures.len in omega arith);
      value = (
        next ∙ new.0 ∙ ap (number_of e) a,
        ap (cuts text) c.push_reserved.ensures.items ∙ cuts_push text ss c.args.span
            ∙ ap (λ x. e ++ x ∷ []) (sym a) ∙ new.1 ∙ ap (meets e) a,
      );
    }
