-- The limits of a rule and of a query are those of the stack that they leave, with the nodes of goals.
use Rattle.std.proofs.Common.{◌≡◌, ℕ, ◌+◌, ◌<◌, ◌≤◌, Bool, true, false, ◌&&◌, eqb, leb, List, [], ◌∷◌, length, inl, inr}
use Rattle.std.proofs.Common.{arith}
use Rattle.std.proofs.lemmas.Bool.{leb-true, le-leb, and_parts, and_from, cases_Bool, both_ways}
use Rattle.terms.specs.Term.{Term, Terms, var, int, app, nil, cons, size, sizes, count}
use Rattle.terms.specs.Goals.{goal_form, goal_forms, is_control}
use Rattle.grammar.specs.Written.{Written}
use Rattle.text.specs.Numbering.{met, numbered}
use Rattle.text.specs.Limits.{small, room_for, entered, rule_fits, query_fits, stack_fits}
use Rattle.text.proofs.StacksProperties.{Fits, fits_from}

-- the form of a goal has no fewer nodes
mutual
  size_goal : (t : Term) → size t ≤ size (goal_form t)
  size_goal (var v) = omega arith
  size_goal (int i) = omega arith
  size_goal (app f ts) = let h = sizes_goal (is_control f && eqb (count ts) 2) ts in omega arith

  sizes_goal : (b : Bool) (ts : Terms) → sizes ts ≤ sizes (goal_forms b ts)
  sizes_goal b nil = omega arith
  sizes_goal true (cons t ts) = let h = size_goal t in let r = sizes_goal true ts in omega arith
  sizes_goal false (cons t ts) = let r = sizes_goal false ts in omega arith

-- the nodes of head and body
abbrev pub rule_size : Written → Written → ℕ
rule_size h b = size (numbered [] h) + size (goal_form (numbered (met [] h) b))

pub rule_parts : (ns : List (List ℕ)) (h b : Written) → rule_fits ns h b ≡ true
    → Fits ns (b ∷ h ∷ []) × (rule_size h b ≤ 256)
rule_parts ns h b e =
    let one = and_parts (small h && small b && leb (length (met (met [] h) b)) 32 && leb (rule_size h b) 256 && room_for ns h)
    (room_for (entered ns h) b) e in
    let two = and_parts (small h && small b && leb (length (met (met [] h) b)) 32 && leb (rule_size h b) 256)
    (room_for ns h) one.0 in
    let three = and_parts (small h && small b && leb (length (met (met [] h) b)) 32) (leb (rule_size h b) 256) two.0 in
    let four = and_parts (small h && small b) (leb (length (met (met [] h) b)) 32) three.0 in
    let all = leb-true (rule_size h b) 256 three.1 in
    let less = size_goal (numbered (met [] h) b) in (
      record {
        brief = four.0;
        few = leb-true (length (met (met [] h) b)) 32 four.1;
        nodes = omega arith;
        room = and_from (room_for ns h) (room_for (entered ns h) b) two.1 one.1;
      },
      all,
    )

pub rule_from : (ns : List (List ℕ)) (h b : Written) → Fits ns (b ∷ h ∷ []) → rule_size h b ≤ 256
    → rule_fits ns h b ≡ true
rule_from ns h b f l =
    let r = and_parts (room_for ns h) (room_for (entered ns h) b) f.room in
    and_from (small h && small b && leb (length (met (met [] h) b)) 32 && leb (rule_size h b) 256 && room_for ns h)
    (room_for (entered ns h) b)
    (and_from (small h && small b && leb (length (met (met [] h) b)) 32 && leb (rule_size h b) 256) (room_for ns h)
    (and_from (small h && small b && leb (length (met (met [] h) b)) 32) (leb (rule_size h b) 256)
    (and_from (small h && small b) (leb (length (met (met [] h) b)) 32) f.brief
    (le-leb (length (met (met [] h) b)) 32 f.few))
    (le-leb (rule_size h b) 256 l)) r.0) r.1

pub rule_unfit : (ns : List (List ℕ)) (h b : Written) → stack_fits ns (b ∷ h ∷ []) ≡ false → rule_fits ns h b ≡ false
rule_unfit ns h b e =
    elim (cases_Bool (rule_fits ns h b)) [
      | inl t ↦ absurd (both_ways (stack_fits ns (b ∷ h ∷ [])) e
          (fits_from ns (b ∷ h ∷ []) (rule_parts ns h b t).0))
      | inr f ↦ f
    ]

pub rule_large : (ns : List (List ℕ)) (h b : Written) → 256 < rule_size h b → rule_fits ns h b ≡ false
rule_large ns h b l =
    elim (cases_Bool (rule_fits ns h b)) [
      | inl t ↦ (let m = (rule_parts ns h b t).1 in absurd (omega arith))
      | inr f ↦ f
    ]

abbrev pub goal_size : Written → ℕ
goal_size g = size (goal_form (numbered [] g))

pub query_parts : (ns : List (List ℕ)) (g : Written) → query_fits ns g ≡ true → Fits ns (g ∷ []) × (goal_size g ≤ 256)
query_parts ns g e =
    let one = and_parts (small g && leb (length (met [] g)) 32 && leb (goal_size g) 256) (room_for ns g) e in
    let two = and_parts (small g && leb (length (met [] g)) 32) (leb (goal_size g) 256) one.0 in
    let three = and_parts (small g) (leb (length (met [] g)) 32) two.0 in
    let all = leb-true (goal_size g) 256 two.1 in
    let less = size_goal (numbered [] g) in (
      record {
        brief = three.0;
        few = leb-true (length (met [] g)) 32 three.1;
        nodes = omega arith;
        room = one.1;
      },
      all,
    )

pub query_fits_from : (ns : List (List ℕ)) (g : Written) → Fits ns (g ∷ []) → goal_size g ≤ 256 → query_fits ns g ≡ true
query_fits_from ns g f l =
    and_from (small g && leb (length (met [] g)) 32 && leb (goal_size g) 256) (room_for ns g)
    (and_from (small g && leb (length (met [] g)) 32) (leb (goal_size g) 256)
    (and_from (small g) (leb (length (met [] g)) 32) f.brief (le-leb (length (met [] g)) 32 f.few))
    (le-leb (goal_size g) 256 l)) f.room

pub query_unfit : (ns : List (List ℕ)) (g : Written) → stack_fits ns (g ∷ []) ≡ false → query_fits ns g ≡ false
query_unfit ns g e =
    elim (cases_Bool (query_fits ns g)) [
      | inl t ↦ absurd (both_ways (stack_fits ns (g ∷ [])) e (fits_from ns (g ∷ []) (query_parts ns g t).0))
      | inr f ↦ f
    ]

pub query_large : (ns : List (List ℕ)) (g : Written) → 256 < goal_size g → query_fits ns g ≡ false
query_large ns g l =
    elim (cases_Bool (query_fits ns g)) [
      | inl t ↦ (let m = (query_parts ns g t).1 in absurd (omega arith))
      | inr f ↦ f
    ]
