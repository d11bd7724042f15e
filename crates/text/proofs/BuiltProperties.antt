-- What is built with one node more.
use Rattle.std.proofs.Common.{◌≡◌, ℕ, suc, ◌+◌, ◌-◌, ◌<◌, ◌≤◌, min, true, false, cond, ltb, leb, List, [], ◌∷◌, ◌++◌}
use Rattle.std.proofs.Common.{length, take, drop, ℤ, is_ok, is_err, Some, None, Ok, Err, Result, sym, refl, ap, ◌∙◌}
use Rattle.std.proofs.Common.{subst, inl, inr, arith}
use Rattle.std.proofs.lemmas.List.{length_push, take_all, take_at, drop_at}
use Rattle.std.proofs.lemmas.Bool.{ltb-false, le-leb, and_parts, and_from, and_cases, cases_Bool, both_ways}
use Rattle.names.specs.declared.fault.NameFault.{NameFault}
use Rattle.names.specs.Interned.{interned, list_after}
use Rattle.names.specs.Listed.{Extends, name_at}
use Rattle.names.proofs.InternedProperties.{kept_same}
use Rattle.terms.specs.declared.node.Node.{Node}
use Rattle.terms.specs.declared.node.Node.TheVariants.{Var, Int, App}
use Rattle.terms.specs.Rows.{terms_at, build, meanings, meaning, all_below, fitting}
use Rattle.terms.specs.Term as term
use Rattle.terms.specs.Term.{Term}
use Rattle.terms.proofs.FittingProperties.{all_below_push, all_below_more}
use Rattle.terms.proofs.RowsProperties.{meaning_new}
use Rattle.grammar.specs.Written.{var, int}
use Rattle.reader.specs.Ops.{Stack, take_many, named, joined}
use Rattle.text.specs.declared.fault.LimitFault.{LimitFault}
use Rattle.reader.specs.declared.span.Span.{Span}
use Rattle.text.specs.Integers.{fits_integer, integer_of, read_integer}
use Rattle.text.specs.Numbering.{number_of, meets, met_stack, numbered_all, numbered_stack}
use Rattle.text.specs.Limits.{entered_stack, nodes_stack, small_stack, room_for_stack, stack_fits}
use Rattle.text.specs.Building.{cuts, meanings_at, Pushed, Built, Ends}
use Rattle.text.proofs.StacksProperties.{Fits, fits_parts, fits_from, unfit, named_parts, named_from, named_met}
use Rattle.text.proofs.StacksProperties.{named_entered, named_nodes, listed, take_many_numbered, take_many_count}
use Rattle.text.proofs.StacksProperties.{take_many_size}
use Rattle.text.proofs.EnteredProperties.{extends_trans, get_or_extended, interned_brief}
use Rattle.text.proofs.MeaningsProperties.{meanings_at_append, meanings_at_old, meanings_at_take, meanings_at_drop}
use Rattle.text.proofs.MeaningsProperties.{length_meanings_at, length_numbered_stack, all_below_take, all_below_drop}
use Rattle.text.proofs.MeaningsProperties.{together, together_listed, terms_at_together}

module _ (text : List ℕ) (first : List (List ℕ)) (st : Stack) (ns : List (List ℕ)) (nodes : List Node)
    (places : List ℕ) (spans : List Span) (b : Built text first st ns nodes places spans) where
  pub built_length : length places ≡ length st
  built_length =
      sym (length_meanings_at ns nodes places) ∙ ap length (b.terms_are ns (kept_same ns)) ∙ length_numbered_stack st

  -- a node more, on top of the first k terms
  built_add : (st' : Stack) (ns' : List (List ℕ)) (nodes' : List Node) (places' : List ℕ) (spans' : List Span)
      (x : Node) (k : ℕ) (u : Term)
      → Fits first st' → ns' ≡ entered_stack first st' → Extends ns ns' → cuts text spans' ≡ met_stack st'
      → nodes_stack st' ≡ suc (nodes_stack st) → nodes' ≡ nodes ++ x ∷ [] → places' ≡ take k places ++ length nodes ∷ []
      → numbered_stack st' ≡ take k (numbered_stack st) ++ u ∷ []
      → ((more : List (List ℕ)) → Extends ns' more → build more (meanings more nodes) x ≡ u)
      → Built text first st' ns' nodes' places' spans'
  built_add st' ns' nodes' places' spans' x k u fits entered ext met count en ep numbers built =
      record {
        fits = fits_from first st' fits;
        names_are = entered;
        met_are = met;
        counted = size;
        placed = placed;
        terms_are = terms;
      }
    where
      grown : length nodes' ≡ length nodes + 1
      grown = ap length en ∙ length_push nodes x

      size : length nodes' ≡ nodes_stack st'
      size = let g = grown in let c = b.counted in omega arith

      below : all_below (length nodes) (take k places) ≡ true
      below = all_below_take (length nodes) k places b.placed

      placed : all_below (length nodes') places' ≡ true
      placed =
          let g = grown in
          ap (λ qs. all_below (length nodes') qs) ep
          ∙ all_below_push (length nodes') (take k places) (length nodes)
          (all_below_more (length nodes) (length nodes') (omega arith) (take k places) below) (omega arith)

      terms : (more : List (List ℕ)) → Extends ns' more → meanings_at more nodes' places' ≡ numbered_stack st'
      terms more e =
          ap (λ xs. meanings_at more xs places') en
          ∙ ap (meanings_at more (nodes ++ x ∷ [])) ep
          ∙ meanings_at_append more (nodes ++ x ∷ []) (take k places) (length nodes ∷ [])
          ∙ ap (λ l. l ++ meaning more (nodes ++ x ∷ []) (length nodes) ∷ [])
          (meanings_at_old more nodes x (take k places) below ∙ meanings_at_take more nodes k places
          ∙ ap (take k) (b.terms_are more (extends_trans ns ns' more ext e)))
          ∙ ap (λ t. take k (numbered_stack st) ++ t ∷ []) (meaning_new more nodes x ∙ built more e)
          ∙ sym numbers

  -- the same with what the row answered
  built_push : (st' : Stack) (ns' : List (List ℕ)) (nodes' : List Node) (places' : List ℕ) (spans' : List Span)
      (x : Node) (k : ℕ) (u : Term) (r : Result (Unit {0}) LimitFault)
      → (length nodes < 256 → Fits first st') → ns' ≡ entered_stack first st' → Extends ns ns'
      → cuts text spans' ≡ met_stack st' → nodes_stack st' ≡ suc (nodes_stack st)
      → fitting (length nodes) x ≡ true → Pushed nodes (take k places) x nodes' places' r
      → numbered_stack st' ≡ take k (numbered_stack st) ++ u ∷ []
      → ((more : List (List ℕ)) → Extends ns' more → build more (meanings more nodes) x ≡ u)
      → Ends text first st' ns' nodes' places' spans' r
  built_push st' ns' nodes' places' spans' x k u (Ok y) fits entered ext met count fit pushed numbers built =
      built_add st' ns' nodes' places' spans' x k u (fits pushed.0) entered ext met count pushed.1 pushed.2
      numbers built
  built_push st' ns' nodes' places' spans' x k u (Err f) fits entered ext met count fit pushed numbers built =
      unfit first st' (λ h. elim (and_cases (ltb (length nodes) 256) (fitting (length nodes) x) pushed) [
        | inl e ↦ (let full = ltb-false (length nodes) 256 e in let c = b.counted in let m = h.nodes in omega arith)
        | inr e ↦ both_ways (fitting (length nodes) x) e fit
      ])

  all_places : take (length places) places ≡ places
  all_places = take_all (length places) places (omega arith)

  numbers_all : take (length places) (numbered_stack st) ≡ numbered_stack st
  numbers_all =
      let e = built_length in
      let n = length_numbered_stack st in
      take_all (length places) (numbered_stack st) (omega arith)

  kept_all : (nodes' : List Node) (places' : List ℕ) (x : Node) (r : Result (Unit {0}) LimitFault)
      → Pushed nodes places x nodes' places' r → Pushed nodes (take (length places) places) x nodes' places' r
  kept_all nodes' places' x (Ok y) p =
      (p.0, p.1, p.2 ∙ ap (λ l. l ++ length nodes ∷ []) (sym all_places))
  kept_all nodes' places' x (Err f) p = p

  pub built_var : (nodes' : List Node) (places' : List ℕ) (spans' : List Span) (a : List ℕ) (n : ℕ)
      (r : Result (Unit {0}) LimitFault)
      → n ≡ number_of (cuts text spans) a → cuts text spans' ≡ meets (cuts text spans) a → length (cuts text spans') ≤ 32
      → Pushed nodes places (Var n) nodes' places' r
      → Ends text first (var a ∷ st) ns nodes' places' spans' r
  built_var nodes' places' spans' a n r en em few pushed =
      let met : cuts text spans' ≡ meets (met_stack st) a = em ∙ ap (λ e. meets e a) b.met_are in
      let old = fits_parts first st b.fits in
      built_push (var a ∷ st) ns nodes' places' spans' (Var n) (length places) (term.var (number_of (met_stack st) a)) r
      (λ l. record {
        brief = and_from (small_stack st) true old.brief refl;
        few = (let e = ap length met in omega arith);
        nodes = (let c = b.counted in omega arith);
        room = and_from (room_for_stack first st) true old.room refl;
      })
      b.names_are (kept_same ns) met (omega arith) refl
      (kept_all nodes' places' (Var n) r pushed)
      (ap (λ l. l ++ term.var (number_of (met_stack st) a) ∷ []) (sym numbers_all))
      (λ more e. ap term.var (en ∙ ap (λ m. number_of m a) b.met_are))

  pub var_unfit : (a : List ℕ) → 32 < length (meets (cuts text spans) a) → stack_fits first (var a ∷ st) ≡ false
  var_unfit a l =
      let e = ap (λ m. length (meets m a)) b.met_are in
      unfit first (var a ∷ st) (λ h. let m = h.few in omega arith)

  pub built_int : (nodes' : List Node) (places' : List ℕ) (a : List ℕ) (r : Result (Unit {0}) LimitFault)
      → fits_integer a ≡ true → Pushed nodes places (Int (integer_of a)) nodes' places' r
      → Ends text first (int a ∷ st) ns nodes' places' spans r
  built_int nodes' places' a r fit pushed =
      let old = fits_parts first st b.fits in
      built_push (int a ∷ st) ns nodes' places' spans (Int (integer_of a)) (length places) (term.int (integer_of a)) r
      (λ l. record {
        brief = and_from (small_stack st) (fits_integer a) old.brief fit;
        few = old.few;
        nodes = (let c = b.counted in omega arith);
        room = and_from (room_for_stack first st) true old.room refl;
      })
      b.names_are (kept_same ns) b.met_are (omega arith) refl
      (kept_all nodes' places' (Int (integer_of a)) r pushed)
      (ap (λ l. l ++ term.int (integer_of a) ∷ []) (sym numbers_all))
      (λ more e. refl)

  pub int_unfit : (a : List ℕ) → fits_integer a ≡ false → stack_fits first (int a ∷ st) ≡ false
  int_unfit a f =
      unfit first (int a ∷ st)
      (λ h. both_ways (fits_integer a) f (and_parts (small_stack st) (fits_integer a) h.brief).1)

  pub arity_unfit : (f : List ℕ) (arity count : ℕ) → count ≡ min arity (length places) → 8 < count
      → stack_fits first (named f (take_many arity st)) ≡ false
  arity_unfit f arity count e l =
      let n = built_length in
      unfit first (named f (take_many arity st))
      (λ h. let m = (named_parts first f arity st h).arguments in omega arith)

  pub name_unfit : (f : List ℕ) (arity : ℕ) (e : NameFault) → Err e ≡ interned ns f
      → stack_fits first (named f (take_many arity st)) ≡ false
  name_unfit f arity e h =
      unfit first (named f (take_many arity st)) (λ k.
      let s : is_ok {T = ℕ} {E = NameFault} (Err e) ≡ true = ap is_ok (h ∙ ap (λ l. interned l f) b.names_are)
      ∙ (named_parts first f arity st k).room in
      both_ways false refl s)

  pub long_unfit : (f : List ℕ) (arity : ℕ) → 64 < length f → stack_fits first (named f (take_many arity st)) ≡ false
  long_unfit f arity l =
      unfit first (named f (take_many arity st))
      (λ h. let m = (named_parts first f arity st h).brief in omega arith)

  pub built_app : (nodes' : List Node) (places' : List ℕ) (name arity count k : ℕ) (args : List ℕ) (f : List ℕ)
      (r : Result (Unit {0}) LimitFault)
      → Extends ns (list_after ns f) → is_ok (interned ns f) ≡ true → name_at (list_after ns f) name ≡ Some f
      → count ≡ min arity (length places) → k ≡ length places - count → count ≤ 8 → take count args ≡ drop k places
      → Pushed nodes (take k places) (App name count args) nodes' places' r
      → Ends text first (named f (take_many arity st)) (list_after ns f) nodes' places' spans r
  built_app nodes' places' name arity count k args f r ext ok at ec ek few ea pushed =
      built_push (named f (take_many arity st)) (list_after ns f) nodes' places' spans (App name count args) k
      (term.app f (numbered_all (met_stack (take_many arity st).stack) (take_many arity st).terms)) r
      (λ l. named_from first f arity st (record {
        before = fits_parts first st b.fits;
        brief = interned_brief ns f ok;
        arguments = (let n = built_length in omega arith);
        nodes = (let c = b.counted in omega arith);
        room = ap (λ l. is_ok (interned l f)) (sym b.names_are) ∙ ok;
      }))
      (ap (λ l. list_after l f) b.names_are ∙ sym (named_entered first f arity st))
      ext
      (b.met_are ∙ sym (named_met f arity st))
      (named_nodes f arity st)
      (and_from (leb count 8) (all_below (length nodes) (take count args)) (le-leb count 8 few)
      (ap (all_below (length nodes)) ea ∙ all_below_drop (length nodes) k places b.placed))
      pushed
      (ap (λ l. l ++ (term.app f (numbered_all (met_stack (take_many arity st).stack) (take_many arity st).terms)) ∷ []) (sym front))
      means
    where
      left : length (numbered_stack (take_many arity st).stack) ≡ k
      left =
          let a = length_numbered_stack (take_many arity st).stack in
          let c = take_many_count arity st in
          let s = take_many_size arity st in
          let n = built_length in
          omega arith

      front : take k (numbered_stack st) ≡ numbered_stack (take_many arity st).stack
      front =
          ap (take k) (sym (take_many_numbered arity st))
          ∙ take_at (numbered_stack (take_many arity st).stack) (listed
          (numbered_all (met_stack (take_many arity st).stack) (take_many arity st).terms)) k left

      back : drop k (numbered_stack st) ≡ listed (numbered_all (met_stack (take_many arity st).stack) (take_many arity st).terms)
      back =
          ap (drop k) (sym (take_many_numbered arity st))
          ∙ drop_at (numbered_stack (take_many arity st).stack) (listed
          (numbered_all (met_stack (take_many arity st).stack) (take_many arity st).terms)) k left

      means : (more : List (List ℕ)) → Extends (list_after ns f) more
          → build more (meanings more nodes) (App name count args)
          ≡ term.app f (numbered_all (met_stack (take_many arity st).stack) (take_many arity st).terms)
      means more e =
          ap (λ g. term.app g (terms_at (meanings more nodes) (take count args)))
          (get_or_extended (list_after ns f) more name f e at)
          ∙ ap (term.app f) (ap (terms_at (meanings more nodes)) ea ∙ terms_at_together more nodes (drop k places)
          ∙ ap together (meanings_at_drop more nodes k places
          ∙ ap (drop k) (b.terms_are more (extends_trans ns (list_after ns f) more ext e)) ∙ back)
          ∙ together_listed
          (numbered_all (met_stack (take_many arity st).stack) (take_many arity st).terms))

-- nothing is built from nothing
pub built_none : (text : List ℕ) (ns : List (List ℕ)) (nodes : List Node) (places : List ℕ) (spans : List Span)
    → nodes ≡ [] → places ≡ [] → spans ≡ [] → Built text ns [] ns nodes places spans
built_none text ns nodes places spans en ep es =
    record {
      fits = refl;
      names_are = refl;
      met_are = ap (cuts text) es;
      counted = ap length en;
      placed = ap (all_below (length nodes)) ep;
      terms_are = λ more e. ap (meanings_at more nodes) ep;
    }

-- an integer that was read

pub read_integer_some : (a : List ℕ) (v : ℤ) → Some v ≡ read_integer a → (fits_integer a ≡ true) × (v ≡ integer_of a)
read_integer_some a v e = elim (cases_Bool (fits_integer a)) [ inl t ↦ here t | inr t ↦ none t ]
  where
    here : fits_integer a ≡ true → (fits_integer a ≡ true) × (v ≡ integer_of a)
    here t =
        let s : Some v ≡ Some (integer_of a) = e ∙ ap (λ b. cond b (Some (integer_of a)) None) t in
        let is : v ≡ integer_of a = cc in
        (t, is)

    none : fits_integer a ≡ false → (fits_integer a ≡ true) × (v ≡ integer_of a)
    none t =
        let s : Some v ≡ None = e ∙ ap (λ b. cond b (Some (integer_of a)) None) t in
        let z : ◌≡◌ {A = ℕ} 0 1 = cc in
        absurd (omega arith)

-- two terms on top, or fewer

pub joined_short : (f : List ℕ) (st : Stack) → length st < 2 → joined f st ≡ st
joined_short f [] l = refl
joined_short f (t ∷ []) l = refl
joined_short f (t ∷ u ∷ st) l = absurd (omega arith)

pub joined_long : (f : List ℕ) (st : Stack) → 2 ≤ length st → named f (take_many 2 st) ≡ joined f st
joined_long f [] l = absurd (omega arith)
joined_long f (t ∷ []) l = absurd (omega arith)
joined_long f (t ∷ u ∷ st) l = refl

-- the same ending by another name

pub ends_as : (text : List ℕ) (first : List (List ℕ)) (st st' : Stack) (ns ns' : List (List ℕ)) (nodes : List Node)
    (places : List ℕ) (spans : List Span) (r : Result (Unit {0}) LimitFault)
    → st ≡ st' → ns ≡ ns' → Ends text first st ns nodes places spans r → Ends text first st' ns' nodes places spans r
ends_as text first st st' ns ns' nodes places spans r es en h =
    let P : Stack → Type 0 = λ s. Ends text first s ns' nodes places spans r in
    let Q : List (List ℕ) → Type 0 = λ l. Ends text first st l nodes places spans r in
    subst P es (subst Q en h)

pub ends_err : (text : List ℕ) (first : List (List ℕ)) (st : Stack) (ns : List (List ℕ)) (nodes : List Node)
    (places : List ℕ) (spans : List Span) (r : Result (Unit {0}) LimitFault)
    → is_err r ≡ true → stack_fits first st ≡ false → Ends text first st ns nodes places spans r
ends_err text first st ns nodes places spans (Ok u) e h = let z : ◌≡◌ {A = ℕ} 0 1 = cc in absurd (omega arith)
ends_err text first st ns nodes places spans (Err f) e h = h

-- what was pushed, by other names for the places before it and for the node
pub pushed_from : (nodes : List Node) (places : List ℕ) (x x' : Node) (nodes' : List Node) (places' : List ℕ)
    (qs : List ℕ) (r : Result (Unit {0}) LimitFault) → places ≡ qs → x ≡ x'
    → Pushed nodes places x nodes' places' r → Pushed nodes qs x' nodes' places' r
pushed_from nodes places x x' nodes' places' qs r e ex h =
    let P : List ℕ → Type 0 = λ l. Pushed nodes l x' nodes' places' r in
    let Q : Node → Type 0 = λ y. Pushed nodes places y nodes' places' r in
    subst P e (subst Q ex h)

pub spans_as : (text : List ℕ) (first : List (List ℕ)) (st : Stack) (ns : List (List ℕ)) (nodes : List Node)
    (places : List ℕ) (spans spans' : List Span) (r : Result (Unit {0}) LimitFault)
    → spans ≡ spans' → Ends text first st ns nodes places spans r → Ends text first st ns nodes places spans' r
spans_as text first st ns nodes places spans spans' r e h =
    let P : List Span → Type 0 = λ l. Ends text first st ns nodes places l r in subst P e h
