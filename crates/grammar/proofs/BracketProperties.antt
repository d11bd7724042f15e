-- The machine counts brackets as the bytes do: behind the bytes that it has taken, the brackets still allowed and
-- those that stand open outside quoted names are together as many as may be open.
use Rattle.std.proofs.Common.{◌≡◌, ℕ, ◌+◌, Bool, true, false, cond, List, [], ◌∷◌, is_some, Some, None, Option, sym}
use Rattle.std.proofs.Common.{refl, ap, ◌∙◌, subst, arith}
use Rattle.tokens.specs.Bytes.{space}
use Rattle.tokens.specs.Token.{Token, Part, small_run, capital_run, digits, symbols, inside, closed, single}
use Rattle.tokens.specs.Token.{Edge, first, spaced, joined, may_part, start, advance, ended, run}
use Rattle.grammar.specs.Grammar.{brackets, Goal, a_rule, a_query}
use Rattle.grammar.specs.Machine.{Lex, edge, within, at, State, hope, check, enter_by, enter, feed_maybe, fresh}
use Rattle.grammar.specs.Machine.{step_by}
use Rattle.grammar.specs.Machine.{step, allowed_by, allowed_at}
use Rattle.grammar.specs.Sentences.{Place, feed, allowed, sentences, begin}
use Rattle.grammar.specs.Faults.{open_from, open_brackets}
use Rattle.grammar.proofs.LexingProperties.{false_is_not_true}
use Rattle.grammar.proofs.RowProperties.{none_is_not_some}
use Rattle.grammar.proofs.LeastProperties.{Leads, here, on, leads_keep_hope}
use Rattle.grammar.proofs.DepthProperties.{depth, behind, Counts, refused, counts, feed_counts}
use Rattle.grammar.proofs.OpenProperties.{behind_part, open_part, open_maybe, open_behind, plain_opens_none}
use Rattle.grammar.proofs.OpenProperties.{space_plain, start_opens, advance_opens, run_opens_none, ended_opens}

-- what the bytes w open behind such a state, where d brackets are open before the part of a token
abbrev open_at : Lex → ℕ → List ℕ → ℕ
open_at (edge e) d w = open_from false d w
open_at (within q) d w = open_part q d w

abbrev depth_at : Lex → ℕ → ℕ
depth_at (edge e) d = d
depth_at (within q) d = behind_part q d

-- one step of the machine

abbrev Fits : Place → Type 0
Fits p = allowed p + depth p ≡ brackets

-- the machine stops, or goes to a state behind which the bytes w open n w brackets
data Goes (n : List ℕ → ℕ) : Option (State sentences) → Type 0 where
  stops : Goes n None
  goes : {q : Lex} {p : Place} → Fits p → ((w : List ℕ) → n w ≡ open_at q (depth p) w) → Goes n (Some (at q p))

goes_as : {n k : List ℕ → ℕ} {m : Option (State sentences)} → ((w : List ℕ) → n w ≡ k w) → Goes k m → Goes n m
goes_as f stops = stops
goes_as f (goes i g) = goes i (λ w. f w ∙ g w)

check_goes : (n : List ℕ → ℕ) (q : Lex) (p : Place) → Fits p → ((w : List ℕ) → n w ≡ open_at q (depth p) w)
    → Goes n (check sentences q p)
check_goes n q p i f = go (hope sentences q p)
  where
    go : (b : Bool) → Goes n (cond b (Some (at q p)) None)
    go true = goes i f
    go false = stops

enter_by_goes : (n : List ℕ → ℕ) (m : Option Part) (p : Place) → Fits p
    → ((w : List ℕ) → n w ≡ open_maybe m (depth p) w) → Goes n (enter_by sentences m p)
enter_by_goes n None p i f = stops
enter_by_goes n (Some q) p i f = check_goes n (within q) p i f

enter_goes : (e : Edge) (p : Place) (c : ℕ) → Fits p
    → Goes (λ w. open_from false (depth p) (c ∷ w)) (enter sentences e p c)
enter_goes e p c i = go (space c) (may_part e) refl
  where
    go : (a b : Bool) → space c ≡ a
        → Goes (λ w. open_from false (depth p) (c ∷ w))
        (cond a (cond b (check sentences (edge spaced) p) None) (enter_by sentences (start e c) p))
    go true true h =
        check_goes _ (edge spaced) p i (λ w. plain_opens_none (depth p) w (space_plain c h))
    go true false h = stops
    go false b h = enter_by_goes _ (start e c) p i (λ w. start_opens e c (depth p) w)

fresh_goes : (q : Part) (p : Place) (c : ℕ) (m : Option Token) → ended q ≡ m → Fits p
    → Goes (λ w. open_part q (depth p) (c ∷ w)) (fresh sentences (feed_maybe sentences p m) c)
fresh_goes q p c None h i = stops
fresh_goes q p c (Some t) h i = go (feed p t) (feed_counts p t i)
  where
    go : (m : Option Place) → Counts (behind t (depth p)) m
        → Goes (λ w. open_part q (depth p) (c ∷ w)) (fresh sentences m c)
    go m refused = stops
    go m (counts {p = p₁} j e) =
        goes_as
        (λ w.
        ended_opens q (depth p) (c ∷ w) ∙ ap (λ m. open_behind m (depth p) (c ∷ w)) h
        ∙ ap (λ d. open_from false d (c ∷ w)) (sym e))
        (enter_goes joined p₁ c j)

step_goes : (q : Lex) (p : Place) (c : ℕ) → Fits p → Goes (λ w. open_at q (depth p) (c ∷ w)) (step sentences q p c)
step_goes (edge e) p c i = enter_goes e p c i
step_goes (within q) p c i = go (advance q c) refl
  where
    go : (m : Option Part) → advance q c ≡ m → Goes (λ w. open_part q (depth p) (c ∷ w)) (step_by sentences m q p c)
    go None h = fresh_goes q p c (ended q) refl i
    go (Some q') h = check_goes _ (within q') p i (λ w. advance_opens q c (depth p) w h)

goes_from : {n : List ℕ → ℕ} {m : Option (State sentences)} {q : Lex} {p : Place} → Goes n m → m ≡ Some (at q p)
    → Fits p × ((w : List ℕ) → n w ≡ open_at q (depth p) w)
goes_from stops h = none_is_not_some h
goes_from {n} {q = q} {p = p} (goes {q = q₁} {p = p₁} i f) h =
    let e : q₁ ≡ q = cc in
    let k : p₁ ≡ p = cc in
    (subst Fits k i, λ w. f w ∙ ap (λ q. open_at q (depth p₁) w) e ∙ ap (λ p. open_at q (depth p) w) k)

none_opened : (q : Lex) (d : ℕ) → open_at q d [] ≡ depth_at q d
none_opened (edge e) d = refl
none_opened (within q) d = refl

leads_count : {u : List ℕ} {q q₁ : Lex} {p p₁ : Place} → Leads sentences u q p q₁ p₁ → Fits p
    → Fits p₁ × (open_at q (depth p) u ≡ depth_at q₁ (depth p₁))
leads_count {q = q} {p = p} here i = (i, none_opened q (depth p))
leads_count (on {c = c} {u = u} {q = q} {p = p} e l) i =
    let g = goes_from (step_goes q p c i) e in
    let z = leads_count l g.0 in
    (z.0, g.1 u ∙ z.1)

-- the brackets that are allowed behind what was read

fed_allows : (p : Place) (t : Token) → Fits p → (feed p t ≡ None → behind t (depth p) ≡ depth p)
    → allowed_by sentences (feed p t) p + behind t (depth p) ≡ brackets
fed_allows p t i f = go (feed p t) refl (feed_counts p t i)
  where
    go : (m : Option Place) → feed p t ≡ m → Counts (behind t (depth p)) m
        → allowed_by sentences m p + behind t (depth p) ≡ brackets
    go m e refused = let k = f e in omega arith
    go m e (counts j k) = omega arith

part_allows : (q : Part) (p : Place) → hope sentences (within q) p ≡ true → Fits p
    → allowed_at sentences (within q) p + behind_part q (depth p) ≡ brackets
part_allows (small_run bs) p h i = fed_allows p _ i (λ e. refl)
part_allows (capital_run bs) p h i = fed_allows p _ i (λ e. refl)
part_allows (digits bs) p h i = fed_allows p _ i (λ e. refl)
part_allows (symbols bs) p h i =
    let k = run_opens_none bs (depth p) in
    let z = fed_allows p (run bs) i (λ e. k) in
    omega arith
part_allows (inside bs) p h i = i
part_allows (closed bs) p h i = fed_allows p _ i (λ e. refl)
part_allows (single t) p h i = fed_allows p t i (λ e. false_is_not_true (sym (ap is_some e) ∙ h))

state_allows : (q : Lex) (p : Place) → hope sentences q p ≡ true → Fits p
    → allowed_at sentences q p + depth_at q (depth p) ≡ brackets
state_allows (edge e) p h i = i
state_allows (within q) p h i = part_allows q p h i

begin_fits : (g : Goal) → Fits (begin g)
begin_fits a_rule = refl
begin_fits a_query = refl

pub begin_hopes : (g : Goal) → hope sentences (edge first) (begin g) ≡ true
begin_hopes a_rule = refl
begin_hopes a_query = refl

begin_empty : (g : Goal) → depth (begin g) ≡ 0
begin_empty a_rule = refl
begin_empty a_query = refl

-- behind the bytes u the machine allows as many brackets as are left
pub brackets_counted : (g : Goal) {u : List ℕ} {q : Lex} {p : Place} → Leads sentences u (edge first) (begin g) q p
    → allowed_at sentences q p + open_brackets u ≡ brackets
brackets_counted g {u} {q} {p} l =
    let z = leads_count l (begin_fits g) in
    let h = leads_keep_hope sentences l (begin_hopes g) in
    let k = state_allows q p h z.0 in
    let e : open_brackets u ≡ depth_at q (depth p) = ap (λ d. open_from false d u) (sym (begin_empty g)) ∙ z.1 in
    ap (λ n. allowed_at sentences q p + n) e ∙ k
