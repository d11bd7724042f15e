-- A reader that takes byte by byte and stops at the first byte that no text could have there, over any reader of tokens.
use Rattle.std.specs.Prelude.{ℕ, Bool, cond, ◌&&◌, ◌||◌, List, [], ◌∷◌, is_some, Some, None, Option}
use Rattle.tokens.specs.Bytes.{space, begins}
use Rattle.tokens.specs.Token.{Token, name, variable, integer, neck, Part, small_run, capital_run, digits, symbols}
use Rattle.tokens.specs.Token.{inside, closed, single, Edge, spaced, joined, may_part, start, advance, ended}
use Rattle.tokens.specs.Token.{neck_bytes}

-- A reader of tokens: its places, what a token makes of a place, whether some token can still be taken, what has been read
-- if the tokens end here, and how many more brackets may be opened here.
pub record Parser : Type 1 where
  pub Place : Type 0
  pub Result : Type 0
  pub feed : Place → Token → Option Place
  pub is_open_ended : Place → Bool
  pub result : Place → Option Result
  pub allowed : Place → ℕ

-- between two tokens, or inside one
pub data Lex : Type 0 where
  edge : Edge → Lex
  within : Part → Lex

pub data StateOf (P : Type 0) : Type 0 where
  at : Lex → P → StateOf P

-- what was read, or the brackets still allowed and the bytes left at the first byte that could not stand there
pub data VerdictOf (R : Type 0) : Type 0 where
  good : R → VerdictOf R
  bad : ℕ → List ℕ → VerdictOf R

module _ (G : Parser) where
  abbrev pub State : Type 0
  State = StateOf G.Place

  abbrev pub Verdict : Type 0
  Verdict = VerdictOf G.Result

  abbrev pub takes : G.Place → Token → Bool
  takes p t = is_some (G.feed p t)

  -- some token that begins so can be taken
  abbrev pub hope_within : Part → G.Place → Bool
  hope_within (small_run bs) p = takes p (name [])
  hope_within (capital_run bs) p = takes p (variable [])
  hope_within (digits bs) p = takes p (integer [])
  hope_within (symbols bs) p = takes p (name []) || (takes p neck && begins bs neck_bytes)
  hope_within (inside bs) p = takes p (name [])
  hope_within (closed bs) p = takes p (name [])
  hope_within (single t) p = takes p t

  abbrev pub hope : Lex → G.Place → Bool
  hope (edge e) p = G.is_open_ended p
  hope (within q) p = hope_within q p

  abbrev pub check : Lex → G.Place → Option State
  check q p = cond (hope q p) (Some (at q p)) None

  abbrev pub enter_by : Option Part → G.Place → Option State
  enter_by None p = None
  enter_by (Some q) p = check (within q) p

  -- a byte at the edge of a token
  abbrev pub enter : Edge → G.Place → ℕ → Option State
  enter e p c = cond (space c) (cond (may_part e) (check (edge spaced) p) None) (enter_by (start e c) p)

  abbrev pub feed_maybe : G.Place → Option Token → Option G.Place
  feed_maybe p None = None
  feed_maybe p (Some t) = G.feed p t

  abbrev pub fresh : Option G.Place → ℕ → Option State
  fresh None c = None
  fresh (Some p) c = enter joined p c

  abbrev pub step_by : Option Part → Part → G.Place → ℕ → Option State
  step_by None q p c = fresh (feed_maybe p (ended q)) c
  step_by (Some q') q p c = check (within q') p

  -- one more byte
  abbrev pub step : Lex → G.Place → ℕ → Option State
  step (edge e) p c = enter e p c
  step (within q) p c = step_by (advance q c) q p c

  abbrev pub allowed_by : Option G.Place → G.Place → ℕ
  allowed_by None p = G.allowed p
  allowed_by (Some p') p = G.allowed p'

  -- how many brackets are allowed behind what was read
  abbrev pub allowed_at : Lex → G.Place → ℕ
  allowed_at (edge e) p = G.allowed p
  allowed_at (within q) p = allowed_by (feed_maybe p (ended q)) p

  abbrev pub finished_by : ℕ → Option G.Result → Verdict
  finished_by n None = bad n []
  finished_by n (Some r) = good r

  -- the text ends behind a whole token
  abbrev pub finished : ℕ → Option G.Place → Verdict
  finished n None = bad n []
  finished n (Some p) = finished_by (G.allowed p) (G.result p)

  -- the text ends
  abbrev pub finish : Lex → G.Place → Verdict
  finish (edge e) p = bad (G.allowed p) []
  finish (within q) p = finished (G.allowed p) (feed_maybe p (ended q))

  abbrev pub or_bad : Option State → Verdict → (Lex → G.Place → Verdict) → Verdict
  or_bad None v f = v
  or_bad (Some (at q p)) v f = f q p

  abbrev pub verdict : List ℕ → Lex → G.Place → Verdict
  verdict [] q p = finish q p
  verdict (c ∷ s) q p = or_bad (step q p c) (bad (allowed_at q p) (c ∷ s)) (verdict s)

  -- behind a whole token, which was taken or not
  abbrev pub onward : ℕ → Option G.Place → List ℕ → Verdict
  onward n None s = bad n s
  onward n (Some p) [] = finished_by (G.allowed p) (G.result p)
  onward n (Some p) (c ∷ s) = verdict (c ∷ s) (edge joined) p

  -- token by token
  abbrev pub feed_all : Option G.Place → List Token → Option G.Place
  feed_all m [] = m
  feed_all None (t ∷ ts) = None
  feed_all (Some p) (t ∷ ts) = feed_all (G.feed p t) ts
