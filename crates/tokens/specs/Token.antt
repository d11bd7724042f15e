-- Tokens: what stands at the front of the bytes, and the rows of tokens that bytes are.
use Rattle.std.specs.Prelude.{◌≡◌, ℕ, Bool, true, false, cond, ◌&&◌, List, [], ◌∷◌, ◌++◌, Some, None, Option}
use Rattle.tokens.specs.declared.kind.Kind.{Kind}
use Rattle.tokens.specs.declared.kind.Kind.TheVariants.{Small, Capital, Digit, Symbol, Solo, Quote, Opening, Closing}
use Rattle.tokens.specs.declared.kind.Kind.TheVariants.{Left, Right, Bar, Comma, Stop, Space, Stray}
use Rattle.tokens.specs.Bytes.{class, word, digit, symbol, quote, space, same}

-- A name has its bytes without quotes. An opening bracket is joined if no space parts it from the token before.
pub data Token : Type 0 where
  name : List ℕ → Token
  variable : List ℕ → Token
  integer : List ℕ → Token
  neck : Token
  opening : Bool → Token
  closing : Token
  left : Token
  right : Token
  bar : Token
  comma : Token
  stop : Token

-- What has been read of a token: a run of bytes, a quoted name (open, or behind a quote that closes it unless one more
-- follows), or all of it.
pub data Part : Type 0 where
  small_run : List ℕ → Part
  capital_run : List ℕ → Part
  digits : List ℕ → Part
  symbols : List ℕ → Part
  inside : List ℕ → Part
  closed : List ℕ → Part
  single : Token → Part

-- what stands before a token: nothing, spaces, or a token directly
pub data Edge : Type 0 where
  first : Edge
  spaced : Edge
  joined : Edge

abbrev pub is_joined : Edge → Bool
is_joined first = false
is_joined spaced = false
is_joined joined = true

-- spaces stand between tokens only
abbrev pub may_part : Edge → Bool
may_part first = false
may_part spaced = true
may_part joined = true

abbrev pub neck_bytes : List ℕ
neck_bytes = 58 ∷ 45 ∷ []

abbrev pub minus_bytes : List ℕ
minus_bytes = 45 ∷ []

-- a run of symbols is a name, but for `:-`
abbrev pub run : List ℕ → Token
run bs = cond (same bs neck_bytes) neck (name bs)

-- the token that a first byte of such a kind begins
abbrev pub start_as : Kind → Edge → ℕ → Option Part
start_as Small e c = Some (small_run (c ∷ []))
start_as Capital e c = Some (capital_run (c ∷ []))
start_as Digit e c = Some (digits (c ∷ []))
start_as Symbol e c = Some (symbols (c ∷ []))
start_as Solo e c = Some (single (name (c ∷ [])))
start_as Quote e c = Some (inside [])
start_as Opening e c = Some (single (opening (is_joined e)))
start_as Closing e c = Some (single closing)
start_as Left e c = Some (single left)
start_as Right e c = Some (single right)
start_as Bar e c = Some (single bar)
start_as Comma e c = Some (single comma)
start_as Stop e c = Some (single stop)
start_as Space e c = None
start_as Stray e c = None

abbrev pub start : Edge → ℕ → Option Part
start e c = start_as (class c) e c

-- one more byte of the same token, or none if the token ends before it; a lone `-` directly before a digit is a sign
abbrev pub advance : Part → ℕ → Option Part
advance (small_run bs) c = cond (word c) (Some (small_run (bs ++ c ∷ []))) None
advance (capital_run bs) c = cond (word c) (Some (capital_run (bs ++ c ∷ []))) None
advance (digits bs) c = cond (digit c) (Some (digits (bs ++ c ∷ []))) None
advance (symbols bs) c =
    cond (symbol c) (Some (symbols (bs ++ c ∷ [])))
    (cond (same bs minus_bytes && digit c) (Some (digits (bs ++ c ∷ []))) None)
advance (inside bs) c = cond (quote c) (Some (closed bs)) (Some (inside (bs ++ c ∷ [])))
advance (closed bs) c = cond (quote c) (Some (inside (bs ++ c ∷ []))) None
advance (single t) c = None

-- the token, if it ends here
abbrev pub ended : Part → Option Token
ended (small_run bs) = Some (name bs)
ended (capital_run bs) = Some (variable bs)
ended (digits bs) = Some (integer bs)
ended (symbols bs) = Some (run bs)
ended (inside bs) = None
ended (closed bs) = Some (name bs)
ended (single t) = Some t

-- no token, a quoted name that is never closed, or a token and what follows it
pub data Scan : Type 0 where
  nothing : Scan
  endless : Scan
  got : Token → List ℕ → Scan

abbrev pub scanned : Option Token → List ℕ → Scan
scanned None r = endless
scanned (Some t) r = got t r

abbrev pub or_else : Option Part → Scan → (Part → Scan) → Scan
or_else None x f = x
or_else (Some q) x f = f q

-- the rest of a token
abbrev pub scan_from : Part → List ℕ → Scan
scan_from q [] = scanned (ended q) []
scan_from q (c ∷ s) = or_else (advance q c) (scanned (ended q) (c ∷ s)) (λ q'. scan_from q' s)

-- the token at the front, and the bytes behind it
abbrev pub scan : Edge → List ℕ → Scan
scan e [] = nothing
scan e (c ∷ s) = or_else (start e c) nothing (λ q. scan_from q s)

-- the bytes, behind such an edge, are this row of tokens, spaces between them
pub data Row : Edge → List ℕ → List Token → Type 0 where
  last : {e : Edge} {s : List ℕ} {t : Token} → scan e s ≡ got t [] → Row e s (t ∷ [])
  next : {e : Edge} {s : List ℕ} {t : Token} {c : ℕ} {r : List ℕ} {ts : List Token}
      → scan e s ≡ got t (c ∷ r) → Row joined (c ∷ r) ts → Row e s (t ∷ ts)
  gap : {e : Edge} {c : ℕ} {s : List ℕ} {ts : List Token}
      → may_part e ≡ true → space c ≡ true → Row spaced s ts → Row e (c ∷ s) ts

pub data IsRow (s : List ℕ) : Type 0 where
  a_row : {ts : List Token} → Row first s ts → IsRow s
