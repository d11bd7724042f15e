-- What the code that finds tokens answers, by the definition of tokens.
use Rattle.std.specs.Prelude.{◌≡◌, ℕ, ◌+◌, ◌-◌, ◌<◌, ◌≤◌, Bool, true, false, cond, List, [], ◌∷◌, length, take, drop}
use Rattle.std.specs.Prelude.{Ok, Err, Result, Some, None, Option}
use Rattle.tokens.specs.declared.kind.Kind.{Kind}
use Rattle.tokens.specs.declared.kind.Kind.TheVariants.{Stray}
use Rattle.tokens.specs.declared.scan.Token.{Token}
use Rattle.tokens.specs.declared.scan.Token.TheVariants as code
use Rattle.tokens.specs.declared.scan.Found.{Found}
use Rattle.tokens.specs.declared.scan.TokenFault.{TokenFault}
use Rattle.tokens.specs.declared.scan.TokenFault.TheVariants as fault
use Rattle.tokens.specs.Bytes.{class, quote, space, past, digit}
use Rattle.tokens.specs.Token as spec

-- the kind of the first byte; at the end no token begins
abbrev pub head_kind : List ℕ → Kind
head_kind [] = Stray
head_kind (c ∷ s) = class c

abbrev pub digit_at : List ℕ → Bool
digit_at [] = false
digit_at (c ∷ s) = digit c

-- a byte of any kind but Stray stands inside the line
abbrev pub Inside : Kind → ℕ → List ℕ → Type 0
Inside Stray i s = Unit {0}
Inside _ i s = i < length s

-- the bytes of a quoted name, each doubled quote as one; true behind the first of two quotes
abbrev pub undouble : Bool → List ℕ → List ℕ
undouble b [] = []
undouble true (c ∷ s) = c ∷ undouble false s
undouble false (c ∷ s) = cond (quote c) (undouble true s) (c ∷ undouble false s)

-- what the definition finds where the code found this token
abbrev pub scan_of : Token → List ℕ → spec.Scan
scan_of (code.Name s) r = spec.got (spec.name s.now) r
scan_of (code.Quoted s) r = spec.got (spec.name (undouble false s.now)) r
scan_of (code.Variable s) r = spec.got (spec.variable s.now) r
scan_of (code.Integer s) r = spec.got (spec.integer s.now) r
scan_of code.Neck r = spec.got spec.neck r
scan_of code.Opening r = spec.got (spec.opening false) r
scan_of code.Closing r = spec.got spec.closing r
scan_of code.Left r = spec.got spec.left r
scan_of code.Right r = spec.got spec.right r
scan_of code.Bar r = spec.got spec.bar r
scan_of code.Comma r = spec.got spec.comma r
scan_of code.Stop r = spec.got spec.stop r
scan_of code.End r = spec.nothing

-- the end of the line has no bytes left; every other token has some
abbrev pub Length : Token → ℕ → ℕ → ℕ → Type 0
Length code.End a b n = (a ≡ n) × (b ≡ n)
Length _ a b n = a < b

-- the bytes behind the spaces at a place
abbrev pub from : List ℕ → ℕ → List ℕ
from line pos = past space (drop pos line)

-- the bytes that a token holds are its part of the line; a quoted name's are those between the quotes
abbrev pub Holds : List ℕ → Token → ℕ → ℕ → Type 0
Holds line (code.Name s) a b = s.now ≡ take (b - a) (drop a line)
Holds line (code.Quoted s) a b = (a + 2 ≤ b) × (s.now ≡ take (b - 1 - (a + 1)) (drop (a + 1) line))
Holds line (code.Variable s) a b = s.now ≡ take (b - a) (drop a line)
Holds line (code.Integer s) a b = s.now ≡ take (b - a) (drop a line)
Holds line _ a b = Unit {0}

-- the token that stands from a to b
pub record StandsAt (line : List ℕ) (t : Token) (a b : ℕ) : Type 0 where
  pub is : spec.scan spec.spaced (drop a line) ≡ scan_of t (drop b line)
  pub holds : Holds line t a b
  pub long : Length t a b (length line)
  pub within : b ≤ length line

-- the token that stands at its start
abbrev pub Stands : List ℕ → Found → Type 0
Stands line f = StandsAt line f.token f.start f.end

-- the answer for a token that begins at a place
abbrev pub StartsAs : List ℕ → ℕ → Result Found TokenFault → Type 0
StartsAs line start (Ok f) = Stands line f × (f.start ≡ start)
StartsAs line start (Err (fault.Stray p)) = (p ≡ start) × (p < length line) × (head_kind (drop p line) ≡ Stray)
StartsAs line start (Err (fault.Unclosed p)) =
    (p ≡ length line) × (spec.scan spec.spaced (drop start line) ≡ spec.endless)

-- the token behind the spaces at a place
abbrev pub TokenRead : List ℕ → ℕ → Result Found TokenFault → Type 0
TokenRead line pos (Ok f) = Stands line f × (drop f.start line ≡ from line pos) × (pos ≤ length line → pos ≤ f.start)
TokenRead line pos (Err (fault.Stray p)) =
    (drop p line ≡ from line pos) × (pos ≤ p) × (p < length line) × (head_kind (drop p line) ≡ Stray)
TokenRead line pos (Err (fault.Unclosed p)) = (p ≡ length line) × (spec.scan spec.spaced (from line pos) ≡ spec.endless)

-- behind the quote that closes the name whose inside begins at a place, if one closes it, and its bytes
abbrev pub QuoteRead : List ℕ → ℕ → Option ℕ → Type 0
QuoteRead line pos (Some e) =
    (pos < e) × (e ≤ length line)
    × (spec.scan_from (spec.inside []) (drop pos line)
    ≡ spec.got (spec.name (undouble false (take (e - 1 - pos) (drop pos line)))) (drop e line))
QuoteRead line pos None = spec.scan_from (spec.inside []) (drop pos line) ≡ spec.endless
