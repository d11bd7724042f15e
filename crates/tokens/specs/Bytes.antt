-- Kinds of bytes: what kind of token a byte begins, and which bytes go on in a run.
use Rattle.std.specs.Prelude.{ℕ, Bool, true, false, cond, ◌&&◌, ◌||◌, List, [], ◌∷◌, ◌==◌, nat_le}
use Rattle.std.specs.Str.{bytes_eq}
use Rattle.tokens.specs.declared.kind.Kind.{Kind}
use Rattle.tokens.specs.declared.kind.Kind.TheVariants.{Small, Capital, Digit, Symbol, Solo, Quote, Opening, Closing}
use Rattle.tokens.specs.declared.kind.Kind.TheVariants.{Left, Right, Bar, Comma, Stop, Space, Stray}
use Rattle.tokens.specs.declared.kind.Run.{Run}
use Rattle.tokens.specs.declared.kind.Run.TheVariants.{Word, Digits, Symbols, Spaces}

abbrev pub small : ℕ → Bool
small c = nat_le 97 c && nat_le c 122

-- a capital letter or `_`
abbrev pub capital : ℕ → Bool
capital c = (nat_le 65 c && nat_le c 90) || c == 95

abbrev pub digit : ℕ → Bool
digit c = nat_le 48 c && nat_le c 57

-- + - * / \ < = > :
abbrev pub symbol : ℕ → Bool
symbol c = c == 43 || c == 45 || c == 42 || c == 47 || c == 92 || c == 60 || c == 61 || c == 62 || c == 58

abbrev pub quote : ℕ → Bool
quote c = c == 39

abbrev pub space : ℕ → Bool
space c = c == 32

-- letters, digits and `_`
abbrev pub word : ℕ → Bool
word c = small c || capital c || digit c

-- the kind of token that a byte begins
abbrev pub class : ℕ → Kind
class c =
    cond (small c) Small
    (cond (capital c) Capital
    (cond (digit c) Digit
    (cond (symbol c) Symbol
    (cond (c == 59 || c == 33) Solo
    (cond (quote c) Quote
    (cond (c == 40) Opening
    (cond (c == 41) Closing
    (cond (c == 91) Left
    (cond (c == 93) Right
    (cond (c == 124) Bar
    (cond (c == 44) Comma
    (cond (c == 46) Stop
    (cond (space c) Space Stray)))))))))))))

abbrev pub in_run : Run → ℕ → Bool
in_run Word c = word c
in_run Digits c = digit c
in_run Symbols c = symbol c
in_run Spaces c = space c

-- the longest front of bytes that pass a test, and what follows it
abbrev pub longest : (ℕ → Bool) → List ℕ → List ℕ
longest f [] = []
longest f (c ∷ s) = cond (f c) (c ∷ longest f s) []

abbrev pub past : (ℕ → Bool) → List ℕ → List ℕ
past f [] = []
past f (c ∷ s) = cond (f c) (past f s) (c ∷ s)

abbrev pub same : List ℕ → List ℕ → Bool
same = bytes_eq

-- xs is a front of ys
abbrev pub begins : List ℕ → List ℕ → Bool
begins [] ys = true
begins (x ∷ xs) [] = false
begins (x ∷ xs) (y ∷ ys) = x == y && begins xs ys
