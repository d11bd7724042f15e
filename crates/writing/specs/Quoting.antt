-- A name is written in quotes only where it needs them.
use Rattle.std.specs.Prelude.{◌≡◌, ℕ, true, false, List, ◌++◌, codes, ◌≢◌}
use Rattle.terms.specs.Known.{empty_name}
use Rattle.grammar.specs.Written.{app, nil, query}
use Rattle.grammar.specs.Grammar.{a_query}
use Rattle.grammar.specs.Machine.{good}
use Rattle.grammar.specs.Theorem.{judged}
use Rattle.writing.specs.Writing.{bare}

-- a bare name without quotes is read as that name
abbrev pub BareNamesRead : Type 0
BareNamesRead = (a : List ℕ) → bare a ≡ true → judged a_query (a ++ codes ".") ≡ good (query (app a nil))

-- any other name without quotes, but for `[]`, is read as something else or not at all
abbrev pub OthersNeedQuotes : Type 0
OthersNeedQuotes =
    (a : List ℕ) → bare a ≡ false → (a ≢ empty_name) → judged a_query (a ++ codes ".") ≡ good (query (app a nil))
    → ⊥
