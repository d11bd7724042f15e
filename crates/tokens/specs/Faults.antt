-- What is said of a fault of a token.
use Rattle.std.specs.Prelude.{ℕ, List, codes}
use Rattle.tokens.specs.declared.scan.TokenFault.{TokenFault}
use Rattle.tokens.specs.declared.scan.TokenFault.TheVariants.{Stray, Unclosed}

abbrev pub token_text : TokenFault → List ℕ
token_text (Stray p) = codes "No token begins with this character here."
token_text (Unclosed p) = codes "A quoted name is not closed."
