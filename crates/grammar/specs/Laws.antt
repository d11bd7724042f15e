-- What a reader of tokens must obey, so that the reader of bytes above it stops at the least place.
use Rattle.std.specs.Prelude.{◌≡◌, ℕ, true, List, []}
use Rattle.tokens.specs.Token.{Token, name, variable, integer}
use Rattle.grammar.specs.Machine.{Parser, Lex, good, takes, hope, verdict}

module _ (G : Parser) where
  -- some bytes complete what was read so far
  pub record Completes (q : Lex) (p : G.Place) : Type 0 where
    pub further : List ℕ
    pub read : G.Result
    pub taken : verdict G further q p ≡ good read

  -- Whether a name, variable or integer is taken does not depend on its bytes; an integer is taken only where a name is;
  -- where a token is taken the place is open; and what is hoped for can be completed.
  pub record Lawful : Type 0 where
    pub any_name : (p : G.Place) (a : List ℕ) → takes G p (name a) ≡ takes G p (name [])
    pub any_variable : (p : G.Place) (a : List ℕ) → takes G p (variable a) ≡ takes G p (variable [])
    pub any_integer : (p : G.Place) (a : List ℕ) → takes G p (integer a) ≡ takes G p (integer [])
    pub integer_as_name : (p : G.Place) → takes G p (integer []) ≡ true → takes G p (name []) ≡ true
    pub open_where_taken : (p : G.Place) (t : Token) → takes G p t ≡ true → G.is_open_ended p ≡ true
    pub completes : (q : Lex) (p : G.Place) → hope G q p ≡ true → Completes q p
