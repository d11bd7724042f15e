-- How the reader of bytes goes on from one place to the next, a whole token at once.
use Rattle.std.specs.Prelude.{ℕ, Bool, true, false, List, [], ◌∷◌, Some, None, Option, ◌==◌}
use Rattle.tokens.specs.declared.kind.Kind.{Kind}
use Rattle.tokens.specs.declared.kind.Kind.TheVariants.{Small, Capital, Digit, Symbol, Solo, Quote, Opening}
use Rattle.tokens.specs.declared.kind.Kind.TheVariants.{Closing, Left, Right, Bar, Comma, Stop, Space, Stray}
use Rattle.tokens.specs.Token.{name, variable, integer, neck, opening, closing, left, right, bar, comma, stop}
use Rattle.tokens.specs.Token.{Scan, nothing, endless, got}
use Rattle.grammar.specs.Written.{Written, var, int, Sentence}
use Rattle.grammar.specs.Machine.{VerdictOf, bad, onward}
use Rattle.grammar.specs.Sentences.{Context, head, among, tail, round, square, Place, named, after, bracket, sentences}
use Rattle.grammar.specs.Sentences.{at_empty, at_closing, at_right, at_bar, at_comma, at_stop}

-- a token that is taken or not, with s the bytes from it on and r those behind it
abbrev pub taken_or : ℕ → Option Place → List ℕ → List ℕ → VerdictOf Sentence
taken_or n None s r = bad n s
taken_or n (Some p) s r = onward sentences n (Some p) r

abbrev pub tail_of : List ℕ → List ℕ
tail_of [] = []
tail_of (c ∷ s) = s

abbrev pub first_is : ℕ → List ℕ → Bool
first_is b [] = false
first_is b (c ∷ s) = c == b

-- where a term must begin, by what is found at the front of s
abbrev pub operand_by : ℕ → Context → List ℕ → Scan → VerdictOf Sentence
operand_by n x s nothing = bad n s
operand_by n x s endless = bad n []
operand_by n x s (got (name a) r) = onward sentences n (Some (named a n x)) r
operand_by n x s (got (variable a) r) = onward sentences n (Some (after (var a) n x)) r
operand_by n x s (got (integer a) r) = onward sentences n (Some (after (int a) n x)) r
operand_by n x s (got neck r) = bad n r
operand_by n x s (got (opening b) r) = taken_or n (bracket n (round x)) s r
operand_by n x s (got closing r) = bad n s
operand_by n x s (got left r) = taken_or n (bracket n (square x)) s r
operand_by n x s (got right r) = taken_or n (at_empty n x) s r
operand_by n x s (got bar r) = bad n s
operand_by n x s (got comma r) = bad n s
operand_by n x s (got stop r) = bad n s

abbrev pub is_head : Context → Bool
is_head head = true
is_head (among h us) = false
is_head (tail us x) = false

-- behind the term t, by the kind of the first byte of s; behind a head a symbol may begin the neck, which is not said here
abbrev pub after_by : Kind → Written → ℕ → Context → List ℕ → VerdictOf Sentence
after_by Small t n x s = bad n s
after_by Capital t n x s = bad n s
after_by Digit t n x s = bad n s
after_by Symbol t n x s = bad n s
after_by Solo t n x s = bad n s
after_by Quote t n x s = bad n s
after_by Opening t n x s = bad n s
after_by Closing t n x s = taken_or n (at_closing t n x) s (tail_of s)
after_by Left t n x s = bad n s
after_by Right t n x s = taken_or n (at_right t n x) s (tail_of s)
after_by Bar t n x s = taken_or n (at_bar t n x) s (tail_of s)
after_by Comma t n x s = taken_or n (at_comma t n x) s (tail_of s)
after_by Stop t n x s = taken_or n (at_stop t x) s (tail_of s)
after_by Space t n x s = bad n s
after_by Stray t n x s = bad n s
