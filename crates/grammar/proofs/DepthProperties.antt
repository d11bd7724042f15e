-- How many brackets are open at a place of the reader of rules and queries: with those still allowed they are always
-- as many as may be open, and one token opens or closes at most one.
use Rattle.std.proofs.Common.{◌≡◌, ℕ, zero, suc, ◌+◌, ◌-◌, true, false, List, Some, None, Option, refl, arith}
use Rattle.tokens.specs.Token.{Token, name, variable, integer, neck, opening, closing, left, right, bar, comma, stop}
use Rattle.grammar.specs.Written.{Written, Writtens, app, nil, cons}
use Rattle.grammar.specs.Grammar.{brackets}
use Rattle.grammar.specs.Sentences.{Context, head, among, tail, Holder, body, goals, arguments, round, square, Place}
use Rattle.grammar.specs.Sentences.{operand, named, after, done}
use Rattle.grammar.specs.Sentences.{bracket, at_neck, at_comma, closing_in, at_closing, right_in, at_right, at_empty}
use Rattle.grammar.specs.Sentences.{bar_in}
use Rattle.grammar.specs.Sentences.{at_bar, stop_in, at_stop, after_term, at_operand, feed, allowed}

abbrev mutual
  pub depth_of : Context → ℕ
  depth_of head = 0
  depth_of (among h us) = depth_in h
  depth_of (tail us x) = suc (depth_of x)

  pub depth_in : Holder → ℕ
  depth_in (body h) = 0
  depth_in goals = 0
  depth_in (arguments a x) = suc (depth_of x)
  depth_in (round x) = suc (depth_of x)
  depth_in (square x) = suc (depth_of x)

abbrev pub depth : Place → ℕ
depth (operand n x) = depth_of x
depth (named a n x) = depth_of x
depth (after t n x) = depth_of x
depth (done s) = 0

-- how many brackets are open behind a token, of how many before it
abbrev pub behind : Token → ℕ → ℕ
behind (name a) d = d
behind (variable a) d = d
behind (integer a) d = d
behind neck d = d
behind (opening b) d = suc d
behind closing d = d - 1
behind left d = suc d
behind right d = d - 1
behind bar d = d
behind comma d = d
behind stop d = d

-- the token is refused, or d brackets are open behind it, and the allowed ones fit
pub data Counts (d : ℕ) : Option Place → Type 0 where
  refused : Counts d None
  counts : {p : Place} → allowed p + depth p ≡ brackets → depth p ≡ d → Counts d (Some p)

bracket_counts : (n : ℕ) (h : Holder) (d : ℕ) → depth_in h ≡ suc d → n + d ≡ brackets → Counts (suc d) (bracket n h)
bracket_counts zero h d e k = refused
bracket_counts (suc n) h d e k = counts (omega arith) e

neck_counts : (t : Written) (n : ℕ) (x : Context) → n + depth_of x ≡ brackets → Counts (depth_of x) (at_neck t n x)
neck_counts t n head k = counts k refl
neck_counts t n (among h us) k = refused
neck_counts t n (tail us x) k = refused

comma_counts : (t : Written) (n : ℕ) (x : Context) → n + depth_of x ≡ brackets → Counts (depth_of x) (at_comma t n x)
comma_counts t n head k = refused
comma_counts t n (among h us) k = counts k refl
comma_counts t n (tail us x) k = refused

closing_in_counts : (h : Holder) (n : ℕ) (ts : Writtens) → n + depth_in h ≡ brackets
    → Counts (depth_in h - 1) (closing_in h n ts)
closing_in_counts (body h) n ts k = refused
closing_in_counts goals n ts k = refused
closing_in_counts (arguments a x) n ts k = counts (omega arith) (omega arith)
closing_in_counts (round x) n ts k = counts (omega arith) (omega arith)
closing_in_counts (square x) n ts k = refused

closing_counts : (t : Written) (n : ℕ) (x : Context) → n + depth_of x ≡ brackets
    → Counts (depth_of x - 1) (at_closing t n x)
closing_counts t n head k = refused
closing_counts t n (among h us) k = closing_in_counts h n _ k
closing_counts t n (tail us x) k = refused

right_in_counts : (h : Holder) (n : ℕ) (ts : Writtens) → n + depth_in h ≡ brackets
    → Counts (depth_in h - 1) (right_in h n ts)
right_in_counts (body h) n ts k = refused
right_in_counts goals n ts k = refused
right_in_counts (arguments a x) n ts k = refused
right_in_counts (round x) n ts k = refused
right_in_counts (square x) n ts k = counts (omega arith) (omega arith)

right_counts : (t : Written) (n : ℕ) (x : Context) → n + depth_of x ≡ brackets → Counts (depth_of x - 1) (at_right t n x)
right_counts t n head k = refused
right_counts t n (among h us) k = right_in_counts h n _ k
right_counts t n (tail us x) k = counts (omega arith) (omega arith)

empty_counts : (n : ℕ) (x : Context) → n + depth_of x ≡ brackets → Counts (depth_of x - 1) (at_empty n x)
empty_counts n head k = refused
empty_counts n (among h nil) k = right_in_counts h n nil k
empty_counts n (among h (cons u us)) k = refused
empty_counts n (tail us x) k = refused

bar_in_counts : (h : Holder) (n : ℕ) (ts : Writtens) → n + depth_in h ≡ brackets → Counts (depth_in h) (bar_in h n ts)
bar_in_counts (body h) n ts k = refused
bar_in_counts goals n ts k = refused
bar_in_counts (arguments a x) n ts k = refused
bar_in_counts (round x) n ts k = refused
bar_in_counts (square x) n ts k = counts k refl

bar_counts : (t : Written) (n : ℕ) (x : Context) → n + depth_of x ≡ brackets → Counts (depth_of x) (at_bar t n x)
bar_counts t n head k = refused
bar_counts t n (among h us) k = bar_in_counts h n _ k
bar_counts t n (tail us x) k = refused

stop_in_counts : (h : Holder) (ts : Writtens) → Counts (depth_in h) (stop_in h ts)
stop_in_counts (body h) ts = counts refl refl
stop_in_counts goals ts = counts refl refl
stop_in_counts (arguments a x) ts = refused
stop_in_counts (round x) ts = refused
stop_in_counts (square x) ts = refused

stop_counts : (t : Written) (x : Context) → Counts (depth_of x) (at_stop t x)
stop_counts t head = counts refl refl
stop_counts t (among h us) = stop_in_counts h _
stop_counts t (tail us x) = refused

after_counts : (u : Written) (n : ℕ) (x : Context) (t : Token) → n + depth_of x ≡ brackets
    → Counts (behind t (depth_of x)) (after_term u n x t)
after_counts u n x (name a) k = refused
after_counts u n x (variable a) k = refused
after_counts u n x (integer a) k = refused
after_counts u n x neck k = neck_counts u n x k
after_counts u n x (opening b) k = refused
after_counts u n x closing k = closing_counts u n x k
after_counts u n x left k = refused
after_counts u n x right k = right_counts u n x k
after_counts u n x bar k = bar_counts u n x k
after_counts u n x comma k = comma_counts u n x k
after_counts u n x stop k = stop_counts u x

operand_counts : (n : ℕ) (x : Context) (t : Token) → n + depth_of x ≡ brackets
    → Counts (behind t (depth_of x)) (at_operand n x t)
operand_counts n x (name a) k = counts k refl
operand_counts n x (variable a) k = counts k refl
operand_counts n x (integer a) k = counts k refl
operand_counts n x neck k = refused
operand_counts n x (opening b) k = bracket_counts n (round x) (depth_of x) refl k
operand_counts n x closing k = refused
operand_counts n x left k = bracket_counts n (square x) (depth_of x) refl k
operand_counts n x right k = empty_counts n x k
operand_counts n x bar k = refused
operand_counts n x comma k = refused
operand_counts n x stop k = refused

named_counts : (a : List ℕ) (n : ℕ) (x : Context) (t : Token) → n + depth_of x ≡ brackets
    → Counts (behind t (depth_of x)) (feed (named a n x) t)
named_counts a n x (name b) k = refused
named_counts a n x (variable b) k = refused
named_counts a n x (integer b) k = refused
named_counts a n x neck k = neck_counts (app a nil) n x k
named_counts a n x (opening true) k = bracket_counts n (arguments a x) (depth_of x) refl k
named_counts a n x (opening false) k = refused
named_counts a n x closing k = closing_counts (app a nil) n x k
named_counts a n x left k = refused
named_counts a n x right k = right_counts (app a nil) n x k
named_counts a n x bar k = bar_counts (app a nil) n x k
named_counts a n x comma k = comma_counts (app a nil) n x k
named_counts a n x stop k = stop_counts (app a nil) x

-- every token that is taken counts
pub feed_counts : (p : Place) (t : Token) → allowed p + depth p ≡ brackets → Counts (behind t (depth p)) (feed p t)
feed_counts (operand n x) t k = operand_counts n x t k
feed_counts (named a n x) t k = named_counts a n x t k
feed_counts (after u n x) t k = after_counts u n x t k
feed_counts (done s) t k = refused
