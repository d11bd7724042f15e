-- The reader of tokens for rules and queries: what is open around the place, and what a token makes of it.
use Rattle.std.specs.Prelude.{ℕ, zero, suc, Bool, true, false, List, Some, None, Option}
use Rattle.tokens.specs.Token.{Token, name, variable, integer, neck, opening, closing, left, right, bar, comma, stop}
use Rattle.grammar.specs.Written.{Written, Writtens, var, int, app, nil, cons, with_last, conj, list_of, empty_list}
use Rattle.grammar.specs.Written.{Sentence, fact, rule, query}
use Rattle.grammar.specs.Grammar.{brackets, Goal, a_rule, a_query}
use Rattle.grammar.specs.Machine.{Parser}

-- Where a term stands: it is the head; it stands among other terms with commas between, behind these; or it is the tail of a list of these.
mutual
  pub data Context : Type 0 where
    head : Context
    among : Holder → Writtens → Context
    tail : Writtens → Context → Context

  -- what holds the terms: a body of this head, a query, the arguments of this name, round brackets, square brackets; and where that stands
  pub data Holder : Type 0 where
    body : Written → Holder
    goals : Holder
    arguments : List ℕ → Context → Holder
    round : Context → Holder
    square : Context → Holder

-- n more brackets allowed: a term must begin; a name has been read; a term has been read; all has been read
pub data Place : Type 0 where
  operand : ℕ → Context → Place
  named : List ℕ → ℕ → Context → Place
  after : Written → ℕ → Context → Place
  done : Sentence → Place

-- one more bracket
abbrev pub bracket : ℕ → Holder → Option Place
bracket zero h = None
bracket (suc n) h = Some (operand n (among h nil))

abbrev pub at_neck : Written → ℕ → Context → Option Place
at_neck t n head = Some (operand n (among (body t) nil))
at_neck t n (among h us) = None
at_neck t n (tail us x) = None

abbrev pub at_comma : Written → ℕ → Context → Option Place
at_comma t n head = None
at_comma t n (among h us) = Some (operand n (among h (with_last us t)))
at_comma t n (tail us x) = None

abbrev pub closing_in : Holder → ℕ → Writtens → Option Place
closing_in (body h) n ts = None
closing_in goals n ts = None
closing_in (arguments a x) n ts = Some (after (app a ts) (suc n) x)
closing_in (round x) n ts = Some (after (conj ts) (suc n) x)
closing_in (square x) n ts = None

abbrev pub at_closing : Written → ℕ → Context → Option Place
at_closing t n head = None
at_closing t n (among h us) = closing_in h n (with_last us t)
at_closing t n (tail us x) = None

abbrev pub right_in : Holder → ℕ → Writtens → Option Place
right_in (body h) n ts = None
right_in goals n ts = None
right_in (arguments a x) n ts = None
right_in (round x) n ts = None
right_in (square x) n ts = Some (after (list_of ts empty_list) (suc n) x)

abbrev pub at_right : Written → ℕ → Context → Option Place
at_right t n head = None
at_right t n (among h us) = right_in h n (with_last us t)
at_right t n (tail us x) = Some (after (list_of us t) (suc n) x)

-- a square bracket closed before any term
abbrev pub at_empty : ℕ → Context → Option Place
at_empty n head = None
at_empty n (among h nil) = right_in h n nil
at_empty n (among h (cons u us)) = None
at_empty n (tail us x) = None

abbrev pub bar_in : Holder → ℕ → Writtens → Option Place
bar_in (body h) n ts = None
bar_in goals n ts = None
bar_in (arguments a x) n ts = None
bar_in (round x) n ts = None
bar_in (square x) n ts = Some (operand n (tail ts x))

abbrev pub at_bar : Written → ℕ → Context → Option Place
at_bar t n head = None
at_bar t n (among h us) = bar_in h n (with_last us t)
at_bar t n (tail us x) = None

abbrev pub stop_in : Holder → Writtens → Option Place
stop_in (body h) ts = Some (done (rule h (conj ts)))
stop_in goals ts = Some (done (query (conj ts)))
stop_in (arguments a x) ts = None
stop_in (round x) ts = None
stop_in (square x) ts = None

abbrev pub at_stop : Written → Context → Option Place
at_stop t head = Some (done (fact t))
at_stop t (among h us) = stop_in h (with_last us t)
at_stop t (tail us x) = None

-- what follows a whole term
abbrev pub after_term : Written → ℕ → Context → Token → Option Place
after_term t n x (name a) = None
after_term t n x (variable a) = None
after_term t n x (integer a) = None
after_term t n x neck = at_neck t n x
after_term t n x (opening b) = None
after_term t n x closing = at_closing t n x
after_term t n x left = None
after_term t n x right = at_right t n x
after_term t n x bar = at_bar t n x
after_term t n x comma = at_comma t n x
after_term t n x stop = at_stop t x

abbrev pub at_operand : ℕ → Context → Token → Option Place
at_operand n x (name a) = Some (named a n x)
at_operand n x (variable a) = Some (after (var a) n x)
at_operand n x (integer a) = Some (after (int a) n x)
at_operand n x neck = None
at_operand n x (opening b) = bracket n (round x)
at_operand n x closing = None
at_operand n x left = bracket n (square x)
at_operand n x right = at_empty n x
at_operand n x bar = None
at_operand n x comma = None
at_operand n x stop = None

abbrev pub feed : Place → Token → Option Place
feed (operand n x) t = at_operand n x t
feed (named a n x) (opening true) = bracket n (arguments a x)
feed (named a n x) (opening false) = None
feed (named a n x) (name b) = None
feed (named a n x) (variable b) = None
feed (named a n x) (integer b) = None
feed (named a n x) neck = at_neck (app a nil) n x
feed (named a n x) closing = at_closing (app a nil) n x
feed (named a n x) left = None
feed (named a n x) right = at_right (app a nil) n x
feed (named a n x) bar = at_bar (app a nil) n x
feed (named a n x) comma = at_comma (app a nil) n x
feed (named a n x) stop = at_stop (app a nil) x
feed (after t n x) u = after_term t n x u
feed (done s) u = None

abbrev pub open_ended : Place → Bool
open_ended (operand n x) = true
open_ended (named a n x) = true
open_ended (after t n x) = true
open_ended (done s) = false

abbrev pub result : Place → Option Sentence
result (operand n x) = None
result (named a n x) = None
result (after t n x) = None
result (done s) = Some s

abbrev pub allowed : Place → ℕ
allowed (operand n x) = n
allowed (named a n x) = n
allowed (after t n x) = n
allowed (done s) = brackets

abbrev pub sentences : Parser
sentences = record {
  Place = Place;
  Result = Sentence;
  feed = feed;
  is_open_ended = open_ended;
  result = result;
  allowed = allowed;
}

-- where a text begins
abbrev pub begin : Goal → Place
begin a_rule = operand brackets head
begin a_query = operand brackets (among goals nil)
