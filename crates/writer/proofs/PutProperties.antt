-- Writing one text and then another, and failing in between.
use Rattle.std.proofs.Common.{◌≡◌, ℕ, ◌≤◌, true, List, ◌++◌, length, take, is_err, Ok, Err}
use Rattle.std.proofs.Common.{Result, sym, ap, ◌∙◌, subst, append_assoc, arith}
use Rattle.std.proofs.lemmas.List.{length-append, length-take, take-take}
use Rattle.std.proofs.lemmas.Bool.{false≢true}
use Rattle.writer.specs.declared.fault.DoesNotFit.{DoesNotFit}
use Rattle.writer.specs.declared.line.LineWriter.{LineWriter}
use Rattle.writer.specs.Lines.{line_bytes, line_seen, line_limit, Told, Put, Puts}

front_le : (xs ys : List ℕ) → take (length xs) ys ≡ xs → length xs ≤ length ys
front_le xs ys e = omega (arith, length-take (length xs) ys, ap length e)

front_front : (xs ys zs : List ℕ) → take (length xs) ys ≡ xs → take (length ys) zs ≡ ys → take (length xs) zs ≡ xs
front_front xs ys zs e d =
    sym (take-take (length xs) (length ys) zs (front_le xs ys e)) ∙ ap (take (length xs)) d ∙ e

told_then : (limit : ℕ) (bytes text firsts after seen more news end known : List ℕ) (r : Result (Unit {0}) DoesNotFit)
    → after ≡ bytes ++ text → Told limit after more news end known r
    → Told limit bytes (text ++ more) news end known r
told_then limit bytes text firsts after seen more news end known (Ok u) e t =
    (t.0 ∙ ap (λ s. s ++ more) e ∙ append_assoc bytes text more, t.1)
told_then limit bytes text firsts after seen more news end known (Err d) e t =
    let a = ap length e ∙ length-append bytes text in
    let b = length-append text more in
    omega arith

put_then : (limit : ℕ) (bytes seen text firsts after held more news end known : List ℕ) (u : Unit {0})
    (r : Result (Unit {0}) DoesNotFit)
    → Put limit bytes seen text firsts after held (Ok u) → Put limit after held more news end known r
    → Put limit bytes seen (text ++ more) news end known r
put_then limit bytes seen text firsts after held more news end known u r p q =
    record {
      kept = front_front bytes after end p.kept q.kept;
      held = front_front seen held known p.held q.held;
      told = told_then limit bytes text firsts after held more news end known r p.told.0 q.told;
    }

pub puts_then : {a b c : LineWriter} {text firsts more news : List ℕ} {u : Unit {0}} {r : Result (Unit {0}) DoesNotFit}
    → Puts a b text firsts (Ok u) → Puts b c more news r → Puts a c (text ++ more) news r
puts_then {a} {b} {c} {text} {firsts} {more} {news} {u} {r} p q =
    record {
      limit = q.limit ∙ p.limit;
      put =
          put_then (line_limit a) (line_bytes a) (line_seen a) text firsts (line_bytes b) (line_seen b) more news
          (line_bytes c) (line_seen c) u r p.put
          (subst (λ (n : ℕ). Put n (line_bytes b) (line_seen b) more news (line_bytes c) (line_seen c) r) p.limit q.put);
    }

-- a longer text does not fit either
pub puts_longer : {a b : LineWriter} {text firsts : List ℕ} {d : DoesNotFit} (more news : List ℕ)
    (r : Result (Unit {0}) DoesNotFit)
    → is_err r ≡ true → length text ≤ length more → Puts a b text firsts (Err d) → Puts a b more news r
puts_longer more news (Ok u) e l p = absurd (false≢true e)
puts_longer more news (Err c) e l p =
    let short = p.put.told in
    record {
      limit = p.limit;
      put = record { kept = p.put.kept; held = p.put.held; told = omega arith };
    }

-- one text after another, with no variable in the second
pub puts_next : {a b c : LineWriter} {text firsts more : List ℕ} {u : Unit {0}} {r : Result (Unit {0}) DoesNotFit}
    → Puts a b text firsts (Ok u) → Puts b c more (line_seen b) r → Puts a c (text ++ more) firsts r
puts_next {a} {b} {c} {text} {firsts} {more} {u} {r} p q =
    subst (λ (s : List ℕ). Puts a c (text ++ more) s r) p.put.told.1 (puts_then p q)

pub puts_same : {a b : LineWriter} {text firsts more news : List ℕ} {r : Result (Unit {0}) DoesNotFit}
    → text ≡ more → firsts ≡ news → Puts a b text firsts r → Puts a b more news r
puts_same {a} {b} {text} {firsts} {more} {news} {r} e d p =
    subst (λ (s : List ℕ). Puts a b s news r) e (subst (λ (s : List ℕ). Puts a b text s r) d p)
