-- Abstract terms: a variable by its number, an integer, a name with its arguments (a constant has none).
use Rattle.std.specs.Prelude.{ℕ, suc, ◌+◌, List, ℤ}

mutual
  pub data Term : Type 0 where
    var : ℕ → Term
    int : ℤ → Term
    app : List ℕ → Terms → Term

  pub data Terms : Type 0 where
    nil : Terms
    cons : Term → Terms → Terms

-- one term's arguments, and then the others
abbrev pub join : Terms → Terms → Terms
join nil us = us
join (cons t ts) us = cons t (join ts us)

-- how many arguments
abbrev pub count : Terms → ℕ
count nil = 0
count (cons t ts) = suc (count ts)

-- the nodes of a term: one for each variable, integer and name at its place
abbrev mutual
  pub size : Term → ℕ
  size (var v) = 1
  size (int i) = 1
  size (app f ts) = suc (sizes ts)

  pub sizes : Terms → ℕ
  sizes nil = 0
  sizes (cons t ts) = size t + sizes ts
