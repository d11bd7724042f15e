-- What every table of the code keeps to, and what its changes mean.
use Rattle.std.proofs.Common.{◌≡◌, ℕ, Bool, true, cond, List, [], ◌∷◌, ◌++◌, length, sym, refl, ap, ◌∙◌}
use Rattle.std.proofs.Common.{arith}
use Rattle.std.proofs.lemmas.Bool.{cond-true}
use Rattle.rules.specs.Meaning.{Value, End, Lawful, placed, ever_added, without}
use Rattle.rules.specs.Calls.{Added, Erases}
use Rattle.rules.specs.Tables.{Table, rules_in, Entered}
use Rattle.rules.proofs.MeaningProperties.{ever_added_push}
use Rattle.rules.proofs.EntriesProperties.{length_rules}
use Rattle.rules.proofs.TablesProperties.{rules_push}
use Rattle.tablestore.specs.declared.table.TableStore.{TableStore}
use Rattle.tablestore.specs.Rows.{below, own}
use Rattle.tablestore.specs.Views.{rules_of, live_of, means, meaning_of}
use Rattle.tablestore.proofs.RowsProperties.{own_placed, own_of, distinct_own, own_without}

pub lawful : (s : TableStore) → Lawful (meaning_of s)
lawful s =
    let n = length_rules s.table.kept in
    let w = s.within in
    record {
      once = λ f a. distinct_own (rules_of s) (live_of s) f a s.once;
      own = λ f a l h. own_of (rules_of s) l (live_of s) f a h;
      ever = λ f a. refl;
      few = omega arith;
      room = w.room;
    }

-- what is chosen by a test that holds
pub when_true : {A : Type 0} (b : Bool) (x y z : A) → z ≡ cond b x y → b ≡ true → z ≡ x
when_true b x y z e t = e ∙ cond-true b x y t

-- a rule was entered, and its label stands at this end of the live ones
pub added : (e : End) (t u : Table (Unit {0})) (v : Value) (l : ℕ) (live now : List ℕ)
    → below (length t.kept) live ≡ true → Entered t v _ l u → now ≡ placed e l live
    → Added e (means t live) v l (means u now)
added e t u v l live now b k el =
    let n = length_rules t.kept in
    let vs = rules_in t.kept in
    let label : l ≡ length vs = k.label ∙ sym n in
    let rules : rules_in u.kept ≡ vs ++ v ∷ [] = ap rules_in k.kept ∙ rules_push t.kept _ in
    record {
      fits = k.fits;
      label = label;
      rules = rules;
      row = λ f a. ap (λ ws. own ws now f a) rules
          ∙ ap (λ xs. own (vs ++ v ∷ []) xs f a) el
          ∙ own_placed e vs v l live f a (ap (λ m. below m live) n ∙ b) label;
      known = λ f a. ap (λ ws. ever_added ws f a) rules ∙ ever_added_push vs v f a;
      labels = k.labels;
      space = k.space;
    }

pub erased : (t : Table (Unit {0})) (l : ℕ) (live now : List ℕ) → now ≡ without l live
    → Erases (means t live) l (means t now)
erased t l live now e =
    record {
      rules = refl;
      row = λ f a. ap (λ xs. own (rules_in t.kept) xs f a) e ∙ own_without (rules_in t.kept) l live f a;
      known = λ f a. refl;
      labels = refl;
      space = refl;
    }
