-- What a table of the code means.
use Rattle.std.specs.Prelude.{ℕ, List, vec_items}
use Rattle.rules.specs.Meaning.{Value, Meaning, ever_added}
use Rattle.rules.specs.Tables.{Table, rules_in}
use Rattle.tablestore.specs.declared.table.TableStore.{TableStore}
use Rattle.tablestore.specs.Rows.{own}

abbrev pub rules_of : TableStore → List Value
rules_of s = rules_in s.table.kept

abbrev pub live_of : TableStore → List ℕ
live_of s = vec_items s.live

abbrev pub means : Table (Unit {0}) → List ℕ → Meaning
means t live = record {
  rules = rules_in t.kept;
  row = own (rules_in t.kept) live;
  known = ever_added (rules_in t.kept);
  labels = t.labels;
  space = t.space;
}

abbrev pub meaning_of : TableStore → Meaning
meaning_of s = means s.table (vec_items s.live)
