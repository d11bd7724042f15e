-- What a store means.
use Rattle.std.specs.Prelude.{List, Option}
use Rattle.rules.specs.Meaning.{Meaning, ever_added}
use Rattle.rules.specs.Tables.{Kept, rules_in}
use Rattle.chainstore.specs.declared.side.Side.{Side}
use Rattle.chainstore.specs.declared.rings.Link.{Link}
use Rattle.chainstore.specs.declared.chain.ChainStore.{ChainStore}
use Rattle.chainstore.specs.Rows.{row_of}

abbrev pub kept_of : ChainStore → List (Kept (Option Side))
kept_of s = s.table.kept

abbrev pub links_of : ChainStore → List Link
links_of s = s.rings.links

abbrev pub meaning_of : ChainStore → Meaning
meaning_of s = record {
  rules = rules_in s.table.kept;
  row = row_of s.table.kept;
  known = ever_added (rules_in s.table.kept);
  labels = s.table.labels;
  space = s.table.space;
}
