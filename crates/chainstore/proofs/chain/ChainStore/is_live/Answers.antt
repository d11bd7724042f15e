-- A label stands in the row of its indicator exactly if its rule is live and of it.
use Rattle.std.proofs.Common.{sym, ◌∙◌, rules}
use Rattle.chainstore.proofs.RowsProperties.{in_own_row, in_no_other}
use Rattle.chainstore.proofs.chain.ChainStore.is_live.Goals as goal

pub returns-then-is_of : goal.returns-then-is_of
returns-then-is_of c = search (rules, in_own_row)

pub returns-else-is_of : goal.returns-else-is_of
returns-else-is_of c =
    c.if-is_of.false ∙ sym (in_no_other c.args.self.now.table.kept c.args.label c.args.indicator.name
    c.args.indicator.arity (sym c.if-is_of.ensures))
