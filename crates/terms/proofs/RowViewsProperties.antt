-- What every row of the code keeps to.
use Rattle.std.proofs.Common.{◌≡◌, ◌≤◌, true, length, arith}
use Rattle.terms.specs.declared.row.Row.{Row}
use Rattle.terms.specs.Rows.{fitting_from}
use Rattle.terms.specs.RowViews.{row_nodes, row_limit}

pub row_nodes_fitting : (r : Row) → fitting_from 0 (row_nodes r) ≡ true
row_nodes_fitting r = r.before

pub row_nodes_few : (r : Row) → length (row_nodes r) ≤ row_limit r
row_nodes_few r = omega arith
