-- The loop of `copy_costs`: the costs of the rows passed are written.
use Rattle.rows.specs.Rows.{costs_in}
use Rattle.rows_out.proofs.RowsOut.{Out}
use Rattle.rows_out.proofs.copy_costs.Given as goal

abbrev pub invariant-loop-row : goal.invariant-loop-row
invariant-loop-row l = Out (costs_in l.p l.work) l.p l.initial.costs l.costs l.row
