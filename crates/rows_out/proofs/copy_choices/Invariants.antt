-- The loop of `copy_choices`: the values of the rows passed are written.
use Rattle.rows.specs.Rows.{values_in}
use Rattle.rows_out.proofs.RowsOut.{Out}
use Rattle.rows_out.proofs.copy_choices.Given as goal

abbrev pub invariant-loop-row : goal.invariant-loop-row
invariant-loop-row l = Out (values_in l.n l.work) l.n l.initial.choices l.choices l.row
