-- The loop of `copy_points`: the records of the rows passed are written.
use Rattle.std.proofs.Common.{◌≡◌, ◌≤◌}
use Rattle.rows_out.proofs.RecordsOut.{written}
use Rattle.rows_out.proofs.copy_points.Given as goal

abbrev pub invariant-loop-row : goal.invariant-loop-row
invariant-loop-row l = (l.row ≤ l.k) × (l.points ≡ written l.p l.n l.work l.fn.points l.row)
