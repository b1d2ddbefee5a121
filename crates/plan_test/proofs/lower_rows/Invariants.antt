-- The loop of `lower_rows`: `RowsSteps`: the rows of the first `a` values are done.
use Rattle.plan_test.proofs.Lowering.{RowsSteps}
use Rattle.plan_test.proofs.lower_rows.Given as goal

abbrev pub invariant-loop-a : goal.invariant-loop-a
invariant-loop-a l = RowsSteps l.width l.size l.number l.rest l.rows l.initial.left l.a l.left
