-- The loop of `lower_row`: `RowSteps`: the first `j` numbers are done.
use Rattle.plan_test.proofs.Lowering.{RowSteps}
use Rattle.plan_test.proofs.lower_row.Given as goal

abbrev pub invariant-loop-j : goal.invariant-loop-j
invariant-loop-j l = RowSteps l.width l.at l.number l.rest l.rows l.initial.left l.j l.left
