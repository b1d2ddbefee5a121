-- The loop of `put_sums`: the sums passed are written.
use Rattle.branch_buckets.specs.Adding.{four_sum}
use Rattle.branch_buckets.proofs.RowSteps.{Filling}
use Rattle.branch_buckets.proofs.put_sums.Given as goal

abbrev pub invariant-loop-i : goal.invariant-loop-i
invariant-loop-i l = Filling (four_sum l.weights l.t) l.at l.sums l.initial.rows l.i l.rows
