-- The loop of `add_inside`: the numbers passed are the sums of the row's and the plan's.
use Rattle.std.proofs.Common.{◌+◌, get_or}
use Rattle.branch_buckets.proofs.RowSteps.{Filling}
use Rattle.branch_buckets.proofs.add_inside.Given as goal

abbrev pub invariant-loop-j : goal.invariant-loop-j
invariant-loop-j l =
    Filling (λ i. get_or l.initial.rows (l.at + i) 0 + get_or l.plan (l.start + i) 0) l.at 8 l.initial.rows l.j l.rows
