-- The loop of `put_rows`: the rows of the values passed are written.
use Rattle.std.proofs.Common.{◌*◌, get_or, take, drop}
use Rattle.branch_directions.specs.Directions.{directions_of}
use Rattle.branch_buckets.proofs.RowSteps.{RowsFilled}
use Rattle.branch_buckets.proofs.put_rows.Given as goal

abbrev pub invariant-loop-a : goal.invariant-loop-a
invariant-loop-a l =
    RowsFilled
    (λ b j. get_or
    (directions_of (record { objectives = l.p; sums = l.sums; weights = l.weights })
    (take l.p (take 4 (drop (4 * b) l.totals))))
    j
    0)
    l.initial.rows l.a l.rows
