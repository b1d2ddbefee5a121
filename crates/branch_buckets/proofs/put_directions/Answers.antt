-- What `put_directions` leaves to show: `value_directed`.
use Rattle.branch_buckets.proofs.DirectedRows.{value_directed}
use Rattle.branch_buckets.proofs.put_directions.Goals as goal

pub returns : goal.returns
returns c =
    let a = c.args in
    let q = c.requires in
    value_directed a.p a.sums a.weights.now a.totals.now a.a a.rows.now _ _
    q.2 q.3 q.4 q.0 q.6 q.7
    c.counted-one.ensures c.counted-two.ensures c.counted-three.ensures c.counted-four.ensures
    c.put_sums.ensures
