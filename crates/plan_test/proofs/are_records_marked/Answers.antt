-- What `are_records_marked` leaves to show: one record after the other.
use Rattle.std.proofs.Common.{arith}
use Rattle.branch_buckets.proofs.Ranges.{places_next}
use Rattle.plan_test.proofs.are_records_marked.Goals as goal

pub loop-i-preserved : goal.loop-i-preserved
loop-i-preserved c =
    let a = c.args in
    λ h. c.loop-i.invariant
    (rw (places_next a.plan.now c.loop-i.i a.to (omega arith) c.requires.1)
    (c.is_scope_marked.ensures c.if-not-is_scope_marked.false, h))
