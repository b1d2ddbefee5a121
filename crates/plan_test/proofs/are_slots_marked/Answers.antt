-- What `are_slots_marked` leaves to show: one slot after the other.
use Rattle.std.proofs.Common.{arith}
use Rattle.branch_buckets.proofs.Ranges.{children_next}
use Rattle.plan_test.proofs.are_slots_marked.Goals as goal

pub loop-i-preserved : goal.loop-i-preserved
loop-i-preserved c =
    let a = c.args in
    λ h. c.loop-i.invariant
    (rw (children_next a.plan.now c.loop-i.i a.last (omega arith) c.requires.1 (omega arith))
    (c.reads_marked.ensures c.if-not-reads_marked.false, h))
