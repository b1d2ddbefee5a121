-- What `are_sent_marked` leaves to show: one message after the other, till none is left.
use Rattle.std.proofs.Common.{arith}
use Rattle.branch_buckets.proofs.Ranges.{count_next, count_none}
use Rattle.plan_test.proofs.are_sent_marked.Goals as goal

pub loop-g-preserved : goal.loop-g-preserved
loop-g-preserved c =
    λ h. c.loop-g.invariant
    (rw (count_next c.loop-g.g c.args.to (omega arith)) (c.reads_marked.ensures c.if-not-reads_marked.false, h))

pub returns : goal.returns
returns c =
    λ _. c.loop-g.invariant (rw (count_none c.loop-g.g c.args.to (omega arith)) tt)
