-- The loop of `add_received`: the slots passed are added, the others are left to add.
use Rattle.branch_buckets.proofs.MessageSteps.{Receiving}
use Rattle.branch_buckets.proofs.add_received.Given as goal

abbrev pub invariant-loop-i : goal.invariant-loop-i
invariant-loop-i l = Receiving l.width l.plan l.fn.span l.v l.size l.choice l.initial.rows l.i l.rows
