-- The loop of `sent`: the messages passed are added, the others are left to add.
use Rattle.branch_buckets.proofs.MessageSteps.{Sending}
use Rattle.branch_buckets.proofs.sent.Given as goal

abbrev pub invariant-loop-g : goal.invariant-loop-g
invariant-loop-g l = Sending l.width l.plan l.from l.to l.choice l.g l.t
