-- What the loop of `add_received` leaves to show.
use Rattle.std.proofs.Common.{arith}
use Rattle.branch_buckets.proofs.MessageSteps.{receiving_next, receiving_end}
use Rattle.branch_buckets.proofs.add_received.Goals as goal

pub loop-i-preserved : goal.loop-i-preserved
loop-i-preserved c =
    receiving_next c.loop-i.invariant c.requires.1 (omega arith) c.requires.2 (λ k. omega (arith, c.type_inv.plan k)) _
    c.add_message.auto.rows c.add_message.ensures

pub returns : goal.returns
returns c = receiving_end c.loop-i.invariant c.requires.1 (omega arith)
