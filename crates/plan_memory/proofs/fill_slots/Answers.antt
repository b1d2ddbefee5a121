-- What the loop of `fill_slots` leaves to show.
use Rattle.std.proofs.Common.{◌≡◌, arith}
use Rattle.layout.specs.Places.{max_messages, children_at}
use Rattle.groups.proofs.Overwritten.{over_none}
use Rattle.branch_buckets.specs.Messages.{count_from}
use Rattle.plan_memory.proofs.Filling.{filled_next}
use Rattle.plan_memory.proofs.fill_slots.Goals as goal

pub loop-i-init : goal.loop-i-init
unfolding count_from
loop-i-init c = over_none c.args.plan.now children_at

pub loop-i-preserved : goal.loop-i-preserved
loop-i-preserved c =
    rw c.loop-i.invariant (filled_next c.args.plan.now c.loop-i.i (omega arith) (omega arith))

pub returns : goal.returns
returns c = let last : c.loop-i.i ≡ max_messages = omega arith in rw last at c.loop-i.invariant
