-- What `put_parts` leaves to show: the plan that was written to is still planned.
use Rattle.plan_memory.proofs.Arranging.{loose_arranged, planned_arranged}
use Rattle.plan_numbers.proofs.put_parts.Goals as goal

pub put_part-sharing-requires : goal.put_part-sharing-requires
put_part-sharing-requires c = planned_arranged c.requires (loose_arranged c.requires.few c.loop-g.invariant)
