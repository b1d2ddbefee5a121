-- What `make_plan` leaves to show: the slots are filled, and all that follows rearranges them.
use Rattle.plan_memory.proofs.Filling.{planned_filled, filled_arranged}
use Rattle.plan_memory.proofs.Arranging.{loose_arranged, arranged_trans, planned_arranged}
use Rattle.plan_making.proofs.make_plan.Goals as goal

pub make_buckets-requires : goal.make_buckets-requires
make_buckets-requires c =
    planned_arranged (planned_filled c.requires.0 c.fill_slots.ensures)
    (loose_arranged c.requires.0.few c.set_order.ensures)

pub returns : goal.returns
returns c =
    filled_arranged c.requires.0 c.fill_slots.ensures
    (arranged_trans (loose_arranged c.requires.0.few c.set_order.ensures) c.make_buckets.ensures)
