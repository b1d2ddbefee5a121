-- What `lay_parts` leaves to show: a plan that is rearranged is planned still.
use Rattle.plan_memory.proofs.Arranging.{planned_arranged, arranged_trans, arranged_refl}
use Rattle.plan_making.proofs.lay_parts.Goals as goal

pub loop-g-init : goal.loop-g-init
loop-g-init c =
    arranged_refl _ _

pub lay_part-laid-requires : goal.lay_part-laid-requires
lay_part-laid-requires c =
    (planned_arranged c.requires.0 c.loop-g.invariant, c.requires.1)

pub loop-g-preserved : goal.loop-g-preserved
loop-g-preserved c =
    arranged_trans c.loop-g.invariant c.lay_part-laid.ensures
