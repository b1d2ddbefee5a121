-- What `send_parts` leaves to show: the parts are laid, and their numbers are written anew.
use Rattle.plan_memory.proofs.Arranging.{arranged_loose, planned_arranged}
use Rattle.plan_making.proofs.send_parts.Goals as goal

pub put_parts-rest-requires : goal.put_parts-rest-requires
put_parts-rest-requires c =
    planned_arranged c.requires.0 c.lay_parts-end.ensures

pub returns : goal.returns
returns c =
    arranged_loose c.requires.0.few c.lay_parts-end.ensures c.put_parts-rest.ensures
