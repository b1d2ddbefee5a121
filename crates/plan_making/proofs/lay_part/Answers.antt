-- What `lay_part` leaves to show: what is gathered is rearranged, and the message is written anew.
use Rattle.plan_memory.proofs.Arranging.{arranged_trans, arranged_loose}
use Rattle.plan_making.proofs.lay_part.Goals as goal

pub returns : goal.returns
returns c =
    arranged_loose c.requires.0.few
    (arranged_trans c.gather_records-to.ensures c.gather_slots-last.ensures) c.put_message.ensures
