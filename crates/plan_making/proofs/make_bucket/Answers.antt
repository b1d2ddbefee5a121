-- What `make_bucket` leaves to show: the parts are sent, and what follows is written anew.
use Rattle.plan_memory.proofs.Arranging.{loose_trans, arranged_loose}
use Rattle.plan_making.proofs.make_bucket.Goals as goal

pub returns : goal.returns
returns c =
    arranged_loose c.requires.0.few c.send_parts-sent.ensures
    (loose_trans c.send_constant-end.ensures c.put_ends.ensures)
