-- What `take_bucket` leaves to show: what is gathered is rearranged.
use Rattle.std.proofs.Common.{refl}
use Rattle.plan_memory.proofs.Arranging.{arranged_trans}
use Rattle.plan_making.proofs.take_bucket.Goals as goal

pub returns : goal.returns
returns c =
    (arranged_trans c.gather_records-to.ensures c.gather_slots-last.ensures, refl)
