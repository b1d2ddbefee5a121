-- What `make_buckets` leaves to show: all that is done rearranges the plan.
use Rattle.std.proofs.Common.{arith}
use Rattle.plan_memory.proofs.Arranging.{loose_trans, loose_arranged, arranged_refl}
use Rattle.plan_memory.proofs.Arranging.{arranged_trans, arranged_loose, planned_arranged}
use Rattle.plan_making.proofs.make_buckets.Goals as goal

pub loop-k-init : goal.loop-k-init
loop-k-init c =
    arranged_refl _ _

pub make_bucket-made-requires : goal.make_bucket-made-requires
make_bucket-made-requires c =
    let begun = arranged_trans (loose_arranged c.requires.few c.put_ends.ensures) c.loop-k.invariant in (
      planned_arranged c.requires (arranged_trans begun c.take_bucket-bucket.ensures.0),
      omega (arith, c.take_bucket-bucket.ensures.1, c.requires.variables),
    )

pub loop-k-preserved : goal.loop-k-preserved
loop-k-preserved c =
    arranged_trans c.loop-k.invariant
    (arranged_trans c.take_bucket-bucket.ensures.0 c.make_bucket-made.ensures)

pub returns : goal.returns
returns c =
    arranged_loose c.requires.few
    (arranged_trans (loose_arranged c.requires.few c.put_ends.ensures) c.loop-k.invariant)
    (loose_trans c.put.ensures c.end_messages.ensures)
