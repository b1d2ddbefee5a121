-- What `all_hold` leaves to show: position after position holds.
use Rattle.std.proofs.Common.{below_more}
use Rattle.plan_test.proofs.all_hold.Goals as goal

pub loop-k-preserved : goal.loop-k-preserved
loop-k-preserved c =
    below_more _ _ c.loop-k.invariant (c.holds_at.ensures c.if-not-holds_at.false)
