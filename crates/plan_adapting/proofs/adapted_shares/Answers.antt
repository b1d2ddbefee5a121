-- What `adapted_shares` leaves to show: another round may start from what one leaves.
use Rattle.plan_adapting.proofs.Rounds.{adaptable_reordered, reordered_refl, reordered_trans}
use Rattle.plan_adapting.proofs.adapted_shares.Goals as goal

pub loop-init : goal.loop-init
loop-init c =
    reordered_refl c.requires

pub try_shares-t-requires : goal.try_shares-t-requires
try_shares-t-requires c =
    adaptable_reordered c.requires c.loop.invariant

pub loop-preserved : goal.loop-preserved
loop-preserved c =
    reordered_trans c.loop.invariant c.try_shares-t.ensures
