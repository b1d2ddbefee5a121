-- What the loop of `split_zones` leaves to show: one split after another.
use Rattle.std.proofs.Common.{take, arith}
use Rattle.branch_zones.proofs.HeldZones.{split_listed, zones_split_none, zones_split_more}
use Rattle.branch_zones.proofs.split_zones.Goals as goal

pub loop-i-init : goal.loop-i-init
loop-i-init c = record { left = omega arith; zones_split = zones_split_none _ c.requires.1 }

pub loop-i-preserved : goal.loop-i-preserved
loop-i-preserved c =
    let w = c.loop-i in
    let e = c.split_zone-count.ensures in
    record {
      left = omega (arith, w.invariant.left, e.1);
      zones_split = zones_split_more c.requires.0 c.requires.1 w.invariant.zones_split e.0;
    }

pub returns : goal.returns
returns c =
    let a = c.args in
    let split = c.loop-i.invariant.zones_split in (
      split.measured,
      split.long,
      split_listed a.d.objectives (take a.d.objectives a.z) a.zones.now a.m _ _ split.split,
    )
