-- The loop of `put_zone`: the numbers passed are written.
use Rattle.std.proofs.Common.{map}
use Rattle.groups.proofs.Copied.{Copied}
use Rattle.branch_zones.specs.Zones.{zone_width, clamped}
use Rattle.branch_zones.proofs.put_zone.Given as goal

abbrev pub invariant-loop-j : goal.invariant-loop-j
invariant-loop-j l = Copied l.initial.zones l.at (map clamped l.all) zone_width l.zones l.j
