-- The loop of `split_zones`: what stands in the rows is the zones at the start, split at `z`.
use Rattle.std.proofs.Common.{take, ◌≤◌}
use Rattle.branch_zones.specs.Steps.{ZonesSplit}
use Rattle.branch_zones.proofs.split_zones.Given as goal

abbrev pub invariant-loop-i : goal.invariant-loop-i
invariant-loop-i l = record {
  left : l.i ≤ l.count;
  zones_split : ZonesSplit l.d (take l.d.objectives l.z) l.initial.zones l.m l.zones l.count;
}
