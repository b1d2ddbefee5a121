-- The loop of `split_zone`: the parts passed are taken in.
use Rattle.std.proofs.Common.{take}
use Rattle.branch_zones.proofs.PartSteps.{Splitting}
use Rattle.branch_zones.proofs.split_zone.Given as goal

abbrev pub invariant-loop-j : goal.invariant-loop-j
invariant-loop-j l =
    Splitting l.d (take l.d.objectives l.t) (take l.d.objectives l.z) l.initial.zones l.i l.m l.j l.zones l.s
