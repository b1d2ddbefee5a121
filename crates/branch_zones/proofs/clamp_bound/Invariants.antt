-- The loop of `clamp_bound`: of the numbers passed those that are asked for are clamped, and the others are zeros.
use Rattle.branch_zones.proofs.Clamping.{Clamping}
use Rattle.branch_zones.proofs.clamp_bound.Given as goal

abbrev pub invariant-loop-i : goal.invariant-loop-i
invariant-loop-i l = Clamping l.width l.b l.least l.i
