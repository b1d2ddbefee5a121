-- The loop of `gather`: the plan is rearranged, and no more are gathered than were passed.
use Rattle.std.proofs.Common.{◌≤◌}
use Rattle.plan_memory.specs.Arranged.{Arranged}
use Rattle.plan_memory.proofs.gather.Given as goal

abbrev pub invariant-loop-i : goal.invariant-loop-i
invariant-loop-i l = record { arranged : Arranged l.r l.initial.plan l.plan; few : l.end ≤ l.i }
