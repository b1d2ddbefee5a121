-- The loop of `lay_parts`: the plan is rearranged.
use Rattle.plan_memory.specs.Arranged.{Arranged}
use Rattle.plan_making.proofs.lay_parts.Given as goal

abbrev pub invariant-loop-g : goal.invariant-loop-g
invariant-loop-g l = Arranged l.r l.initial.plan l.plan
