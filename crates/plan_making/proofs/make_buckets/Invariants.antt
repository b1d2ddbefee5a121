-- The loop of `make_buckets`: the plan is rearranged since it began.
use Rattle.plan_memory.specs.Arranged.{Arranged}
use Rattle.plan_making.proofs.make_buckets.Given as goal

abbrev pub invariant-loop-k : goal.invariant-loop-k
invariant-loop-k l = Arranged l.r l.initial.plan l.plan
