-- The loop of `number_positions`: only what is written anew has changed.
use Rattle.plan_memory.specs.Arranged.{Loose}
use Rattle.plan_order.proofs.number_positions.Given as goal

abbrev pub invariant-loop-v : goal.invariant-loop-v
invariant-loop-v l = Loose l.initial.plan l.plan
