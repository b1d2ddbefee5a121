-- The loop of `set_order`: only what is written anew has changed since it began.
use Rattle.plan_memory.specs.Arranged.{Loose}
use Rattle.plan_order.proofs.set_order.Given as goal

abbrev pub invariant-loop-k : goal.invariant-loop-k
invariant-loop-k l = Loose l.initial.plan l.plan
