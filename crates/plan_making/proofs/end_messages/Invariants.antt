-- The loop of `end_messages`: only what is written anew has changed.
use Rattle.plan_memory.specs.Arranged.{Loose}
use Rattle.plan_making.proofs.end_messages.Given as goal

abbrev pub invariant-loop-g : goal.invariant-loop-g
invariant-loop-g l = Loose l.initial.plan l.plan
