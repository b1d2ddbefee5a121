-- The loop of `put_parts`: only what is written anew has changed.
use Rattle.plan_memory.specs.Arranged.{Loose}
use Rattle.plan_numbers.proofs.put_parts.Given as goal

abbrev pub invariant-loop-g : goal.invariant-loop-g
invariant-loop-g l = Loose l.initial.plan l.plan
