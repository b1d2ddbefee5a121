-- The loop of `put_entry`: only what is written anew has changed.
use Rattle.plan_memory.specs.Arranged.{Loose}
use Rattle.plan_numbers.proofs.put_entry.Given as goal

abbrev pub invariant-loop-j : goal.invariant-loop-j
invariant-loop-j l = Loose l.initial.plan l.plan
