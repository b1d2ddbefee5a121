-- The loop of `put_entries`: only what is written anew has changed.
use Rattle.plan_memory.specs.Arranged.{Loose}
use Rattle.plan_numbers.proofs.put_entries.Given as goal

abbrev pub invariant-loop-e : goal.invariant-loop-e
invariant-loop-e l = Loose l.initial.plan l.plan
