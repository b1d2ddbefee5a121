-- The loop of `adapted_shares`: the records are there still.
use Rattle.plan_adapting.specs.Adapting.{Reordered}
use Rattle.plan_adapting.proofs.adapted_shares.Given as goal

abbrev pub invariant-loop : goal.invariant-loop
invariant-loop l = Reordered l.task.records l.sizes l.s l.initial.plan l.plan
