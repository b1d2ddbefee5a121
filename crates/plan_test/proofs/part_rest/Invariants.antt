-- The loop of `part_rest`: `PartSteps`: the first `c` pairs of values are done.
use Rattle.plan_test.proofs.Parts.{PartSteps}
use Rattle.plan_test.proofs.part_rest.Given as goal

abbrev pub invariant-loop-c : goal.invariant-loop-c
invariant-loop-c l = PartSteps l.d l.sizes l.s l.plan l.p l.c l.left
