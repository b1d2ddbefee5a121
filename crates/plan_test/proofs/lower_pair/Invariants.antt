-- The loop of `lower_pair`: `PairSteps`: the first `l` values of the third variable are done.
use Rattle.std.proofs.Common.{◌/◌, ◌%◌}
use Rattle.plan_test.proofs.Pairs.{PairSteps}
use Rattle.plan_test.proofs.lower_pair.Given as goal

abbrev pub invariant-loop-l : goal.invariant-loop-l
invariant-loop-l l = PairSteps l.d l.sizes l.s l.plan l.p (l.c / 8) (l.c % 8) l.size l.initial.left l.l l.left
