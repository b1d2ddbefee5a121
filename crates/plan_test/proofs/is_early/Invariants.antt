-- The loop of `is_early`: `Testing`: the first `k` positions are tested.
use Rattle.plan_test.proofs.Earlier.{Testing}
use Rattle.plan_test.proofs.is_early.Given as goal

abbrev pub invariant-loop-k : goal.invariant-loop-k
invariant-loop-k l = Testing l.n l.r l.s l.plan l.marks l.to l.last l.k
