-- The loop of `runs_at`: `Running`, after the first k variables the indices that agree are runs in even steps.
use Rattle.costs.proofs.RunSteps.{Running}
use Rattle.costs.proofs.runs_at.Given as goal

abbrev pub invariant-loop-k : goal.invariant-loop-k
invariant-loop-k l = Running l.sizes l.prefix l.s l.at l.k l.first l.count l.rows l.stride
