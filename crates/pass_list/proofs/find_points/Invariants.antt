-- The loop of `find_points`: the first k points of the frontier list are in work memory.
use Rattle.pass_list.proofs.Passing.{Passing}
use Rattle.pass_list.proofs.find_points.Given as goal

abbrev pub invariant-loop-k : goal.invariant-loop-k
invariant-loop-k l = Passing l.task l.sizes l.s l.fn.work l.work l.k
