-- The loop of `merge_points`: the first k of the best sums are in work memory.
use Rattle.pass_list.proofs.Made.{Made}
use Rattle.cut_sums.proofs.Merging.{Summed}
use Rattle.cut_sums.proofs.merge_points.Given as goal

abbrev pub invariant-loop-k : goal.invariant-loop-k
invariant-loop-k l = Made (Summed l.p l.n l.ceilings l.fn.work l.a l.b) l.p l.n l.fn.work l.work l.k
