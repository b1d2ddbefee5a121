-- The loop of `next_sum`: the pass goes on from row i as it does from the start.
use Rattle.std.proofs.Common.{◌≡◌}
use Rattle.model.specs.Search.{nothing}
use Rattle.model.specs.Merging.{least_left}
use Rattle.rows.specs.Rows.{list_in}
use Rattle.pass_search.specs.States.{held_of}
use Rattle.cut_sums.specs.Sums.{sums_in}
use Rattle.cut_sums.proofs.Meeting.{pass_from}
use Rattle.cut_sums.proofs.next_sum.Given as goal

abbrev pub invariant-loop-i : goal.invariant-loop-i
invariant-loop-i l =
    pass_from l.p l.n l.ceilings l.work l.k l.a l.b l.i (held_of l.p l.n l.best)
    ≡ least_left (list_in l.p l.n l.work 0 l.k) (sums_in l.p l.n l.ceilings l.work l.a l.b) nothing
