-- The loop of `meet_row`: the pass goes on from row j as it does from the start.
use Rattle.std.proofs.Common.{◌≡◌}
use Rattle.rows.specs.Rows.{point_in}
use Rattle.pass_search.specs.States.{held_of}
use Rattle.cut_sums.proofs.Meeting.{meets_from}
use Rattle.cut_sums.proofs.meet_row.Given as goal

abbrev pub invariant-loop-j : goal.invariant-loop-j
invariant-loop-j l =
    meets_from l.p l.n l.ceilings l.work l.k (point_in l.p l.n l.work l.i) l.b l.j (held_of l.p l.n l.best)
    ≡ meets_from l.p l.n l.ceilings l.work l.k (point_in l.p l.n l.work l.i) l.b 0 (held_of l.p l.n l.initial.best)
