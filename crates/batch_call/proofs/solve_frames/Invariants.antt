-- The loop of `solve_frames` (`Turned`): so many problems are solved, and those from the place on are left.
use Rattle.std.proofs.Common.{◌-◌, length}
use Rattle.batch_call.proofs.Turns.{Turned}
use Rattle.batch_call.proofs.solve_frames.Given as goal

abbrev pub invariant-loop-at : goal.invariant-loop-at
invariant-loop-at l =
    Turned l.batch l.initial.costs l.initial.choices l.initial.results l.initial.work l.at l.k
    l.costs l.choices l.results l.work

abbrev pub decreases-loop-at : goal.decreases-loop-at
decreases-loop-at l = length l.batch - l.at
