-- The loop of `directions_of`: the array is the costs and the sums so far, then zeros.
use Rattle.std.proofs.Common.{◌≡◌, ◌++◌, take}
use Rattle.model.specs.Calls.{padded}
use Rattle.branch_directions.specs.Directions.{max_directions, sums_from}
use Rattle.branch_directions.proofs.directions_of.Given as goal

abbrev pub invariant-loop-i : goal.invariant-loop-i
invariant-loop-i l = l.all ≡ padded max_directions (take l.p l.v ++ sums_from l.d l.i 0 (take l.p l.v))
