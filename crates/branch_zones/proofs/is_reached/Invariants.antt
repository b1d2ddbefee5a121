-- The loop of `is_reached`: in the row of each candidate passed a number is below that of the bound.
use Rattle.std.proofs.Common.{ℕ, ◌<◌, get_or}
use Rattle.branch_zones.specs.Steps.{Under}
use Rattle.branch_zones.proofs.is_reached.Given as goal

abbrev pub invariant-loop-j : goal.invariant-loop-j
invariant-loop-j l = (k : ℕ) → k < l.j → Under l.zones l.least (get_or l.from k 0)
