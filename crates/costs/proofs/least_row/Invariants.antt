-- The loop of `least_row`: the least so far is the least of the first i numbers, and the first's for none.
use Rattle.std.proofs.Common.{◌≡◌, ◌+◌, ◌-◌}
use Rattle.model.specs.Bounds.{least_to}
use Rattle.costs.specs.Entries.{number_at}
use Rattle.costs.proofs.least_row.Given as goal

abbrev pub invariant-loop-i : goal.invariant-loop-i
invariant-loop-i l = l.least ≡ least_to (l.i - 1) (λ a. number_at l.sizes l.s l.at (l.first + a))
