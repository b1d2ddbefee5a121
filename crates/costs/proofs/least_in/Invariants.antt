-- The loop of `least_in`: the least so far is that of the first i rows, the last of which starts at `here`.
use Rattle.std.proofs.Common.{◌≡◌, ◌+◌, ◌-◌, ◌*◌}
use Rattle.model.specs.Bounds.{least_to}
use Rattle.costs.specs.Entries.{number_at}
use Rattle.costs.proofs.least_in.Given as goal

abbrev pub invariant-loop : goal.invariant-loop
invariant-loop l =
    (l.here ≡ l.initial.here + (l.counter - 1) * l.stride)
    × (l.least
    ≡ least_to (l.counter - 1)
    (λ j. least_to (l.count - 1) (λ a. number_at l.sizes l.s l.at (l.initial.here + j * l.stride + a))))
