-- The loop of `bounds_of`: `Summing`, over the least entry of a table.
use Rattle.std.proofs.Common.{◌-◌}
use Rattle.model.specs.Bounds.{least_of}
use Rattle.costs.proofs.SumSteps.{Summing}
use Rattle.costs.proofs.bounds_of.Given as goal

abbrev pub invariant-loop : goal.invariant-loop
invariant-loop l = Summing (least_of l.sizes l.prefix) l.sizes l.s l.r l.at l.sums l.here (l.r - l.counter)
