-- The loop of `fill_of`: no variable so far adds more than one product can be.
use Rattle.std.proofs.Common.{◌≤◌, ◌*◌}
use Rattle.plan_order.specs.Fill.{max_size, max_sizes}
use Rattle.plan_order.proofs.fill_of.Given as goal

abbrev pub invariant-loop-v : goal.invariant-loop-v
invariant-loop-v l = l.fill ≤ max_size * max_sizes * l.v
