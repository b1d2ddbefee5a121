-- The loop of `sizes_of`: no variable so far adds more than a byte holds.
use Rattle.std.proofs.Common.{◌≤◌, ◌*◌}
use Rattle.plan_order.specs.Fill.{max_size}
use Rattle.plan_order.proofs.sizes_of.Given as goal

abbrev pub invariant-loop-v : goal.invariant-loop-v
invariant-loop-v l = l.sum ≤ max_size * l.v
