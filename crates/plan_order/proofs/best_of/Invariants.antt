-- The loop of `best_of`: the variable found is one of those that there can be.
use Rattle.std.proofs.Common.{◌<◌}
use Rattle.model.specs.Limits.{max_variables}
use Rattle.plan_order.proofs.best_of.Given as goal

abbrev pub invariant-loop-v : goal.invariant-loop-v
invariant-loop-v l = l.best < max_variables
