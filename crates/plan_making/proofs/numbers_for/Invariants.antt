-- The loop of `numbers_for`: no part has more than 4096 numbers.
use Rattle.std.proofs.Common.{◌≤◌, ◌*◌}
use Rattle.plan_making.proofs.numbers_for.Given as goal

abbrev pub invariant-loop-set : goal.invariant-loop-set
invariant-loop-set l = l.numbers ≤ 4096 * l.set-index
