-- The loop of `count_senders`: there are no more than were looked at.
use Rattle.std.proofs.Common.{◌≤◌}
use Rattle.plan_numbers.proofs.count_senders.Given as goal

abbrev pub invariant-loop-g : goal.invariant-loop-g
invariant-loop-g l = l.senders ≤ l.g
