-- The loop of `least_value`: of the values passed, `least` has the least lead.
use Rattle.std.proofs.Common.{ℕ, ◌<◌, ◌≤◌, get_or}
use Rattle.branch_values.proofs.least_value.Given as goal

abbrev pub invariant-loop-a : goal.invariant-loop-a
invariant-loop-a l = (l.least < l.a) × ((b : ℕ) → b < l.a → get_or l.leads l.least 0 ≤ get_or l.leads b 0)
