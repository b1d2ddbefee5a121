-- The loop of `is_kept`: nothing is missing in the numbers that were passed.
use Rattle.std.proofs.Common.{ℕ, ◌<◌, ◌≤◌, get_or}
use Rattle.plan_test.specs.Parts.{rest_base}
use Rattle.plan_test.proofs.is_kept.Given as goal

abbrev pub invariant-loop-x : goal.invariant-loop-x
invariant-loop-x l = (m : ℕ) → m < l.x-index → rest_base ≤ get_or l.x-items m 0
