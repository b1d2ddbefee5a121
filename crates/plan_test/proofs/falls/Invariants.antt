-- The loop of `falls`: the numbers that were passed fall.
use Rattle.std.proofs.Common.{ℕ, ◌+◌, ◌<◌, ◌≤◌, get_or}
use Rattle.plan_test.proofs.falls.Given as goal

abbrev pub invariant-loop-k : goal.invariant-loop-k
invariant-loop-k l =
    (m : ℕ) → m < l.k → get_or l.plan (l.at + (m + 1)) 0 ≤ get_or l.plan (l.at + m) 0
