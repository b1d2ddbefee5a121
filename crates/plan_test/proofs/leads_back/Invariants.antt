-- The loop of `leads_back`: the numbers that were passed lead back.
use Rattle.std.proofs.Common.{ℕ, ◌≡◌, ◌+◌, ◌<◌, get_or}
use Rattle.plan_test.proofs.leads_back.Given as goal

abbrev pub invariant-loop-i : goal.invariant-loop-i
invariant-loop-i l =
    (k : ℕ) → k < l.i
    → (get_or l.plan (l.from + k) 0 < l.n) × (get_or l.plan (l.to + get_or l.plan (l.from + k) 0) 0 ≡ k)
