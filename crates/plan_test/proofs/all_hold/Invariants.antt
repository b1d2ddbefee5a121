-- The loop of `all_hold`: the buckets of the positions before `k` send no more than they hold.
use Rattle.std.proofs.Common.{ℕ, ◌<◌}
use Rattle.plan_test.specs.Parts.{HoldsAt}
use Rattle.plan_test.proofs.all_hold.Given as goal

abbrev pub invariant-loop-k : goal.invariant-loop-k
invariant-loop-k l = (m : ℕ) → m < l.k → HoldsAt l.d l.sizes l.s l.plan m
