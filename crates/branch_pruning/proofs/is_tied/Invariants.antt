-- The loop of `is_tied`: no candidate passed is tied.
use Rattle.std.proofs.Common.{ℕ, ◌<◌, get_or}
use Rattle.branch_pruning.specs.Tests.{Untied}
use Rattle.branch_pruning.proofs.is_tied.Given as goal

abbrev pub invariant-loop-j : goal.invariant-loop-j
invariant-loop-j l = (k : ℕ) → k < l.j → Untied l.d l.n l.work l.x l.b (get_or l.from k 0)
