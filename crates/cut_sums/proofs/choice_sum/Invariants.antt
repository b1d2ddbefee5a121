-- The loop of `choice_sum`: the array is the numbers added so far, then zeros.
use Rattle.std.proofs.Common.{◌≡◌, take}
use Rattle.model.specs.Limits.{max_variables}
use Rattle.model.specs.Calls.{padded}
use Rattle.cut_sums.proofs.Adding.{fronts_added}
use Rattle.cut_sums.proofs.choice_sum.Given as goal

abbrev pub invariant-loop-i : goal.invariant-loop-i
invariant-loop-i l = l.sum ≡ padded max_variables (take l.i (fronts_added l.x l.y l.n))
