-- The loop of `weights_for`: every weight is small, and once the first sum is written its weights are at least 1.
use Rattle.std.proofs.Common.{◌≡◌, ◌≤◌, length, take}
use Rattle.model.specs.Basics.{All}
use Rattle.branch_archive.specs.Changes.{max_weight}
use Rattle.branch_directions.proofs.weights_for.Given as goal

abbrev pub invariant-loop-i : goal.invariant-loop-i
invariant-loop-i l = record {
  long : length l.weights ≡ 16;
  small : All (λ w. w ≤ max_weight) l.weights;
  lead : 1 ≤ l.i → All (λ w. 1 ≤ w) (take 4 l.weights);
}
