-- The loop of `all_rows`: each row passed has its own number.
use Rattle.std.proofs.Common.{◌≡◌, length, get_or, ℕ, ◌<◌}
use Rattle.branch_candidates.specs.Sifted.{list_width}
use Rattle.branch_candidates.proofs.all_rows.Given as goal

abbrev pub invariant-loop-i : goal.invariant-loop-i
invariant-loop-i l = record {
  long : length l.to ≡ list_width;
  own : (j : ℕ) → j < l.i → get_or l.to j 0 ≡ j;
}
