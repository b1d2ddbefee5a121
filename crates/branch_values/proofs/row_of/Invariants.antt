-- The loop of `row_of`: the numbers so far are the bound's, as far as they are asked for.
use Rattle.std.proofs.Common.{◌≡◌, ℕ, ◌<◌, length, get_or}
use Rattle.branch_directions.specs.Directions.{max_directions}
use Rattle.branch_values.specs.Rows.{next_bound}
use Rattle.branch_values.proofs.row_of.Given as goal

abbrev pub invariant-loop-j : goal.invariant-loop-j
invariant-loop-j l =
    (length l.b ≡ max_directions)
    × ((i : ℕ) → i < l.j → i < l.w → get_or l.b i 0 ≡ next_bound l.acc l.away l.rows l.a i)
