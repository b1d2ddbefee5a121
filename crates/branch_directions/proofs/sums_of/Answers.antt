-- What `sums_of` leaves to show: one sum after another.
use Rattle.branch_directions.specs.Directions.{sums_from}
use Rattle.branch_directions.proofs.sums_of.Goals as goal

pub returns : goal.returns
unfolding sums_from
returns c = rw (c.sum_at.ensures, c.sum_at-2.ensures, c.sum_at-3.ensures, c.sum_at-4.ensures)
