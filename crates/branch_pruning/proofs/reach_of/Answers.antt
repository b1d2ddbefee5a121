-- What `reach_of` leaves to show: where there are few, nothing is left out.
use Rattle.branch_pruning.proofs.Reaches.{reached_full}
use Rattle.branch_pruning.proofs.reach_of.Goals as goal

pub returns-then-has_few : goal.returns-then-has_few
returns-then-has_few c = reached_full c.full_reach.ensures
