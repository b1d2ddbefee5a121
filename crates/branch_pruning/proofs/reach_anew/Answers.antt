-- What `reach_anew` leaves to show: nothing is left out at first.
use Rattle.branch_pruning.proofs.Reaches.{reached_full}
use Rattle.branch_pruning.proofs.reach_anew.Goals as goal

pub returns-then-has_few : goal.returns-then-has_few
returns-then-has_few c = reached_full c.full_reach.ensures

pub sift-requires : goal.sift-requires
sift-requires c = (c.requires.0, reached_full c.full_reach-2.ensures, c.requires.1)
