-- What `unweighed` leaves to show: what weighs more than every number is a forbidden one's weight.
use Rattle.std.proofs.Common.{arith}
use Rattle.model.specs.Core.{plain}
use Rattle.costs.proofs.unweighed.Goals as goal

pub returns : goal.returns
unfolding plain
returns c = omega arith
