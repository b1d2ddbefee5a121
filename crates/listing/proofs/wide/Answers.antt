-- What `wide` leaves to show: the core's ceiling is one more.
use Rattle.std.proofs.Common.{arith}
use Rattle.model.specs.Core.{core_ceiling}
use Rattle.listing.proofs.wide.Goals as goal

pub returns : goal.returns
unfolding core_ceiling
returns c = omega arith
