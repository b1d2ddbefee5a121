-- What `weigh` leaves to show: a number weighs itself, a forbidden one more.
use Rattle.std.proofs.Common.{arith}
use Rattle.model.proofs.Core.{entry_same, entry_rises}
use Rattle.costs.proofs.weigh.Goals as goal

pub returns-then-x-eq4294967295 : goal.returns-then-x-eq4294967295
returns-then-x-eq4294967295 c = omega (arith, c.if-x-eq4294967295.true, entry_rises c.args.x (omega arith))

pub returns : goal.returns
returns c = omega (arith, c.if-x-eq4294967295.false, entry_same c.args.x (omega arith))
