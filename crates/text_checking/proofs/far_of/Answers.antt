-- What `far_of` leaves to show: no variable is left.
use Rattle.std.proofs.Common.{refl}
use Rattle.text_networks.specs.Findings.{values_in}
use Rattle.text_checking.proofs.far_of.Goals as goal

pub returns-then-count-eq0 : goal.returns-then-count-eq0
unfolding values_in
returns-then-count-eq0 c = record { count = refl; within = c.requires.0; values = rw c.if-count-eq0.true }
