-- What `part_rest` leaves to show: nothing is left out at the start, and all pairs are done at the end.
use Rattle.std.proofs.Common.{arith, refl}
use Rattle.plan_test.proofs.Parts.{part_start_lem, part_end}
use Rattle.plan_test.proofs.part_rest.Goals as goal

pub loop-c-init : goal.loop-c-init
loop-c-init c =
    part_start_lem

pub returns : goal.returns
returns c =
    part_end c.loop-c.invariant c.requires.0.small (omega arith) _ refl refl
