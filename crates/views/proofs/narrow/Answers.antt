-- What the loop of `narrow` leaves to show.
use Rattle.std.proofs.Common.{arith, eq-eqb, ne_eqb}
use Rattle.views.proofs.Narrowing.{narrowing_start, narrowing_step, narrowing_end}
use Rattle.views.proofs.narrow.Goals as goal

pub loop-v-init : goal.loop-v-init
loop-v-init c = narrowing_start _ _ _ c.requires.0 c.requires.1

pub loop-v-preserved : goal.loop-v-preserved
loop-v-preserved c = narrowing_step c.loop-v.invariant (omega arith) _ (grind (arith, eq-eqb, ne_eqb))

pub returns : goal.returns
returns c = narrowing_end c.loop-v.invariant (omega arith)
