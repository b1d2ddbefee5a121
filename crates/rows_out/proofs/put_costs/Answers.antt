-- What the loop of `put_costs` leaves to show.
use Rattle.std.proofs.Common.{refl, arith}
use Rattle.model.specs.Problems.{Word}
use Rattle.model.proofs.Elements.{front_each}
use Rattle.groups.proofs.Copied.{copied_start, copied_next, copied_end}
use Rattle.rows_out.proofs.put_costs.Goals as goal

pub loop-i-init : goal.loop-i-init
loop-i-init c = copied_start _ _ _ _ c.requires.1 (omega arith)

pub overflow_cast-costs : goal.overflow_cast-costs
overflow_cast-costs c =
    omega (arith, front_each Word 0 c.args.count c.args.row (omega arith) c.requires.2 c.loop-i.i (omega arith))

pub loop-i-preserved : goal.loop-i-preserved
loop-i-preserved c = copied_next c.loop-i.invariant (omega arith) _ refl

pub returns : goal.returns
returns c = copied_end c.loop-i.invariant (omega arith)
