-- What the loop of `fill_costs` leaves to show.
use Rattle.std.proofs.Common.{add-one, arith}
use Rattle.model.specs.Encoding.{two_bytes, four_bytes}
use Rattle.text_lines.proofs.Writing.{begin, due, go_on, done}
use Rattle.text_reading.proofs.Forms.{cost_next, costs_end}
use Rattle.text_reading.proofs.fill_costs.Goals as goal

pub loop-init : goal.loop-init
loop-init c = begin c.args.out.now c.requires

pub put_four-next-requires : goal.put_four-next-requires
unfolding two_bytes four_bytes
put_four-next-requires c = due (cost_next c.args.size c.args.cost c.loop.counter (omega arith)) c.loop.invariant

pub loop-preserved : goal.loop-preserved
loop-preserved c =
    rw add-one
    (go_on (cost_next c.args.size c.args.cost c.loop.counter (omega arith)) c.loop.invariant c.put_four-next.ensures)

pub returns : goal.returns
returns c = done (rw (costs_end c.args.size c.args.cost c.loop.counter (omega arith)) at c.loop.invariant)
