-- What is left to show of `put`: a number behind the front is written.
use Rattle.std.proofs.Common.{arith}
use Rattle.plan_memory.proofs.Arranging.{loose_set}
use Rattle.plan_memory.proofs.put.Goals as goal

pub returns-then-number-le-MOST_NUMBER : goal.returns-then-number-le-MOST_NUMBER
returns-then-number-le-MOST_NUMBER c = loose_set c.args.plan.now c.args.i c.args.number (omega arith)
