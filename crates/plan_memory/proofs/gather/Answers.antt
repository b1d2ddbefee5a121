-- What the loop of `gather` leaves to show.
use Rattle.std.proofs.Common.{arith}
use Rattle.plan_memory.proofs.Arranging.{arranged_trans}
use Rattle.plan_memory.proofs.gather.Goals as goal
use Rattle.plan_memory.proofs.gather.Goals.{then-is_between, else-is_between}

pub loop-i-preserved : goal.loop-i-preserved
loop-i-preserved c = elim c.if-is_between.branch [
  | then-is_between w ↦
      record {
        arranged = rw w.plan-is (arranged_trans c.loop-i.invariant.arranged w.exchange.ensures);
        few = omega arith;
      }
  | else-is_between w ↦ record { arranged = rw w.plan-is c.loop-i.invariant.arranged; few = omega arith }
]
