-- What the loop of `fill_totals` leaves to show.
use Rattle.std.proofs.Common.{arith}
use Rattle.branch_buckets.proofs.RecordSteps.{totalling_next, totalling_end}
use Rattle.branch_buckets.proofs.fill_totals.Goals as goal

pub loop-i-preserved : goal.loop-i-preserved
loop-i-preserved c =
    totalling_next c.loop-i.invariant c.requires.2 (omega arith) c.requires.3 _ c.add_record.auto.totals
    c.add_record.ensures

pub returns : goal.returns
returns c = totalling_end c.loop-i.invariant c.requires.2 (omega arith)
