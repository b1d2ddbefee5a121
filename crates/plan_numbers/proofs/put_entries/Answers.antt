-- What `put_entries` leaves to show: the plan that was written to is still planned.
use Rattle.std.proofs.Common.{arith}
use Rattle.plan_memory.proofs.Arranging.{loose_arranged, planned_arranged}
use Rattle.plan_numbers.proofs.put_entries.Goals as goal

pub entry_rows-rows-requires : goal.entry_rows-rows-requires
entry_rows-rows-requires c =
    (planned_arranged c.requires (loose_arranged c.requires.few c.loop-e.invariant), omega arith)
