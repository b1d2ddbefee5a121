-- The loop of `store_costs`: the costs passed are written.
use Rattle.std.proofs.Common.{take}
use Rattle.model.specs.Limits.{max_objectives}
use Rattle.model.specs.Calls.{padded}
use Rattle.rows.proofs.Packing.{CostsTo}
use Rattle.rows.proofs.store_costs.Given as goal

abbrev pub invariant-loop-i : goal.invariant-loop-i
invariant-loop-i l = CostsTo l.at (padded max_objectives (take l.p l.costs)) l.initial.work l.work l.i
