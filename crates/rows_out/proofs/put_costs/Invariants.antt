-- The loop of `put_costs`: the costs passed are written.
use Rattle.groups.proofs.Copied.{Copied}
use Rattle.rows_out.proofs.put_costs.Given as goal

abbrev pub invariant-loop-i : goal.invariant-loop-i
invariant-loop-i l = Copied l.initial.costs l.to l.row l.count l.costs l.i
