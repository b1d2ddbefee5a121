-- The loop of `store_choice`: the values of the numbers passed are written.
use Rattle.rows.proofs.Packing.{ValuesTo}
use Rattle.rows.proofs.store_choice.Given as goal

abbrev pub invariant-loop-k : goal.invariant-loop-k
invariant-loop-k l = ValuesTo l.at l.choice l.initial.work l.work l.k
