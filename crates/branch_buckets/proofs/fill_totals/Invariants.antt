-- The loop of `fill_totals`: the records passed are added, the others are left to add.
use Rattle.branch_buckets.proofs.RecordSteps.{Totalling}
use Rattle.branch_buckets.proofs.fill_totals.Given as goal

abbrev pub invariant-loop-i : goal.invariant-loop-i
invariant-loop-i l = Totalling l.sizes l.s l.plan l.fn.span l.v l.choice l.i l.totals
