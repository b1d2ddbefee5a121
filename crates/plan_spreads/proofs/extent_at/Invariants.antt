-- The loop of `extent_at`: the least and the largest entry so far below the ceiling, `Scanned`.
use Rattle.costs.specs.Entries.{table_at}
use Rattle.plan_spreads.proofs.LargestEntries.{Scanned}
use Rattle.plan_spreads.proofs.extent_at.Given as goal

abbrev pub invariant-loop-i : goal.invariant-loop-i
invariant-loop-i l = Scanned l.ceiling (table_at l.sizes l.s l.at).costs l.low l.most l.i
