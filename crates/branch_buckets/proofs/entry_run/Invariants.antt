-- The loop of `entry_run`: for every value, what is left of the scope after this index gives the whole's entry.
use Rattle.branch_buckets.proofs.EntryRuns.{EntrySteps}
use Rattle.branch_buckets.proofs.entry_run.Given as goal

abbrev pub invariant-loop-k : goal.invariant-loop-k
invariant-loop-k l = EntrySteps l.sizes l.s l.at l.v l.choice l.k l.first l.stride
