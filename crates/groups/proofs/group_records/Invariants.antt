-- The loop of `group_records`: the groups of the variables passed are written, each with its start.
use Rattle.groups.proofs.Grouping.{Grouping}
use Rattle.groups.proofs.group_records.Given as goal

abbrev pub invariant-loop-v : goal.invariant-loop-v
invariant-loop-v l = Grouping l.s l.initial.work l.r l.work l.end l.v
