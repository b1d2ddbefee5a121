-- The loop of `fill_slots`: the slots passed hold their own numbers, and all else is kept.
use Rattle.std.proofs.Common.{◌≡◌, ◌+◌}
use Rattle.layout.specs.Places.{children_at}
use Rattle.groups.proofs.Overwritten.{over}
use Rattle.branch_buckets.specs.Messages.{count_from}
use Rattle.plan_memory.proofs.fill_slots.Given as goal

abbrev pub invariant-loop-i : goal.invariant-loop-i
invariant-loop-i l = l.plan ≡ over l.initial.plan children_at (count_from 0 l.i) (children_at + l.i)
