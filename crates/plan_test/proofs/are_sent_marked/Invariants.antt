-- The loop of `are_sent_marked`: where the messages that are left read marked variables only, all do.
use Rattle.std.proofs.Common.{◌-◌}
use Rattle.model.specs.Basics.{All}
use Rattle.branch_buckets.specs.Messages.{count_from}
use Rattle.branch_buckets.proofs.Reading.{Reads}
use Rattle.plan_test.specs.Marks.{Marked}
use Rattle.plan_test.proofs.are_sent_marked.Given as goal

abbrev pub invariant-loop-g : goal.invariant-loop-g
invariant-loop-g l =
    All (Reads (Marked l.marks) l.plan) (count_from l.g (l.to - l.g))
    → All (Reads (Marked l.marks) l.plan) (count_from l.from (l.to - l.from))
