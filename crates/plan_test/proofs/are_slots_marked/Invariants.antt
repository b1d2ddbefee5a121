-- The loop of `are_slots_marked`: where the messages in the slots that are left read marked variables only, all do.
use Rattle.model.specs.Basics.{All}
use Rattle.branch_buckets.specs.Messages.{children_over}
use Rattle.branch_buckets.proofs.Reading.{Reads}
use Rattle.plan_test.specs.Marks.{Marked}
use Rattle.plan_test.proofs.are_slots_marked.Given as goal

abbrev pub invariant-loop-i : goal.invariant-loop-i
invariant-loop-i l =
    All (Reads (Marked l.marks) l.plan) (children_over l.plan l.i l.last)
    → All (Reads (Marked l.marks) l.plan) (children_over l.plan l.first l.last)
