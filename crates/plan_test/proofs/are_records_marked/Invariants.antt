-- The loop of `are_records_marked`: where the records that are left have marked variables only, all have.
use Rattle.model.specs.Basics.{All}
use Rattle.branch_buckets.specs.Bounds.{places_over}
use Rattle.plan_test.specs.Marks.{Marked, ScopeIn}
use Rattle.plan_test.proofs.are_records_marked.Given as goal

abbrev pub invariant-loop-i : goal.invariant-loop-i
invariant-loop-i l =
    All (ScopeIn (Marked l.marks) l.s) (places_over l.plan l.i l.to)
    → All (ScopeIn (Marked l.marks) l.s) (places_over l.plan l.from l.to)
