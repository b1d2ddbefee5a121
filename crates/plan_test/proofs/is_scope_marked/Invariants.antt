-- The loop of `is_scope_marked`: where the variables that are left are marked, all are.
use Rattle.std.proofs.Common.{drop}
use Rattle.model.specs.Basics.{All}
use Rattle.model.specs.Reading.{table_scope}
use Rattle.plan_test.specs.Marks.{Marked, ScopeIn}
use Rattle.plan_test.proofs.is_scope_marked.Given as goal

abbrev pub invariant-loop-i : goal.invariant-loop-i
invariant-loop-i l =
    All (Marked l.marks) (drop l.i (table_scope (drop l.at l.s))) → ScopeIn (Marked l.marks) l.s l.at
