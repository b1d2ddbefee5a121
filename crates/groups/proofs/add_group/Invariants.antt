-- The loop of `add_group`: the group of the places passed is written, and nothing else.
use Rattle.layout.specs.Layout.{records_at}
use Rattle.groups.specs.Groups.{group_of}
use Rattle.groups.proofs.Keeping.{touches}
use Rattle.groups.proofs.Adding.{Adding}
use Rattle.groups.proofs.add_group.Given as goal

abbrev pub invariant-loop-i : goal.invariant-loop-i
invariant-loop-i l = Adding (touches l.s l.v) (group_of l.s l.v) l.initial.work l.r records_at l.from l.work l.end l.i
