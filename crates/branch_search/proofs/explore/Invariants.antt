-- The loop of `explore`: between passes there is an archive.
use Rattle.std.proofs.Common.{◌≤◌}
use Rattle.groups.specs.Sources.{source_problem}
use Rattle.branch_search.specs.States.{Still, Between}
use Rattle.branch_search.proofs.explore.Given as goal

abbrev pub invariant-loop-pass : goal.invariant-loop-pass
invariant-loop-pass l =
    Still l.task l.initial.work l.work
    × Between (source_problem l.task l.sizes l.s l.initial.work) l.task.room l.work l.points
    × (l.left ≤ l.initial.left)
