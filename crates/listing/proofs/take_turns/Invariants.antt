-- The loop of `take_turns`: between turns the records are where they were, and there is an archive.
use Rattle.groups.specs.Sources.{source_problem}
use Rattle.branch_search.specs.States.{Between}
use Rattle.listing.specs.Says.{Kept}
use Rattle.listing.proofs.take_turns.Given as goal

abbrev pub invariant-loop-number : goal.invariant-loop-number
invariant-loop-number l = record {
  kept : Kept l.task.records l.initial.work l.work;
  archive : Between (source_problem l.task l.sizes l.s l.initial.work) l.task.room l.work l.points;
}
