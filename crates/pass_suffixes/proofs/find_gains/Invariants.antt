-- The loop of `find_gains`: the gains from objective o on are found, and those before it are none.
use Rattle.groups.specs.Sources.{source_problem}
use Rattle.pass_suffixes.specs.Gained.{FoundFrom, Left}
use Rattle.pass_suffixes.proofs.find_gains.Given as goal

abbrev pub invariant-loop-o : goal.invariant-loop-o
invariant-loop-o l = record {
  found : FoundFrom (source_problem l.task l.sizes l.s l.fn.work) l.o 0 l.work;
  left : Left l.fn.work l.work;
}
