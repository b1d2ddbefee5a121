-- The loop of `objective_gains`: the gains of the variables from k on are found.
use Rattle.std.proofs.Common.{◌-◌}
use Rattle.groups.specs.Sources.{source_problem}
use Rattle.pass_suffixes.specs.Gained.{FoundFrom, Left}
use Rattle.pass_suffixes.proofs.objective_gains.Given as goal

abbrev pub invariant-loop-k : goal.invariant-loop-k
invariant-loop-k l = record {
  found : FoundFrom (source_problem l.task l.sizes l.s l.fn.work) l.o (l.k - 1) l.work;
  left : Left l.fn.work l.work;
}
