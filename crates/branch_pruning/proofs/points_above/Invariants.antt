-- The loop of `points_above`: of the candidates passed those are kept that are at least the bound.
use Rattle.branch_candidates.specs.Sifted.{Sifting}
use Rattle.branch_pruning.specs.Tests.{Surpassed}
use Rattle.branch_pruning.proofs.points_above.Given as goal

abbrev pub invariant-loop-j : goal.invariant-loop-j
invariant-loop-j l = Sifting l.c (Surpassed l.d l.work l.b) l.from l.j l.to l.kept
