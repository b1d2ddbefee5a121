-- The loop of `reached_zones`: of the candidates passed those are kept in whose rows no number is below that of the
-- bound.
use Rattle.branch_candidates.specs.Sifted.{Sifting}
use Rattle.branch_zones.specs.Steps.{Under}
use Rattle.branch_zones.proofs.reached_zones.Given as goal

abbrev pub invariant-loop-j : goal.invariant-loop-j
invariant-loop-j l = Sifting l.m (Under l.zones l.least) l.from l.j l.to l.kept
