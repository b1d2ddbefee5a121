-- The loop of `compare`, both ways: among the first i numbers none of a is above b's, and `less` says whether one of b
-- is above a's.
use Rattle.std.proofs.Common.{false}
use Rattle.vectors.specs.Fronts.{front_at_most}
use Rattle.vectors.proofs.Walking.{Walked}
use Rattle.vectors.proofs.compare.Given as goal

abbrev pub invariant-loop-i : goal.invariant-loop-i
invariant-loop-i l = record {
  forth : Walked (front_at_most l.p l.a l.b) l.p l.a l.b l.i false;
  back : Walked (front_at_most l.p l.b l.a) l.p l.b l.a l.i l.less;
}
