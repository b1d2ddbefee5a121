-- The loop of `is_rest_at_most`: no number before j is above the other's.
use Rattle.std.proofs.Common.{false, take, drop}
use Rattle.model.specs.Vectors.{at_most}
use Rattle.vectors.proofs.Walking.{Walked}
use Rattle.vectors.proofs.is_rest_at_most.Given as goal

abbrev pub invariant-loop-j : goal.invariant-loop-j
invariant-loop-j l = Walked (at_most (drop l.i (take l.p l.a)) (drop l.i (take l.p l.b))) l.p l.a l.b l.j false
