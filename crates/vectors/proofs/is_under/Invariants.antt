-- The loop of `is_under`: what is left of both vectors is compared as the whole is.
use Rattle.std.proofs.Common.{◌≡◌, ◌≤◌, take, drop}
use Rattle.model.specs.Core.{under}
use Rattle.vectors.specs.Fronts.{front_under}
use Rattle.vectors.proofs.is_under.Given as goal

abbrev pub invariant-loop-i : goal.invariant-loop-i
invariant-loop-i l =
    (l.i ≤ l.p) × (front_under l.p l.a l.ceilings ≡ under (drop l.i (take l.p l.a)) (drop l.i (take l.p l.ceilings)))
