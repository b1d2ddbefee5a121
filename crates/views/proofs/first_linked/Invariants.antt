-- The loop of `first_linked`: the verdict on the records that are left is that on all.
use Rattle.std.proofs.Common.{◌-◌}
use Rattle.views.proofs.LinkedSteps.{Linking}
use Rattle.views.proofs.first_linked.Given as goal

abbrev pub invariant-loop : goal.invariant-loop
invariant-loop l = Linking l.sizes l.s l.sides l.r l.at l.here (l.r - l.counter)
