-- The loop of `prefix_ok`: the test of what is left of the prefix is the whole's.
use Rattle.std.proofs.Common.{◌≡◌, drop}
use Rattle.model.specs.Bounds.{prefix_ok}
use Rattle.costs.proofs.prefix_ok.Given as goal

abbrev pub invariant-loop-i : goal.invariant-loop-i
invariant-loop-i l = prefix_ok (drop l.i l.sizes) (drop l.i l.prefix) ≡ prefix_ok l.sizes l.prefix
