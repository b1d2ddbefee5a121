-- The loop of `narrow`: the sizes of the variables passed are in the array, and then ones.
use Rattle.views.proofs.Narrowing.{Narrowing}
use Rattle.views.proofs.narrow.Given as goal

abbrev pub invariant-loop-v : goal.invariant-loop-v
invariant-loop-v l = Narrowing l.side l.sides l.sizes l.sizes_of l.v
