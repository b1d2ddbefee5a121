-- The loop of `size_of`: the size so far times the rest's is the whole's.
use Rattle.std.proofs.Common.{◌+◌, ◌-◌, take, drop}
use Rattle.model.specs.Problems.{size_of}
use Rattle.problem.proofs.SizeSteps.{Sizing}
use Rattle.problem.proofs.size_of.Given as goal

abbrev pub invariant-loop-i : goal.invariant-loop-i
invariant-loop-i l =
    Sizing l.sizes l.s (size_of l.sizes (take l.arity (drop l.at l.s))) l.size (l.at + l.i) (l.arity - l.i)
