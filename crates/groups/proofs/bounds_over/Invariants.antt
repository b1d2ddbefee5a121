-- The loop of `bounds_over`: the sums of the least entries over the places passed.
use Rattle.model.specs.Bounds.{least_of}
use Rattle.groups.proofs.SumsOver.{SummingOver}
use Rattle.groups.proofs.bounds_over.Given as goal

abbrev pub invariant-loop-i : goal.invariant-loop-i
invariant-loop-i l = SummingOver (least_of l.sizes l.prefix) l.sizes l.s l.work l.from l.to l.sums l.i
