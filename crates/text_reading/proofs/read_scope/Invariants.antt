-- The loop of `read_scope`: the first i variables are read.
use Rattle.text_reading.proofs.Scopes.{Scoping}
use Rattle.text_reading.proofs.read_scope.Given as goal

abbrev pub invariant-loop-i : goal.invariant-loop-i
invariant-loop-i l = Scoping l.s l.at l.d.sizes l.variables l.sizes l.size l.end l.i
