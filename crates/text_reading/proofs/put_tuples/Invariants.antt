-- The loop of `put_tuples`: so many tuples are put.
use Rattle.text_reading.proofs.Tuples.{Putting}
use Rattle.text_reading.proofs.put_tuples.Given as goal

abbrev pub invariant-loop : goal.invariant-loop
invariant-loop l = Putting l.s l.f.scope l.initial.next l.to l.counter l.initial.out l.out l.next
