-- The loop of `turn_records`: i records are turned, each at its part of the buffer.
use Rattle.form_call.proofs.TurnedRecords.{Underway}
use Rattle.form_call.proofs.turn_records.Given as goal

abbrev pub invariant-loop-i : goal.invariant-loop-i
invariant-loop-i l = Underway l.sizes l.s l.at l.initial.turned l.initial.parts l.turned l.parts l.here l.i
