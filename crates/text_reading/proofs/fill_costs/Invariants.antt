-- The loop of `fill_costs`: the costs left will complete the table.
use Rattle.std.proofs.Common.{drop}
use lib.ListN.{replicate}
use Rattle.model.specs.Encoding.{word_bytes}
use Rattle.text_lines.proofs.Writing.{Underway}
use Rattle.text_reading.proofs.fill_costs.Given as goal

abbrev pub invariant-loop : goal.invariant-loop
invariant-loop l =
    Underway l.at (word_bytes (replicate l.size l.cost)) l.initial.out
    (word_bytes (drop l.counter (replicate l.size l.cost))) l.out l.next
