-- The loop of `lies_on`: the test of what is left of the scope is the whole's.
use Rattle.std.proofs.Common.{◌≡◌, drop}
use Rattle.model.specs.Reading.{table_scope}
use Rattle.model.specs.Views.{all_on, within}
use Rattle.views.proofs.lies_on.Given as goal

abbrev pub invariant-loop-i : goal.invariant-loop-i
invariant-loop-i l =
    all_on l.side l.sides (drop l.i (table_scope (drop l.at l.s)))
    ≡ within l.side l.sides (table_scope (drop l.at l.s))
