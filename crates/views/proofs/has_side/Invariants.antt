-- The loop of `has_side`: the test of what is left of the scope is the whole's.
use Rattle.std.proofs.Common.{◌≡◌, drop}
use Rattle.model.specs.Reading.{table_scope}
use Rattle.model.specs.Cuts.{has_side}
use Rattle.views.proofs.has_side.Given as goal

abbrev pub invariant-loop-i : goal.invariant-loop-i
invariant-loop-i l =
    has_side l.side l.sides (drop l.i (table_scope (drop l.at l.s)))
    ≡ has_side l.side l.sides (table_scope (drop l.at l.s))
