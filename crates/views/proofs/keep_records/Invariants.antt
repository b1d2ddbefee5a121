-- The loop of `keep_records`: the wanted ones of the places passed are written, and nothing else.
use Rattle.std.proofs.Common.{◌+◌}
use Rattle.groups.proofs.Adding.{Adding}
use Rattle.views.specs.Wanted.{kept_places}
use Rattle.views.proofs.KeptPlaces.{wanted_at}
use Rattle.views.proofs.keep_records.Given as goal

abbrev pub invariant-loop-i : goal.invariant-loop-i
invariant-loop-i l =
    Adding (wanted_at l.part l.sides l.s) (kept_places l.part l.sides l.s) l.initial.work l.r l.from l.to l.work
    (l.to + l.count) l.i
