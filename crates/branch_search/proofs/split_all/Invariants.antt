-- The loop of `split_all`: the zones are split at the points passed, and nothing else is written.
use Rattle.std.proofs.Common.{ℕ, List}
use Rattle.branch_search.specs.Passes.{ZonesWritten, ZonesHold}
use Rattle.branch_search.proofs.split_all.Given as goal

abbrev pub invariant-loop-i : goal.invariant-loop-i
invariant-loop-i l =
    ZonesWritten l.d l.initial.work l.work l.zones
    × ((ceilings : List ℕ) → ZonesHold l.d l.c ceilings l.initial.work l.initial.work l.fn.m
    → ZonesHold l.d l.c ceilings l.initial.work l.work l.zones)
