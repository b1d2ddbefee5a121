-- The loop of `extents_of`: the sums of largest entries so far.
use Rattle.std.proofs.Common.{take}
use Rattle.groups.proofs.SumsOver.{SummingOver}
use Rattle.plan_spreads.specs.LargestCosts.{largest_of}
use Rattle.plan_spreads.proofs.extents_of.Given as goal

abbrev pub invariant-loop-place : goal.invariant-loop-place
invariant-loop-place l =
    SummingOver (largest_of l.ceilings) l.sizes l.s (take l.r l.places) 0 l.r l.mosts l.place-index
