-- What `explore_source` leaves to show: turns under ceilings that fit find the task's list.
use Rattle.std.proofs.Common.{ℕ, List, subst}
use Rattle.groups.proofs.Tasks.{ceilings_long}
use Rattle.plan_spreads.specs.LargestCosts.{Reaches}
use Rattle.listing.proofs.Forms.{source_places}
use Rattle.listing.proofs.Turns.{ended_fitted}
use Rattle.listing.proofs.explore_source.Goals as goal

pub returns : goal.returns
returns c =
    let a = c.args in
    let source = c.requires.0 in
    let ds = a.sizes.now in
    let bytes = a.s.now in
    let mosts = c.extents_of-extents.result.mosts in
    let reach =
    subst (λ (places : List ℕ). Reaches ds bytes places a.task.ceilings mosts) (source_places source)
    c.extents_of-extents.ensures in
    ended_fitted a.task ds bytes a.work.now mosts _ source.objectives
    (ceilings_long a.task _ c.well_formed.1.1.0) c.fitted_ceilings-fit.ensures reach _ _ c.take_turns.ensures
