-- What the loop of `extents_of` leaves to show.
use Rattle.std.proofs.Common.{◌≡◌, ℕ, length, get_or, take, ap, ◌∙◌, arith, length-take-le}
use Rattle.std.proofs.Math.Nat.{sub-zero}
use Rattle.std.proofs.Math.Seq.{take-take}
use Rattle.model.specs.Reading.{table_of}
use Rattle.costs.specs.Entries.{table_at}
use Rattle.groups.proofs.SumsOver.{sums_start, sums_next, sums_end}
use Rattle.plan_spreads.specs.LargestCosts.{largest_under, largest_of}
use Rattle.plan_spreads.proofs.LargestSums.{largest_reach}
use Rattle.plan_spreads.proofs.extents_of.Goals as goal

pub loop-place-init : goal.loop-place-init
loop-place-init c =
    let a = c.args in
    let long : length (take a.r a.places.now) ≡ a.r = length-take-le a.r a.places.now c.requires.2 in
    sums_start (largest_of a.ceilings) a.sizes.now a.s.now (take a.r a.places.now) 0 a.r (omega arith)
    (omega (arith, long)) (omega (arith, c.requires.1))
    (rw (sub-zero, take-take a.r a.r a.places.now (omega arith)) c.requires.3)

pub loop-place-preserved : goal.loop-place-preserved
unfolding table_of
loop-place-preserved c =
    let a = c.args in
    let long : length (take a.r a.places.now) ≡ a.r = length-take-le a.r a.places.now c.requires.2 in
    let entries = (table_at a.sizes.now a.s.now (get_or (take a.r a.places.now) c.loop-place.place-index 0)).costs in
    sums_next c.loop-place.invariant (omega (arith, long, c.loop-place-test.true)) _ _
    c.record_at-t.ensures.objective
    (c.extent_at-extent.ensures.0
    ∙ ap (λ (o : ℕ). largest_under (get_or a.ceilings o 0) entries) c.record_at-t.ensures.objective)
    c.extent_at-extent.ensures.1

pub returns : goal.returns
returns c =
    let a = c.args in
    let long : length (take a.r a.places.now) ≡ a.r = length-take-le a.r a.places.now c.requires.2 in
    largest_reach a.sizes.now a.s.now (take a.r a.places.now) a.ceilings c.loop-place.mosts
    (rw (sub-zero, take-take a.r a.r a.places.now (omega arith))
    at (sums_end c.loop-place.invariant (omega (arith, long, c.loop-place-test.false))))
