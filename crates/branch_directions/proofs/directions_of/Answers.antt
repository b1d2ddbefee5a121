-- What the loop of `directions_of` leaves to show.
use Rattle.std.proofs.Common.{◌≡◌, take, w64, arith}
use mathlib.Core.List.{append-nil}
use lib.Seq.{length-take-le}
use Rattle.model.specs.Limits.{max_objectives}
use Rattle.rows.proofs.Arrays.{array_length}
use Rattle.branch_directions.specs.Directions.{sums_from, directions_of}
use Rattle.branch_directions.proofs.SumsOf.{sums_stored}
use Rattle.branch_directions.proofs.directions_of.Goals as goal

pub loop-i-init : goal.loop-i-init
unfolding sums_from
loop-i-init c = rw append-nil c.with_costs-all.ensures

pub loop-i-preserved : goal.loop-i-preserved
loop-i-preserved c =
    let d = c.args.d in
    let w = c.loop-i in
    let v = c.args.v in
    let s = c.requires.0 in
    let long = array_length w64 max_objectives v _ c.well_formed.0 in
    sums_stored d (take d.objectives v) w.all d.objectives w.i _
    (length-take-le d.objectives v (omega (arith, long, s.few))) (omega (arith, s.few, s.few_sums)) c.sum_at.ensures
    w.invariant

pub returns : goal.returns
unfolding directions_of
returns c =
    let last : c.loop-i.i ≡ c.args.d.sums = omega arith in
    rw last at c.loop-i.invariant
