-- What the loop of `put_zone` leaves to show.
use Rattle.std.proofs.Common.{map, take, sym, ◌∙◌, w64, arith}
use lib.ListN.{get_or-map}
use lib.Seq.{length-take-le, take_all}
use Rattle.groups.proofs.Copied.{copied_next, copied_end}
use Rattle.model.specs.Limits.{max_objectives}
use Rattle.rows.proofs.Arrays.{array_length}
use Rattle.branch_zones.specs.Zones.{zone_width, clamped}
use Rattle.branch_zones.proofs.RowWritten.{row_long, row_written}
use Rattle.branch_zones.proofs.put_zone.Goals as goal

pub loop-j-preserved : goal.loop-j-preserved
loop-j-preserved c =
    copied_next c.loop-j.invariant (omega arith) _
    (c.clamp.ensures ∙ sym (get_or-map clamped c.directions_of-all.result c.loop-j.j 0))

pub returns : goal.returns
returns c =
    let a = c.args in
    let read = c.directions_of-all.ensures in
    let long = array_length w64 max_objectives a.corner _ c.well_formed.1.0 in
    let wide = length-take-le a.d.objectives a.corner (omega (arith, long, c.requires.0.few)) in
    let full = row_long a.d (take a.d.objectives a.corner) _ c.requires.0 wide read in
    row_written a.d a.zones.now a.i (take a.d.objectives a.corner) _ _ c.requires.0 c.requires.1 c.requires.2 wide
    c.requires.3 read
    (rw (take_all zone_width (map clamped c.directions_of-all.result) (omega (arith, full)))
    at (copied_end c.loop-j.invariant (omega arith)))
