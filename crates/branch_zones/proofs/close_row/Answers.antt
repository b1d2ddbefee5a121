-- What `close_row` leaves to show: the last zone is moved.
use Rattle.std.proofs.Common.{◌-◌, arith}
use Rattle.branch_zones.proofs.ZoneRows.{front_corner}
use Rattle.branch_zones.proofs.RowWritten.{written_as}
use Rattle.branch_zones.proofs.PartSteps.{closed_moved}
use Rattle.branch_zones.proofs.close_row.Goals as goal

pub returns : goal.returns
returns c =
    let a = c.args in
    let last = front_corner a.d.objectives a.zones.now (a.s.count - 1) _ c.requires.0.few c.corner_at-last.ensures.0 in
    closed_moved c.requires.0 c.requires.1 (omega (arith, c.requires.2, c.if-free-count.false))
    (written_as last c.put_zone.ensures)
