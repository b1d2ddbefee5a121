-- What `split_zone` leaves to show: nothing is split, or part after part.
use Rattle.std.proofs.Common.{arith}
use Rattle.model.specs.Problems.{Word}
use Rattle.model.proofs.Elements.{all_take}
use Rattle.branch_zones.proofs.ZoneRows.{front_corner}
use Rattle.branch_zones.proofs.HeldZones.{zones_split_none}
use Rattle.branch_zones.proofs.PartSteps.{splitting_start, splitting_next, splitting_end}
use Rattle.branch_zones.proofs.split_zone.Goals as goal

pub returns-then-m-p : goal.returns-then-m-p
returns-then-m-p c = (zones_split_none _ c.requires.1, omega arith)

pub returns-then-not-is_at_most : goal.returns-then-not-is_at_most
returns-then-not-is_at_most c = (zones_split_none _ c.requires.1, omega arith)

pub loop-j-init : goal.loop-j-init
loop-j-init c = splitting_start _ _ c.args.i c.requires.2 c.requires.1

pub add_part-s-requires : goal.add_part-s-requires
add_part-s-requires c =
    let u = c.loop-j.invariant in (
      c.requires.0,
      u.measured,
      u.inside,
      omega (arith, u.room, c.if-m-p.false),
      omega arith,
      all_take Word c.args.d.objectives _ c.corner_at-t.ensures.1,
      c.requires.3,
    )

pub loop-j-preserved : goal.loop-j-preserved
loop-j-preserved c = splitting_next c.loop-j.invariant c.add_part-s.ensures

pub returns : goal.returns
returns c =
    let a = c.args in
    let e = c.close_row.ensures in (
      splitting_end c.loop-j.invariant (omega arith)
          (front_corner a.d.objectives a.zones.now a.i _ c.requires.0.few c.corner_at-t.ensures.0) e,
      omega (arith, c.loop-j.invariant.least, e.least),
    )
