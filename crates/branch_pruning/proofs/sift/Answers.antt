-- What `sift` leaves to show: one list after the other.
use Rattle.std.proofs.Common.{sym, subst, arith}
use lib.Seq.{length-take-le}
use Rattle.layout.specs.Layout.{zones_end}
use Rattle.branch_candidates.specs.Sifted.{Sifted}
use Rattle.branch_pruning.specs.Tests.{Surpassed}
use Rattle.branch_pruning.proofs.Reaches.{reached_long}
use Rattle.branch_pruning.proofs.TwoLists.{ties_lent_lem, zones_long, ties_long, zones_back_lem, ties_back}
use Rattle.branch_pruning.proofs.sift.Goals as goal

pub slice_bounds-reached_zones-end-2 : goal.slice_bounds-reached_zones-end-2
slice_bounds-reached_zones-end-2 c = sym (length-take-le zones_end c.args.work.now (omega (arith, c.requires.0.long)))

pub slice_bounds-reached_zones-end-4 : goal.slice_bounds-reached_zones-end-4
slice_bounds-reached_zones-end-4 c = sym (zones_long c.args.to.now c.requires.2)

pub reached_zones-requires : goal.reached_zones-requires
reached_zones-requires c =
    (c.requires.0.sensible, c.requires.0.measured, c.requires.1.zones, zones_long c.args.to.now c.requires.2)

pub slice_bounds-points_above-count : goal.slice_bounds-points_above-count
slice_bounds-points_above-count c = omega (arith, reached_long c.requires.1)

pub slice_bounds-points_above-start : goal.slice_bounds-points_above-start
slice_bounds-points_above-start c = omega (arith, reached_long c.requires.1)

pub points_above-requires : goal.points_above-requires
points_above-requires c =
    let h = c.requires.0 in
    let old = subst (Sifted c.args.run.points (Surpassed c.args.d c.args.work.now c.args.b))
    (sym (ties_lent_lem c.args.from.now)) c.requires.1.ties in
    (h.sensible, h.long, h.few, h.small, old, ties_long c.args.to.now c.requires.2 c.reached_zones.ensures)

pub returns : goal.returns
returns c =
    let one = c.reached_zones.ensures in
    let two = c.points_above.ensures in
    record {
      zones = zones_back_lem c.args.to.now c.requires.2 one two;
      ties = ties_back c.args.to.now c.requires.2 one two;
    }
