-- What `is_alive` leaves to show: the lists as they are lent.
use Rattle.std.proofs.Common.{sym, subst, arith}
use lib.Seq.{length-take-le}
use Rattle.layout.specs.Layout.{zones_end}
use Rattle.branch_candidates.specs.Sifted.{Sifted}
use Rattle.branch_pruning.specs.Tests.{Surpassed}
use Rattle.branch_pruning.proofs.Reaches.{reached_long}
use Rattle.branch_pruning.proofs.TwoLists.{ties_lent_lem}
use Rattle.branch_pruning.proofs.is_alive.Goals as goal

pub slice_bounds-is_reached-end-2 : goal.slice_bounds-is_reached-end-2
slice_bounds-is_reached-end-2 c = sym (length-take-le zones_end c.args.work.now (omega (arith, c.requires.0.long)))

pub slice_bounds-is_tied-count : goal.slice_bounds-is_tied-count
slice_bounds-is_tied-count c = omega (arith, reached_long c.requires.2)

pub slice_bounds-is_tied-start : goal.slice_bounds-is_tied-start
slice_bounds-is_tied-start c = omega (arith, reached_long c.requires.2)

pub is_tied-requires : goal.is_tied-requires
is_tied-requires c =
    let h = c.requires.0 in
    let old = subst (Sifted c.args.run.points (Surpassed c.args.d c.args.work.now c.args.b))
    (sym (ties_lent_lem c.args.reach.now)) c.requires.2.ties in
    (h.sensible, h.long, h.few, c.requires.1, h.small, old)
