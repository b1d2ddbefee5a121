-- What the loop of `split_all` leaves to show: the zones that one more point leaves.
use Rattle.std.proofs.Common.{sym, arith, length-take-le}
use Rattle.layout.specs.Layout.{zones_end}
use Rattle.branch_search.proofs.Zoning.{split_words, split_written, split_hold}
use Rattle.branch_search.proofs.split_all.Goals as goal

pub slice_bounds-split_zones-end-in-loop-i : goal.slice_bounds-split_zones-end-in-loop-i
slice_bounds-split_zones-end-in-loop-i c =
    sym (length-take-le zones_end c.loop-i.work (omega (arith, c.loop-i.invariant.0.long, c.requires.1)))

pub split_zones-zones-requires : goal.split_zones-zones-requires
split_zones-zones-requires c =
    let a = c.args in
    let w = c.loop-i in (
      c.requires.0,
      w.invariant.0.measured,
      split_words a.d a.c a.work.now w.work _ w.i w.zones c.requires.0 w.invariant.0 c.row_costs-costs.ensures
          c.requires.4 c.loop-i-test.true,
    )

pub loop-i-preserved : goal.loop-i-preserved
loop-i-preserved c =
    let a = c.args in
    let h = c.requires in
    let w = c.loop-i in
    let split = c.split_zones-zones in
    let says = split.ensures in (
      split_written a.d a.c a.work.now w.work split.new.zones _ w.i w.zones split.result h.0 h.1 h.2
          c.loop-i-test.true w.invariant.0 c.row_costs-costs.ensures says.0 says.1 says.2,
      λ ceilings held. split_hold a.d a.c a.work.now w.work split.new.zones _ w.i w.zones split.result h.0 h.1 h.2
          c.loop-i-test.true w.invariant.0 c.row_costs-costs.ensures says.0 says.1 says.2 ceilings
          (w.invariant.1 ceilings held),
    )
