-- What `full_reach` leaves to show: two lists, one after the other.
use Rattle.std.proofs.Common.{sym}
use Rattle.branch_pruning.proofs.TwoLists.{zones_long, zones_back_lem, ties_back}
use Rattle.branch_pruning.proofs.full_reach.Goals as goal

pub slice_bounds-all_rows-end-2 : goal.slice_bounds-all_rows-end-2
slice_bounds-all_rows-end-2 c = sym (zones_long c.args.to.now c.requires.2)

pub all_rows-requires : goal.all_rows-requires
all_rows-requires c = (c.requires.0, zones_long c.args.to.now c.requires.2)

pub returns : goal.returns
returns c =
    let one = c.all_rows.ensures in
    let two = c.all_rows-2.ensures in
    record {
      zones = zones_back_lem c.args.to.now c.requires.2 one two;
      ties = ties_back c.args.to.now c.requires.2 one two;
    }
