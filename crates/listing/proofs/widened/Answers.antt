-- What `widened` leaves to show: four ceilings, one by one.
use Rattle.std.proofs.Common.{w32}
use Rattle.model.specs.Limits.{max_objectives}
use Rattle.rows.proofs.Arrays.{array_length}
use Rattle.listing.proofs.FourCeilings.{four_core}
use Rattle.listing.proofs.widened.Goals as goal

pub returns : goal.returns
returns c =
    let long = array_length w32 max_objectives c.args.ceilings _ c.well_formed.0 in
    four_core c.args.ceilings long _ _ _ _ c.wide.ensures c.wide-2.ensures c.wide-3.ensures c.wide-4.ensures
