-- What the loop of `store_choice` leaves to show.
use Rattle.std.proofs.Common.{arith, w8}
use Rattle.model.specs.Limits.{max_variables}
use Rattle.rows.proofs.Arrays.{array_fits}
use Rattle.rows.proofs.Packing.{values_more}
use Rattle.rows.proofs.store_choice.Goals as goal

pub loop-k-preserved : goal.loop-k-preserved
loop-k-preserved c =
    values_more c.loop-k.invariant (omega arith) c.requires
    (λ j l. array_fits w8 max_variables c.args.choice _ c.well_formed.0 _ (omega arith))
    c.from_le_bytes.result (omega (arith, c.from_le_bytes.ensures))
