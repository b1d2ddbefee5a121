-- What `lower` leaves to show: number by number.
use Rattle.std.proofs.Common.{w64}
use Rattle.model.specs.Limits.{max_objectives}
use Rattle.rows.proofs.Arrays.{array_length}
use Rattle.branch_zones.proofs.LoweredCeilings.{lowered_listed}
use Rattle.branch_zones.proofs.lower.Goals as goal

pub returns : goal.returns
returns c =
    rw (
      c.saturating_sub.ensures,
      c.saturating_sub-2.ensures,
      c.saturating_sub-3.ensures,
      c.saturating_sub-4.ensures,
    ) (lowered_listed c.args.ceilings (array_length w64 max_objectives c.args.ceilings _ c.well_formed.0))
