-- What the loop of `is_reached` leaves to show: no candidate is reached, so none of the zones is.
use Rattle.std.proofs.Common.{w64, arith}
use Rattle.rows.proofs.Arrays.{array_length}
use Rattle.branch_candidates.proofs.Sifting.{sifted_none}
use Rattle.branch_directions.specs.Directions.{max_directions}
use Rattle.branch_zones.proofs.NotReached.{not_reached}
use Rattle.branch_zones.proofs.is_reached.Goals as goal

pub returns : goal.returns
returns c =
    let b = c.args.b in
    let least = c.clamp_bound-least in
    let full = array_length w64 max_directions b _ c.well_formed.0 in
    λ f. sifted_none c.requires.2
    (λ j l. not_reached c.requires.0 c.requires.1 b least.result full least.ensures.0 least.ensures.1 least.ensures.2 _
    (c.requires.2.inside j l) (c.loop-j.invariant j (omega arith)))
