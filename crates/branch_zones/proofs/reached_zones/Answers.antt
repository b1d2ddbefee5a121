-- What the loop of `reached_zones` leaves to show: all candidates were looked at.
use Rattle.std.proofs.Common.{◌≡◌, w64, arith}
use Rattle.rows.proofs.Arrays.{array_length}
use Rattle.branch_candidates.specs.Sifted.{count_in}
use Rattle.branch_candidates.proofs.Sifting.{sifting_end}
use Rattle.branch_directions.specs.Directions.{max_directions}
use Rattle.branch_zones.proofs.NotReached.{not_reached}
use Rattle.branch_zones.proofs.reached_zones.Goals as goal

pub returns : goal.returns
returns c =
    let b = c.args.b in
    let least = c.clamp_bound-least in
    let full = array_length w64 max_directions b _ c.well_formed.0 in
    let all : c.loop-j.j ≡ count_in c.args.from.now = omega arith in
    sifting_end c.requires.2
    (not_reached c.requires.0 c.requires.1 b least.result full least.ensures.0 least.ensures.1 least.ensures.2)
    (rw all at c.loop-j.invariant)
