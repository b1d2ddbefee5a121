-- What `with_costs` leaves to show: behind the costs stand zeros.
use Rattle.std.proofs.Common.{◌≡◌, length, take, ℕ, w64, arith}
use lib.Seq.{length-take-le}
use Rattle.std.proofs.lemmas.List.{drop-replicate}
use Rattle.model.specs.Limits.{max_objectives}
use Rattle.model.specs.Calls.{padded}
use Rattle.rows.proofs.Arrays.{array_length}
use Rattle.branch_directions.specs.Directions.{max_directions}
use Rattle.branch_directions.proofs.with_costs.Goals as goal

pub returns : goal.returns
unfolding padded
returns c =
    let a = c.args in
    let long = array_length w64 max_objectives a.v _ c.well_formed.0 in
    let width : length (take a.p a.v) ≡ a.p = length-take-le a.p a.v (omega (arith, long, c.requires)) in
    rw (c.copy_from_slice.ensures.after, drop-replicate {X = ℕ} a.p max_directions 0, width)
