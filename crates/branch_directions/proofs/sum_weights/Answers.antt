-- What `sum_weights` leaves to show: the weights are small, and 0 only where the share is.
use Rattle.std.proofs.Common.{[], ◌∷◌, ◌≤◌, get_or, w64, arith}
use Rattle.model.specs.Limits.{max_objectives}
use Rattle.model.proofs.Numbers.{four_each}
use Rattle.model.proofs.Elements.{front_map}
use Rattle.rows.proofs.Arrays.{array_length}
use Rattle.branch_directions.proofs.sum_weights.Goals as goal

pub returns : goal.returns
returns c =
    let long = array_length w64 max_objectives c.args.shares _ c.well_formed.0 in
    let shares = c.args.shares in
    let weights = c.weight_of.result ∷ c.weight_of-2.result ∷ c.weight_of-3.result ∷ c.weight_of-4.result ∷ [] in (
      (c.weight_of.ensures.0, (c.weight_of-2.ensures.0, (c.weight_of-3.ensures.0, (c.weight_of-4.ensures.0, tt)))),
      λ p.
          front_map (λ x. 1 ≤ x) (λ x. 1 ≤ x) 0 p shares weights (omega (arith, long)) (λ j l.
          four_each (λ k. 1 ≤ get_or shares k 0 → 1 ≤ get_or weights k 0)
          (λ h. c.weight_of.ensures.1 (c.rate_of-a.ensures h))
          (λ h. c.weight_of-2.ensures.1 (c.rate_of-b.ensures h))
          (λ h. c.weight_of-3.ensures.1 (c.rate_of-c.ensures h))
          (λ h. c.weight_of-4.ensures.1 (c.rate_of-d.ensures h))
          j (omega (arith, long))),
    )
