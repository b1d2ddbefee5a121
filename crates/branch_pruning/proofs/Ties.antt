-- When no completion of a partial choice takes the place of an archived point: by a cost, by the choice, or by a sum.
use mathlib.Core.Path.{◌≡◌, ◌∙◌}
use mathlib.Core.Logic.{inl, inr}
use mathlib.Core.Bool.{false, ◌&&◌}
use mathlib.Core.List.{List}
use Prim.Native.Nat.{ℕ, ◌≤◌}
use lib.ListN.{length, take, drop}
use Rattle.model.specs.Vectors.{at_most}
use Rattle.model.proofs.Bits.{true_false, and-false}
use Rattle.rows.specs.Rows.{costs_in}
use Rattle.rows.proofs.RowNumbers.{costs_long}
use Rattle.branch_directions.specs.Directions.{sums_from, directions_of, width_of}
use Rattle.branch_directions.specs.declared.Directions as DD
use Rattle.branch_directions.proofs.DirectionLaws.{directions_parts}
use Rattle.branch_pruning.specs.Tests.{Untied, Surpassed}

module _ (d : DD.Directions) (work b : List ℕ) (i : ℕ) (long : d.objectives ≤ length b) where
  abbrev costs : List ℕ
  costs = costs_in d.objectives work i

  parts :
      at_most (take (width_of d) b) (directions_of d costs)
      ≡ (at_most (take d.objectives b) costs
      && at_most (take d.sums (drop d.objectives b)) (sums_from d d.sums 0 costs))
  parts = directions_parts d b costs long (costs_long work i d.objectives)

  pub surpassed_costs : at_most (take d.objectives b) (costs_in d.objectives work i) ≡ false → Surpassed d work b i
  surpassed_costs f = parts ∙ and-false (at_most (take d.objectives b) costs) _ (inl f)

  pub surpassed_sums :
      at_most (take d.sums (drop d.objectives b)) (sums_from d d.sums 0 (costs_in d.objectives work i)) ≡ false
      → Surpassed d work b i
  surpassed_sums f = parts ∙ and-false (at_most (take d.objectives b) costs) _ (inr f)

-- costs that are below the bound are not those of a completion
pub untied : (d : DD.Directions) (n : ℕ) (work x b : List ℕ) (i : ℕ) → Surpassed d work b i → Untied d n work x b i
untied d n work x b i f t = absurd (true_false t f)
