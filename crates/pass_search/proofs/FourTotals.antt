-- Sums over the records of four objectives.
use mathlib.Core.Path.{◌≡◌, refl}
use mathlib.Core.List.{List}
use Prim.Native.Nat.{ℕ}
use lib.ListN.{length, replicate}
use Rattle.model.specs.Limits.{max_objectives}
use Rattle.model.specs.Problems.{Table}
use Rattle.model.specs.Vectors.{added}
use Rattle.model.specs.Costs.{total, totals_from}
use Rattle.vectors.proofs.Fours.{listed}
use Rattle.costs.proofs.SumSteps.{added_none}

module _ (f : Table → ℕ) (ts : List Table) where
  pub totals_listed : totals_from max_objectives 0 f ts ≡ listed (λ o. total o f ts)
  unfolding totals_from
  totals_listed = refl

-- nothing added
pub added_zero : (xs : List ℕ) → length xs ≡ max_objectives → added xs (replicate max_objectives 0) ≡ xs
unfolding totals_from total
added_zero xs e = added_none (λ t. 0) max_objectives 0 xs e
