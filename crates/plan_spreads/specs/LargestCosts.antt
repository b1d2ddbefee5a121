-- The largest entry below a ceiling, and what choices under a ceiling cost at most.
use Rattle.std.specs.Prelude.{◌≡◌, ℕ, ◌<◌, ◌≤◌, max, List, [], ◌∷◌, length, nat_lt, slice_index}
use Rattle.model.specs.Basics.{when}
use Rattle.model.specs.Limits.{max_objectives}
use Rattle.model.specs.Problems.{Table}
use Rattle.model.specs.Costs.{cost_of, total}
use Rattle.groups.specs.Groups.{tables_over}

-- the largest of the numbers below c; 0 where none is
unfoldable pub largest_under : ℕ → List ℕ → ℕ
largest_under c [] = 0
largest_under c (x ∷ xs) = max (when (nat_lt x c) x) (largest_under c xs)

-- the largest entry of a table below its objective's ceiling
abbrev pub largest_of : List ℕ → Table → ℕ
largest_of ceilings t = largest_under (slice_index ceilings t.objective) t.costs

-- `mosts` limits the costs over the records at some places: no sum below its ceiling is larger
pub record Reaches (ds s places ceilings mosts : List ℕ) : Type 0 where
  pub four : length mosts ≡ max_objectives
  pub most : (o : ℕ) (x : List ℕ) → o < max_objectives
      → total o (cost_of ds x) (tables_over ds s places) < slice_index ceilings o
      → total o (cost_of ds x) (tables_over ds s places) ≤ slice_index mosts o
