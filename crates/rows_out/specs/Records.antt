-- Points as records, and what copying them out of work memory asks.
use Rattle.std.specs.Prelude.{List, [], ◌∷◌, ℕ, ◌≤◌, ◌<◌, length}
use Rattle.model.specs.Basics.{All}
use Rattle.model.specs.Limits.{max_objectives, max_variables, max_points}
use Rattle.model.specs.Problems.{Word}
use Rattle.model.specs.Frontiers.{Point}
use Rattle.model.specs.Calls.{padded}
use Rattle.model.specs.declared.Point as DP
use Rattle.layout.specs.Layout.{list_end}
use Rattle.rows.specs.Rows.{list_in}

-- a point as a record of four costs and 24 choices, the unused ones zero
abbrev pub record_of : Point → DP.Point
record_of t = record { costs = padded max_objectives t.costs; choice = padded max_variables t.choice }

unfoldable pub records_of : List Point → List DP.Point
records_of [] = []
records_of (t ∷ ts) = record_of t ∷ records_of ts

-- a point whose costs leave as 32-bit numbers
abbrev pub WordCosts : Point → Type 0
WordCosts t = All Word t.costs

-- what copying k rows out as records asks of work memory
pub record RowsHold (p n k : ℕ) (work : List ℕ) : Type 0 where
  pub objectives : p ≤ max_objectives
  pub variables : n ≤ max_variables
  pub few : k ≤ max_points
  pub memory : 0 < k → list_end ≤ length work
  pub words : All WordCosts (list_in p n work 0 k)
