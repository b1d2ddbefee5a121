-- A pair of values of a message's first two variables, with the values of the third one after the other.
use mathlib.Core.Path.{◌≡◌}
use mathlib.Core.List.{List}
use Prim.Native.Nat.{ℕ, ◌≤◌, ◌<◌}
use lib.ListN.{length}
use Rattle.branch_directions.specs.declared.Directions as DD
use Rattle.plan_test.specs.declared.Part as DP
use Rattle.plan_test.specs.Parts.{Lowered, ValuesLeave}

-- the first l values of the third variable are done
pub record PairSteps (d : DD.Directions) (ds s plan : List ℕ) (p : DP.Part) (i j size : ℕ) (before : List ℕ) (l : ℕ)
    (left : List ℕ) : Type 0 where
  pub few : l ≤ size
  pub long : length left ≡ length before
  pub lowered : Lowered before left
  pub done : (m : ℕ) → m < l → ValuesLeave d ds s plan p i j m left
