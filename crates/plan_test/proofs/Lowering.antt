-- Lowering what is left over, number by number and row by row: each number and what is left are at most what was there.
use mathlib.Core.Path.{◌≡◌}
use mathlib.Core.List.{List}
use Prim.Native.Nat.{ℕ, ◌*◌, ◌≤◌, ◌<◌}
use lib.ListN.{length}
use Rattle.plan_test.specs.Parts.{Lowered, RowLeft}

-- the first j numbers of a row are done
pub record RowSteps (w at : ℕ) (number rest rows before : List ℕ) (j : ℕ) (left : List ℕ) : Type 0 where
  pub few : j ≤ w
  pub long : length left ≡ length before
  pub lowered : Lowered before left
  pub done : RowLeft j at number rest rows left

-- the rows of the first a values are done
pub record RowsSteps (w size : ℕ) (number rest rows before : List ℕ) (a : ℕ) (left : List ℕ) : Type 0 where
  pub few : a ≤ size
  pub long : length left ≡ length before
  pub lowered : Lowered before left
  pub done : (b : ℕ) → b < a → RowLeft w (8 * b) number rest rows left
