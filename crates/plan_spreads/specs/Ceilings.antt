-- Ceilings fitted to what sums can reach.
use Rattle.std.specs.Prelude.{◌≡◌, ℕ, ◌<◌, ◌≤◌, List, length, slice_index}
use Rattle.model.specs.Limits.{max_objectives}

-- a ceiling for the same sums: of those that are at most `most` where they are below it
abbrev pub FittedTo : (ceiling most fitted : ℕ) → Type 0
FittedTo ceiling most fitted = (fitted ≤ ceiling) × ((x : ℕ) → x < ceiling → x ≤ most → x < fitted)

pub record Fitted (ceilings mosts fitted : List ℕ) : Type 0 where
  pub long : length fitted ≡ max_objectives
  pub each : (o : ℕ) → o < max_objectives
      → FittedTo (slice_index ceilings o) (slice_index mosts o) (slice_index fitted o)
