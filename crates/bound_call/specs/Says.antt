-- What the bound call promises: for every input, what the model's definition of the call says.
use Rattle.std.specs.Prelude.{◌≡◌, List, ℕ, Result, replicate}
use Rattle.model.specs.Limits.{max_objectives}
use Rattle.model.specs.Reasons.{told, value_or}
use Rattle.model.specs.Calls.{bound_outcome}
use Rattle.model.specs.declared.Refusal.{Refusal}

-- the bound call: its verdict, and the four sums, zeros where it refuses
pub record BoundSays (problem prefix : List ℕ) (r : Result (List ℕ) Refusal) : Type 0 where
  pub verdict : told r ≡ (bound_outcome problem prefix).verdict
  pub least : value_or (replicate max_objectives 0) r ≡ (bound_outcome problem prefix).least
