-- What a call that converts promises: what its definition says, for every input.
use Rattle.std.specs.Prelude.{◌≡◌, List, ℕ, Result}
use Rattle.model.specs.Reasons.{told, value_or}
use Rattle.model.specs.declared.Refusal.{Refusal}
use Rattle.text_networks.specs.Conversions.{ConvertOutcome}

-- its verdict, and how many bytes are written
pub record ConvertSays (o : ConvertOutcome) (output' : List ℕ) (r : Result ℕ Refusal) : Type 0 where
  pub verdict : told r ≡ o.verdict
  pub count : value_or 0 r ≡ o.count
  pub output : output' ≡ o.output
