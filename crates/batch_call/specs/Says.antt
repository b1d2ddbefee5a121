-- What the batch call promises: what its definition says, for every input.
use Rattle.std.specs.Prelude.{◌≡◌, List, ℕ, Result}
use Rattle.model.specs.Reasons.{told, value_or}
use Rattle.model.specs.declared.Refusal.{Refusal}
use Rattle.batch_frames.specs.Outcomes.{BatchOutcome}

pub record BatchSays (o : BatchOutcome) (costs' choices' results' work' : List ℕ) (r : Result ℕ Refusal) : Type 0 where
  pub verdict : told r ≡ o.verdict
  pub count : value_or 0 r ≡ o.count
  pub costs : costs' ≡ o.costs
  pub choices : choices' ≡ o.choices
  pub results : results' ≡ o.results
  pub work : work' ≡ o.work
