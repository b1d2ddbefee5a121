-- What the cached call promises: what its definition says, for every input.
use Rattle.std.specs.Prelude.{◌≡◌, List, ℕ}
use Rattle.model.specs.Reasons.{told, value_or}
use Rattle.cache_answers.specs.Outcomes.{CachedOutcome}
use Rattle.cache_answers.specs.declared.Cached as DC

pub record CachedSays (o : CachedOutcome) (costs' choices' work' store' : List ℕ) (r : DC.Cached) : Type 0 where
  pub verdict : told r.answer ≡ o.verdict
  pub count : value_or 0 r.answer ≡ o.count
  pub hit : r.hit ≡ o.hit
  pub costs : costs' ≡ o.costs
  pub choices : choices' ≡ o.choices
  pub work : work' ≡ o.work
  pub store : store' ≡ o.store
