-- A run of cached calls by what each of them promises: the store that one leaves is lent to the next.
use Rattle.std.specs.Prelude.{List, [], ◌∷◌, ℕ}
use Rattle.model.specs.Basics.{when}
use Rattle.cache_answers.specs.Outcomes.{cached_outcome}
use Rattle.cache_answers.specs.Runs.{Call, Told}
use Rattle.frontier.specs.Says.{CachedExports}

-- the calls, and what each has told and left
pub data Ran : List ℕ → List Call → List Told → Type 0 where
  none : {store : List ℕ} → Ran store [] []
  next : {store store' : List ℕ} {c : Call} {t : Told} {cs : List Call} {ts : List Told}
      → CachedExports c.problem (cached_outcome c.problem c.costs c.choices c.work store)
      t.costs t.choices t.work store' t.verdict.number t.verdict.place t.count (when t.hit 1)
      → Ran store' cs ts → Ran store (c ∷ cs) (t ∷ ts)
