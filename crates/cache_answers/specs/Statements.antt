-- The promises about the cached call as statements over the definitions. proofs/Statements.antt proves them.
use Rattle.std.specs.Prelude.{◌≡◌, ◌⊎◌, false, List, [], ℕ, ◌/◌, ◌≤◌, min, length, replicate}
use Rattle.model.specs.Basics.{All}
use Rattle.model.specs.Refusals.{work_short, full}
use Rattle.model.specs.Encoding.{Byte}
use Rattle.cache_answers.specs.Stores.{slot_size, max_slots}
use Rattle.cache_answers.specs.Outcomes.{store_short, cached_outcome, early_verdict}
use Rattle.cache_answers.specs.Runs.{Call, cached_run, fresh_run}

pub record CacheLaws : Type 0 where
  -- from a cleared store any run of calls answers as fresh solves would, and tells the hits
  pub run : (n : ℕ) (calls : List Call) → slot_size ≤ n → All (λ c. All Byte c.problem) calls
      → cached_run (replicate n 0) calls ≡ fresh_run (min (n / slot_size) max_slots) [] calls
  -- a refusal before a look into the store leaves the store and tells no hit
  pub unasked : (s costs choices work store : List ℕ) → ((early_verdict s work store).number ≡ 0 → ⊥)
      → ((cached_outcome s costs choices work store).store ≡ store)
      × ((cached_outcome s costs choices work store).hit ≡ false)
  -- whatever a store holds, it keeps its length, and the numbers are 0, 1 to 12, 15 and 20
  pub kept : (s costs choices work store : List ℕ) → All Byte s
      → length (cached_outcome s costs choices work store).store ≡ length store
  pub numbers : (s costs choices work store : List ℕ)
      → let n = (cached_outcome s costs choices work store).verdict.number in
      (n ≤ work_short) ⊎ ((n ≡ full) ⊎ (n ≡ store_short))
