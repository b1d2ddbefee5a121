-- What the search relies on of a plan. Most of it is tested before the search (crate plan_test), so that nothing
-- depends on how the plan was made.
use Rattle.std.specs.Prelude.{◌≡◌, ◌⊎◌, true, List, ℕ, ◌+◌, ◌-◌, ◌≤◌, ◌<◌, length, take, drop}
use Rattle.model.specs.Basics.{All}
use Rattle.model.specs.Costs.{is_choice}
use Rattle.model.specs.Reading.{table_scope}
use Rattle.problem.specs.Records.{Whole}
use Rattle.branch_directions.specs.Directions.{width_of}
use Rattle.branch_directions.specs.declared.Directions as DD
use Rattle.layout.specs.Places.{max_messages, children_at, order_in, position_in}
use Rattle.layout.specs.Places.{record_end, child_end, message_end, field_in}
use Rattle.branch_buckets.specs.Messages.{sum_over, count_from, children_over}
use Rattle.branch_buckets.specs.Bounds.{places_over, content_at, sent_at}

-- message g reads only variables at positions before k: a variable with stride 0 is not read
abbrev pub ReadsBefore : List ℕ → ℕ → ℕ → Type 0
ReadsBefore plan k g =
    ((field_in plan g 2 ≡ 0) ⊎ (position_in plan (field_in plan g 1) < k))
    × ((field_in plan g 4 ≡ 0) ⊎ (position_in plan (field_in plan g 3) < k))
    × ((field_in plan g 6 ≡ 0) ⊎ (position_in plan (field_in plan g 5) < k))

-- the record at `at` has only such variables
abbrev pub ScopeBefore : List ℕ → List ℕ → ℕ → ℕ → Type 0
ScopeBefore s plan k at = All (λ v. position_in plan v < k) (table_scope (drop at s))

-- order and positions are inverse to each other
pub record Ordered (n : ℕ) (plan : List ℕ) : Type 0 where
  pub variable : (k : ℕ) → k < n → order_in plan k < n
  pub place : (k : ℕ) → k < n → position_in plan (order_in plan k) ≡ k
  pub position : (v : ℕ) → v < n → position_in plan v < n
  pub back : (v : ℕ) → v < n → order_in plan (position_in plan v) ≡ v

-- the ends fall as positions rise, to 0
pub record Ends (n r : ℕ) (plan : List ℕ) : Type 0 where
  pub records : (k : ℕ) → k < n → record_end plan (k + 1) ≤ record_end plan k
  pub children : (k : ℕ) → k < n → child_end plan (k + 1) ≤ child_end plan k
  pub messages : (k : ℕ) → k < n → message_end plan (k + 1) ≤ message_end plan k
  pub records_last : record_end plan n ≡ 0
  pub children_last : child_end plan n ≡ 0
  pub messages_last : message_end plan n ≡ 0
  pub records_first : record_end plan 0 ≤ r
  pub children_first : child_end plan 0 ≤ max_messages
  pub messages_first : message_end plan 0 ≡ max_messages

-- what stands behind the ends of position k reads only positions before k; what k sends too
pub record Early (n r : ℕ) (s plan : List ℕ) : Type 0 where
  pub records : (k : ℕ) → k ≤ n → All (ScopeBefore s plan k) (places_over plan (record_end plan k) r)
  pub children : (k : ℕ) → k ≤ n → All (ReadsBefore plan k) (children_over plan (child_end plan k) max_messages)
  pub sent : (k : ℕ) → k < n
      → All (ReadsBefore plan k) (count_from (message_end plan (k + 1)) (message_end plan k - message_end plan (k + 1)))

-- no bucket sends more than it holds
abbrev pub Holds : DD.Directions → List ℕ → List ℕ → List ℕ → Type 0
Holds d ds s plan =
    (k : ℕ) → k < length ds → (y : List ℕ) → is_choice ds y ≡ true → (j : ℕ) → j < width_of d
    → sent_at d plan k y j ≤ content_at d ds s plan k y j

-- the tested part
pub record Tested (d : DD.Directions) (r : ℕ) (ds s plan : List ℕ) : Type 0 where
  pub ordered : Ordered (length ds) plan
  pub ends : Ends (length ds) r plan
  pub early : Early (length ds) r s plan
  pub holds : Holds d ds s plan

-- two lists have the same numbers, in whatever order
abbrev pub Rearranged : List ℕ → List ℕ → Type 0
Rearranged xs ys = (f : ℕ → ℕ) → sum_over f ys ≡ sum_over f xs

-- the whole: the records are those of `source`, and each message stands in one slot
pub record Sound (d : DD.Directions) (r : ℕ) (ds s source plan : List ℕ) : Type 0 where
  pub tested : Tested d r ds s plan
  pub whole : All (Whole ds s) (take r plan)
  pub records : Rearranged source (take r plan)
  pub messages : Rearranged (count_from 0 max_messages) (take max_messages (drop children_at plan))
