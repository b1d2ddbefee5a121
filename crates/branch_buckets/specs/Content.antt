-- What adding up a bucket asks for and ensures.
use Rattle.std.specs.Prelude.{◌≡◌, List, ℕ, ◌+◌, ◌*◌, ◌≤◌, ◌<◌, length, get_or, take, set}
use Rattle.model.specs.Basics.{All}
use Rattle.model.specs.Limits.{max_variables, max_tables}
use Rattle.model.specs.Problems.{DomainSize}
use Rattle.problem.specs.Records.{Whole}
use Rattle.branch_directions.specs.Directions.{width_of, Sensible}
use Rattle.branch_directions.specs.declared.Directions as DD
use Rattle.layout.specs.Places.{max_messages, loose_at}
use Rattle.branch_buckets.specs.Messages.{sent_over}
use Rattle.branch_buckets.specs.Bounds.{content_over}
use Rattle.branch_buckets.specs.declared.Span as DS

-- numbers in rows stay below this: a direction of costs and 120 numbers of 32 bits
abbrev pub content_end : ℕ
content_end = 4611687117939015680

-- what 120 messages stay below: each number has 32 bits
abbrev pub sent_end : ℕ
sent_end = 1099511627776

-- r accepted records in a plan, over the domain sizes ds
pub record Planned (d : DD.Directions) (r : ℕ) (ds s plan : List ℕ) : Type 0 where
  pub sensible : Sensible d
  pub small : All DomainSize ds
  pub variables : length ds ≤ max_variables
  pub few : r ≤ max_tables
  pub whole : All (Whole ds s) (take r plan)
  pub long : loose_at ≤ length plan

-- a span goes upwards, and there are such slots
pub record Ranged (span : DS.Span) : Type 0 where
  pub records : span.from ≤ span.to
  pub children : span.first ≤ span.last
  pub children_end : span.last ≤ max_messages

-- rows of eight numbers, one for each value of the variable v: what the span's records and received messages hold at
-- the choice x with that value
abbrev pub Filled :
    (d : DD.Directions) (ds s plan : List ℕ) (span : DS.Span) (v : ℕ) (x rows : List ℕ) → Type 0
Filled d ds s plan span v x rows =
    (a j : ℕ) → a < get_or ds v 0 → j < width_of d
    → (get_or rows (8 * a + j) 0 ≡ content_over d ds s plan span (set x v a) j)
    × (get_or rows (8 * a + j) 0 < content_end)

-- the messages from number `from` to below `to` at a choice, in each of w directions
abbrev pub Summed : (w : ℕ) (plan : List ℕ) (from to : ℕ) (y t : List ℕ) → Type 0
Summed w plan from to y t = (j : ℕ) → j < w → (get_or t j 0 ≡ sent_over w plan from to y j) × (get_or t j 0 < sent_end)
