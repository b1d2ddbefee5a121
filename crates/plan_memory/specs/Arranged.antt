-- What making a plan ensures: the records and the slots are rearranged, and nothing is lost. All else is free.
use Rattle.std.specs.Prelude.{◌≡◌, List, ℕ, length, take, drop}
use Rattle.model.specs.Basics.{All}
use Rattle.problem.specs.Records.{Whole}
use Rattle.layout.specs.Places.{max_messages, children_at, loose_at}
use Rattle.branch_buckets.specs.Sound.{Rearranged}

-- only what is written anew may have changed
pub record Loose (plan plan' : List ℕ) : Type 0 where
  pub long : length plan' ≡ length plan
  pub front : take loose_at plan' ≡ take loose_at plan

-- of the first r numbers and of the slots the order may have changed too
pub record Arranged (r : ℕ) (plan plan' : List ℕ) : Type 0 where
  pub long : length plan' ≡ length plan
  pub whole : (ds s : List ℕ) → All (Whole ds s) (take r plan) → All (Whole ds s) (take r plan')
  pub records : Rearranged (take r plan) (take r plan')
  pub slots : Rearranged (take max_messages (drop children_at plan)) (take max_messages (drop children_at plan'))
