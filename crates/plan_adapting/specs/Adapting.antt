-- What adapting a sum asks for and leaves of a plan; the limits of weighted numbers.
use Rattle.std.specs.Prelude.{◌≡◌, List, ℕ, ◌≤◌, length, take}
use Rattle.model.specs.Basics.{All}
use Rattle.model.specs.Limits.{max_variables, max_tables, max_objectives}
use Rattle.model.specs.Problems.{DomainSize}
use Rattle.problem.specs.Records.{Whole}
use Rattle.groups.specs.declared.Task as DT
use Rattle.layout.specs.Places.{numbers_at}
use Rattle.branch_buckets.specs.Sound.{Rearranged}

-- a number of at most 2^32 times a weight, and four of these
abbrev pub max_part : ℕ
max_part = 17592186044416

abbrev pub max_sum : ℕ
max_sum = 70368744177664

-- a plan can be made, over the domain sizes ds, of the task's records, whose places are its first numbers; there are
-- objectives to add up
pub record Adaptable (t : DT.Task) (ds s plan : List ℕ) : Type 0 where
  pub small : All DomainSize ds
  pub variables : length ds ≤ max_variables
  pub few : t.records ≤ max_tables
  pub whole : All (Whole ds s) (take t.records plan)
  pub long : numbers_at ≤ length plan
  pub several : 2 ≤ t.objectives
  pub objectives : t.objectives ≤ max_objectives

-- the r records are there still, in whatever order
pub record Reordered (r : ℕ) (ds s plan plan' : List ℕ) : Type 0 where
  pub long : length plan' ≡ length plan
  pub whole : All (Whole ds s) (take r plan')
  pub records : Rearranged (take r plan) (take r plan')
