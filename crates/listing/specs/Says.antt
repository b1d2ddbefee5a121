-- What finding the list of a problem relies on and ensures.
use Rattle.std.specs.Prelude.{◌≡◌, ℕ, ◌≤◌, true, false, List, length, take, Option, Some, None}
use Rattle.model.specs.Basics.{All, pick}
use Rattle.model.specs.Limits.{max_bytes, max_objectives, max_points, max_tables, max_variables}
use Rattle.model.specs.Problems.{Problem, DomainSize}
use Rattle.model.specs.Reading.{tables_at}
use Rattle.model.specs.Core.{WordCeiling}
use Rattle.problem.specs.declared.Problem as DQ
use Rattle.problem.specs.Records.{Whole, AllWhole}
use Rattle.problem.specs.Says.{Reads}
use Rattle.layout.specs.Layout.{search_end}
use Rattle.groups.specs.Sources.{source_in, source_problem, Source}
use Rattle.groups.specs.declared.Task as DT
use Rattle.pass_list.specs.Says.{CoreFound}
use Rattle.branch_directions.specs.declared.Directions as DD
use Rattle.branch_buckets.specs.Content.{Planned}
use Rattle.branch_buckets.specs.Sound.{Sound}
use Rattle.branch_search.specs.States.{plan_in, Between}
use Rattle.branch_search.specs.declared.Explored as DE

-- the problem of r accepted records from `at` on
abbrev pub problem_at : (p : ℕ) (ceilings ds s : List ℕ) (at r : ℕ) → Problem
problem_at p ceilings ds s at r =
    record { objectives = p; ceilings = take p ceilings; domains = ds; tables = tables_at r ds s at }

-- what is asked for: a problem that was read, and work memory
pub record Searchable (s : List ℕ) (q : DQ.Problem) (work : List ℕ) : Type 0 where
  pub read : Reads s q
  pub memory : search_end ≤ length work

-- which are accepted records
pub record Accepted (p r at : ℕ) (ds s work : List ℕ) : Type 0 where
  pub whole : AllWhole r ds s at
  pub small : All DomainSize ds
  pub variables : length ds ≤ max_variables
  pub objectives : p ≤ max_objectives
  pub tables : r ≤ max_tables
  pub bytes : length s ≤ max_bytes
  pub memory : search_end ≤ length work

-- r accepted records in work memory, for a plan
pub record Plannable (r : ℕ) (ds s work : List ℕ) : Type 0 where
  pub whole : All (Whole ds s) (source_in work r)
  pub few : r ≤ max_tables
  pub small : All DomainSize ds
  pub variables : length ds ≤ max_variables
  pub long : search_end ≤ length work

-- what stays while a plan is made and searched: the problem's records
pub record Kept (r : ℕ) (work work' : List ℕ) : Type 0 where
  pub long : length work' ≡ length work
  pub source : source_in work' r ≡ source_in work r

-- what the second form can search: something to choose, costs to compare, and ceilings that fit it
pub record Explorable (task : DT.Task) (ds s work : List ℕ) : Type 0 where
  pub source : Source task ds s work
  pub some_variable : 1 ≤ length ds
  pub some_objective : 1 ≤ task.objectives
  pub short : All WordCeiling task.ceilings
  pub room_small : task.room ≤ max_points

-- a plan is made, and it passed the test or not
pub record PlanSays (d : DD.Directions) (r : ℕ) (ds s work work' : List ℕ) : Type 0 where
  pub planned : Planned d r ds s (plan_in work')
  pub sound : Sound d r ds s (source_in work' r) (plan_in work')

-- what the second form found where it is decided, as a finding of the first
abbrev pub found_of : DE.Explored → Option ℕ
found_of e = pick e.full None (Some e.count)

-- what turns of the second form leave: the list, or an archive from which the next may go on
pub record Turned (task : DT.Task) (ds s work work' : List ℕ) (e : DE.Explored) : Type 0 where
  pub kept : Kept task.records work work'
  pub found :
      e.decided ≡ true → CoreFound (source_problem task ds s work) task.room work work' (found_of e)
  pub between : e.decided ≡ false → Between (source_problem task ds s work) task.room work' e.count

-- what the second form leaves: the list where it is decided, and the problem's records
pub record Ended (task : DT.Task) (ds s work work' : List ℕ) (e : DE.Explored) : Type 0 where
  pub kept : Kept task.records work work'
  pub found :
      e.decided ≡ true → CoreFound (source_problem task ds s work) task.room work work' (found_of e)
