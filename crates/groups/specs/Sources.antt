-- A problem of the core by the places of its records in work memory: what both forms of the search start from.
use Rattle.std.specs.Prelude.{List, ℕ, ◌≤◌, length, take, drop}
use Rattle.model.specs.Basics.{All}
use Rattle.model.specs.Limits.{max_objectives, max_tables, max_variables}
use Rattle.model.specs.Problems.{Problem, DomainSize}
use Rattle.problem.specs.Records.{Whole}
use Rattle.layout.specs.Layout.{source_at, search_end}
use Rattle.groups.specs.Groups.{tables_over}
use Rattle.groups.specs.declared.Task as DT

-- the places of a problem's r records in work memory, and the problem that a task makes of them
abbrev pub source_in : List ℕ → ℕ → List ℕ
source_in work r = take r (drop source_at work)

abbrev pub source_problem : DT.Task → List ℕ → List ℕ → List ℕ → Problem
source_problem task ds s work =
    record {
      objectives = task.objectives;
      ceilings = take task.objectives task.ceilings;
      domains = ds;
      tables = tables_over ds s (source_in work task.records);
    }

-- a task's accepted records in work memory, over the domain sizes ds
pub record Source (task : DT.Task) (ds s work : List ℕ) : Type 0 where
  pub whole : All (Whole ds s) (source_in work task.records)
  pub few : task.records ≤ max_tables
  pub small : All DomainSize ds
  pub variables : length ds ≤ max_variables
  pub objectives : task.objectives ≤ max_objectives
  pub long : search_end ≤ length work
