-- Which records a variable touches: its group has, in order, the records whose scope has the variable.
use Rattle.std.specs.Prelude.{◌≡◌, List, [], ◌∷◌, ℕ, ◌+◌, ◌-◌, ◌≤◌, ◌<◌, length, get_or, take, drop}
use Rattle.model.specs.Basics.{All, keep_if}
use Rattle.model.specs.Limits.{max_tables, max_variables}
use Rattle.model.specs.Problems.{Table, DomainSize, has_variable}
use Rattle.model.specs.Reading.{table_scope}
use Rattle.problem.specs.Records.{Whole}
use Rattle.costs.specs.Entries.{table_at}
use Rattle.layout.specs.Layout.{groups_at, records_at, search_end}

-- the places of the records whose scope has v
unfoldable pub group_of : List ℕ → ℕ → List ℕ → List ℕ
group_of s v [] = []
group_of s v (at ∷ places) = keep_if (has_variable v (table_scope (drop at s))) at (group_of s v places)

-- the tables of the records at some places, as the core has them
unfoldable pub tables_over : List ℕ → List ℕ → List ℕ → List Table
tables_over ds s [] = []
tables_over ds s (at ∷ places) = table_at ds s at ∷ tables_over ds s places

-- the places of r records in work memory
abbrev pub places_in : List ℕ → ℕ → List ℕ
places_in work r = take r (drop records_at work)

-- r accepted records in work memory, over the domain sizes ds
pub record Placed (ds s work : List ℕ) (r : ℕ) : Type 0 where
  pub few : r ≤ max_tables
  pub small : All DomainSize ds
  pub variables : length ds ≤ max_variables
  pub long : search_end ≤ length work
  pub whole : All (Whole ds s) (places_in work r)

-- the groups of the variables are in work memory
pub record Grouped (ds s work : List ℕ) (r : ℕ) : Type 0 where
  pub placed : Placed ds s work r
  pub from : (v : ℕ) → v < length ds → groups_at ≤ get_or work v 0
  pub to : (v : ℕ) → v < length ds → get_or work v 0 ≤ get_or work (v + 1) 0
  pub end : (v : ℕ) → v < length ds → get_or work (v + 1) 0 ≤ records_at
  pub group : (v : ℕ) → v < length ds
      → take (get_or work (v + 1) 0 - get_or work v 0) (drop (get_or work v 0) work) ≡ group_of s v (places_in work r)
