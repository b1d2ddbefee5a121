-- Sums over few records stay below the core's limit for sums: each cost and each least entry is below that for entries.
use mathlib.Core.List.{List, [], ◌∷◌}
use Prim.Native.Nat.{ℕ, ◌≤◌, ◌<◌}
use native.Mathlib.Omega.{arith}
use lib.ListN.{length, get_or, drop, length-take}
use Rattle.model.specs.Basics.{All}
use Rattle.model.specs.Limits.{max_tables, byte_end}
use Rattle.model.specs.Core.{entry_end, core_sum_end}
use Rattle.model.specs.Problems.{Table}
use Rattle.model.specs.Costs.{cost_of, total, totals_from}
use Rattle.model.specs.Bounds.{least_of}
use Rattle.model.proofs.Core.{core_sum, core_sums}
use Rattle.costs.specs.Entries.{table_at}
use Rattle.costs.proofs.EntryLimits.{cost_small, least_small}
use Rattle.layout.specs.Layout.{records_at}
use Rattle.groups.specs.Groups.{tables_over, places_in}
use Rattle.groups.proofs.PlacedRecords.{tables_count}

module _ (ds s : List ℕ) (f : Table → ℕ) (each : (at : ℕ) → f (table_at ds s at) < entry_end) where
  all_small : (places : List ℕ) → All (λ t. f t < entry_end) (tables_over ds s places)
  unfolding tables_over
  all_small [] = tt
  all_small (at ∷ places) = (each at, all_small places)

  total_small : (o : ℕ) (places : List ℕ) → length places ≤ max_tables
      → total o f (tables_over ds s places) < core_sum_end
  total_small o places few =
      core_sum o f (tables_over ds s places) (omega (arith, tables_count ds s places)) (all_small places)

-- s has bytes only
pub costs_small : (ds s y : List ℕ) → ((i : ℕ) → get_or s i 0 < byte_end) → (p o : ℕ) (places : List ℕ)
    → length places ≤ max_tables
    → All (λ c. c < core_sum_end) (totals_from p o (cost_of ds y) (tables_over ds s places))
costs_small ds s y bytes p o places few =
    core_sums p o (cost_of ds y) (tables_over ds s places) (omega (arith, tables_count ds s places))
    (all_small ds s (cost_of ds y) (λ at. cost_small ds s at bytes y) places)

-- the records that are searched
pub total_fits : (ds s work pre : List ℕ) (r o : ℕ) → r ≤ max_tables → ((i : ℕ) → get_or s i 0 < byte_end)
    → total o (least_of ds pre) (tables_over ds s (places_in work r)) ≤ core_sum_end
total_fits ds s work pre r o few bytes =
    let places = places_in work r in
    let short : length places ≤ max_tables = omega (arith, length-take r (drop records_at work)) in
    omega (arith, total_small ds s (least_of ds pre) (λ at. least_small ds s at bytes pre) o places short)
