-- The places of accepted records: how many there are, and that each record is whole and of an objective.
use mathlib.Core.Path.{◌≡◌, refl, ap}
use mathlib.Core.List.{List}
use Prim.Native.Nat.{ℕ, zero, suc, ◌+◌, ◌<◌}
use lib.ListN.{length, drop}
use Rattle.model.specs.Basics.{All}
use Rattle.model.specs.Limits.{max_objectives}
use Rattle.model.specs.Reading.{table_length, table_of, tables_at, places_at}
use Rattle.problem.specs.Records.{Whole, AllWhole}

module _ (ds s : List ℕ) where
  pub places_count : (r at : ℕ) → length (places_at r ds s at) ≡ r
  unfolding places_at
  places_count zero at = refl
  places_count (suc r) at = ap suc (places_count r (at + table_length ds (drop at s)))

  pub places_whole : (r at : ℕ) → AllWhole r ds s at → All (Whole ds s) (places_at r ds s at)
  unfolding places_at
  places_whole zero at h = tt
  places_whole (suc r) at h = (h.0, places_whole r (at + table_length ds (drop at s)) h.1)

  pub places_owners : (r at : ℕ) → AllWhole r ds s at → All (λ t. t.objective < max_objectives) (tables_at r ds s at)
  unfolding tables_at table_of
  places_owners zero at h = tt
  places_owners (suc r) at h = (h.0.owner, places_owners r (at + table_length ds (drop at s)) h.1)
