-- A whole record by the places of the list that it stands in: its fields, and where it ends.
use mathlib.Core.Path.{◌≡◌}
use mathlib.Core.List.{List}
use Prim.Native.Nat.{ℕ, ◌+◌, ◌*◌, ◌≤◌}
use native.Mathlib.Omega.{arith}
use lib.ListN.{length, get_or, take, drop}
use lib.Seq.{get_or-drop, drop-drop}
use Rattle.model.specs.Limits.{max_arity}
use Rattle.model.specs.Problems.{InRange, size_of}
use Rattle.model.specs.Reading.{table_scope, table_length}
use Rattle.problem.specs.Records.{Whole}

module _ (s : List ℕ) (at : ℕ) where
  pub scope_place : table_scope (drop at s) ≡ take (get_or s (at + 3) 0) (drop (at + 4) s)
  unfolding table_scope
  scope_place = rw (get_or-drop, drop-drop)

  pub length_place : (ds : List ℕ)
      → table_length ds (drop at s) ≡ 4 + (get_or s (at + 3) 0 + 4 * size_of ds (table_scope (drop at s)))
  unfolding table_length
  length_place ds = rw get_or-drop

module _ (ds s : List ℕ) (at : ℕ) (w : Whole ds s at) where
  pub whole_few : get_or s (at + 3) 0 ≤ max_arity
  whole_few = rw get_or-drop at w.few

  pub whole_range : InRange (length ds) (take (get_or s (at + 3) 0) (drop (at + 4) s))
  whole_range = rw (scope_place s at) at w.range

  pub whole_long : at + (4 + (get_or s (at + 3) 0 + 4 * size_of ds (table_scope (drop at s)))) ≤ length s
  whole_long = omega (arith, w.long, length_place s at ds)
