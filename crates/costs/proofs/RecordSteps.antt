-- The records from a place on, one at a time.
use mathlib.Core.Path.{◌≡◌}
use mathlib.Core.List.{List, ◌∷◌}
use Prim.Native.Nat.{ℕ, zero, suc, ◌+◌, ◌-◌, ◌<◌}
use native.Mathlib.Omega.{arith}
use lib.ListN.{drop}
use Rattle.model.specs.Reading.{table_length, table_of, tables_at}
use Rattle.problem.specs.Records.{Whole, AllWhole}

pub whole_next : (r : ℕ) (ds s : List ℕ) (at : ℕ) → 0 < r → AllWhole r ds s at
    → Whole ds s at × AllWhole (r - 1) ds s (at + table_length ds (drop at s))
whole_next zero ds s at h w = absurd (omega arith)
whole_next (suc r) ds s at h w =
    let k : suc r - 1 ≡ r = omega arith in
    rw k w

pub tables_next : (r : ℕ) (ds s : List ℕ) (at : ℕ) → 0 < r
    → tables_at r ds s at ≡ table_of ds (drop at s) ∷ tables_at (r - 1) ds s (at + table_length ds (drop at s))
unfolding tables_at
tables_next zero ds s at h = absurd (omega arith)
tables_next (suc r) ds s at h =
    let k : suc r - 1 ≡ r = omega arith in
    rw k
