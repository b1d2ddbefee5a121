-- The rows of the list: how many, one more, and what each has of what all have.
use mathlib.Core.Path.{◌≡◌, refl, ap}
use mathlib.Core.List.{List, [], ◌∷◌, ◌++◌}
use Prim.Native.Nat.{ℕ, zero, suc, ◌+◌, ◌<◌}
use native.Mathlib.Omega.{arith}
use native.Mathlib.Nat.{add-zero}
use lib.ListN.{length}
use Rattle.model.specs.Basics.{All}
use Rattle.model.specs.Frontiers.{Point}
use Rattle.rows.specs.Rows.{point_in, list_in}

module _ (p n : ℕ) (work : List ℕ) where
  -- how many, and one more
  pub rows_length : (i k : ℕ) → length (list_in p n work i k) ≡ k
  unfolding list_in
  rows_length i zero = refl
  rows_length i (suc k) = ap suc (rows_length (i + 1) k)

  pub rows_more : (i k : ℕ) → list_in p n work i (suc k) ≡ list_in p n work i k ++ (point_in p n work (i + k) ∷ [])
  unfolding list_in
  rows_more i zero = rw add-zero
  rows_more i (suc k) =
      let e : i + 1 + k ≡ i + suc k = omega arith in
      ap (◌∷◌ (point_in p n work i)) (rw e at (rows_more (i + 1) k))

  -- what every listed point has, each row has
  pub row_has : (P : Point → Type 0) (i k : ℕ) → All P (list_in p n work i k) → (row : ℕ) → row < k
      → P (point_in p n work (i + row))
  unfolding list_in
  row_has P i zero h row l = absurd (omega arith)
  row_has P i (suc k) h zero l = rw add-zero h.0
  row_has P i (suc k) h (suc row) l =
      let e : i + 1 + row ≡ i + suc row = omega arith in
      rw e at (row_has P (i + 1) k h.1 row (omega arith))
