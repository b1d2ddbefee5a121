-- Tables with four numbers in a row: what a row has, and a table with a row written anew.
use mathlib.Core.Path.{◌≡◌, ap}
use mathlib.Core.Logic.{⊎_elim}
use mathlib.Core.Bool.{true, false}
use mathlib.Core.List.{List, ◌++◌}
use Prim.Native.Nat.{ℕ, ◌+◌, ◌-◌, ◌*◌, ◌≤◌, ◌<◌}
use native.Mathlib.Omega.{arith}
use lib.Dec.{ltb}
use lib.ListN.{length, take, drop, length-append, length-drop}
use lib.Seq.{take-append-le, take-take, length-take-le}
use borrow.Rule.Slice.PartMut.{put_mid, Post-is}
use borrow.Author.Tests.{ltb-true, ltb-false}
use Rattle.model.specs.Basics.{All}
use Rattle.model.proofs.Bits.{test}
use Rattle.model.proofs.Elements.{all_take, all_drop, all_append}

-- a row has what the table has
module _ (P : ℕ → Type 0) (table row : List ℕ) (i : ℕ) (is : row ≡ take 4 (drop (4 * i) table)) where
  pub row_all : All P table → All P row
  row_all h = rw is (all_take P 4 (drop (4 * i) table) (all_drop P (4 * i) table h))

-- row i written anew
abbrev pub with_row : List ℕ → ℕ → List ℕ → List ℕ
with_row table i row = take (4 * i) table ++ (row ++ drop (4 * i + 4) table)

module _ (table row : List ℕ) (i : ℕ) where
  -- as the code writes it
  pub put_row : put_mid (4 * i) (4 * i + 4 - 4 * i) table row ≡ with_row table i row
  put_row = ap (λ (r : List ℕ). take (4 * i) table ++ (row ++ r)) (Post-is (4 * i) (4 * i + 4) table (omega arith))

  pub with_row_long : length row ≡ 4 → length table ≡ 16 → i < 4 → length (with_row table i row) ≡ 16
  with_row_long m n o =
      simp (length-append, length-drop) (omega (arith, length-take-le (4 * i) table (omega arith)))

module _ (P : ℕ → Type 0) (table row : List ℕ) (i : ℕ) where
  pub with_row_all : All P table → All P row → All P (with_row table i row)
  with_row_all h k =
      all_append P (take (4 * i) table) (row ++ drop (4 * i + 4) table) (all_take P (4 * i) table h)
      (all_append P row (drop (4 * i + 4) table) k (all_drop P (4 * i + 4) table h))

  -- the first row is the new one, or stays
  pub with_row_first : (p : ℕ) → p ≤ 4 → length row ≡ 4 → length table ≡ 16 → i < 4 → (1 ≤ i → All P (take p table))
      → (i ≡ 0 → All P (take p row)) → All P (take p (with_row table i row))
  with_row_first p l m n o h k = ⊎_elim later first (test (ltb 0 i))
    where
      first : ltb 0 i ≡ false → All P (take p (with_row table i row))
      first t =
          let zeroth : i ≡ 0 = omega (arith, ltb-false 0 i t) in
          rw (zeroth, take-append-le p row (drop (4 * 0 + 4) table) (omega arith)) (k zeroth)

      later : ltb 0 i ≡ true → All P (take p (with_row table i row))
      later t =
          let some : 1 ≤ i = ltb-true 0 i t in
          let front : length (take (4 * i) table) ≡ 4 * i = length-take-le (4 * i) table (omega arith) in
          rw (
            take-append-le p (take (4 * i) table) (row ++ drop (4 * i + 4) table) (omega arith),
            take-take p (4 * i) table (omega arith),
          ) (h some)
