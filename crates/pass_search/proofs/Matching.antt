-- The list's rows from i on, one at a time.
use mathlib.Core.Path.{◌≡◌}
use mathlib.Core.Bool.{Bool, false, ◌||◌}
use mathlib.Core.List.{List}
use Prim.Native.Nat.{ℕ, suc, ◌+◌, ◌-◌, ◌≤◌, ◌<◌}
use native.Mathlib.Omega.{arith}
use lib.ListN.{take}
use Rattle.model.specs.Limits.{max_objectives}
use Rattle.model.specs.Vectors.{at_most}
use Rattle.model.specs.Search.{matched}
use Rattle.rows.specs.Rows.{costs_in, list_in}
use Rattle.rows.proofs.RowNumbers.{costs_front}

module _ (c : List ℕ) (n : ℕ) (work : List ℕ) (k p i : ℕ) where
  -- whether a row from i on matches
  abbrev pub matched_from : Bool
  matched_from = matched (take p c) (list_in p n work i (k - i))

  pub matched_end : k ≤ i → matched_from ≡ false
  unfolding matched list_in
  matched_end l =
      let none : k - i ≡ 0 = omega arith in
      rw (none, list_in, matched)

  -- `row` and `met` are what the code reads of row i and its test
  module _ (l : i < k) (few : p ≤ max_objectives) (row : List ℕ) (read : row ≡ costs_in max_objectives work i)
      (met : Bool) (tested : met ≡ at_most (take p row) (take p c)) where
    pub matched_step : matched_from ≡ (met || matched (take p c) (list_in p n work (i + 1) (k - (i + 1))))
    unfolding matched list_in
    matched_step =
        let one : k - i ≡ suc (k - (i + 1)) = omega arith in
        rw (one, tested, read, costs_front work i p max_objectives few, list_in, matched)
