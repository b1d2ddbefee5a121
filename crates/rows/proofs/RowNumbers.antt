-- A row by its numbers: how many costs and values it has, and a front of them.
-- Rows that have the same numbers are the same point, so that what stands outside a row does not matter.
use mathlib.Core.Path.{◌≡◌, ap₂}
use mathlib.Core.List.{List}
use Prim.Native.Nat.{ℕ, ◌+◌, ◌*◌, ◌/◌, ◌≤◌, ◌<◌}
use native.Mathlib.Omega.{arith}
use native.Mathlib.Nat.{add_assoc}
use lib.ListN.{length, get_or, take}
use Rattle.model.specs.Limits.{word_end}
use Rattle.model.proofs.Points.{point_eq}
use Rattle.rows.specs.Rows.{row_at, cost_at, value_at, costs_in, values_in, point_in}
use Rattle.rows.proofs.Tabulated.{tabulated_length, tabulated_take, tabulated_same}

module _ (work : List ℕ) (i : ℕ) where
  pub costs_long : (p : ℕ) → length (costs_in p work i) ≡ p
  unfolding costs_in
  costs_long p = tabulated_length (λ j. cost_at work (row_at i + 2 * j)) 0 p

  pub values_long : (n : ℕ) → length (values_in n work i) ≡ n
  unfolding values_in
  values_long n = tabulated_length (value_at work (row_at i + 8)) 0 n

  -- a front of the costs and of the values
  pub costs_front : (p q : ℕ) → p ≤ q → take p (costs_in q work i) ≡ costs_in p work i
  unfolding costs_in
  costs_front p q l = tabulated_take (λ j. cost_at work (row_at i + 2 * j)) p 0 q l

  pub values_front : (n m : ℕ) → n ≤ m → take n (values_in m work i) ≡ values_in n work i
  unfolding values_in
  values_front n m l = tabulated_take (value_at work (row_at i + 8)) n 0 m l

-- the first m numbers of row i of x are those of row j of y
module _ (x y : List ℕ) (i j m : ℕ) (same : (k : ℕ) → k < m → get_or x (row_at i + k) 0 ≡ get_or y (row_at j + k) 0)
  where
    pub equal_costs : (p : ℕ) → 2 * p ≤ m → costs_in p x i ≡ costs_in p y j
    unfolding costs_in cost_at
    equal_costs p few =
        tabulated_same (λ k. cost_at x (row_at i + 2 * k)) (λ k. cost_at y (row_at j + 2 * k)) p
        (λ k l.
        ap₂ (λ (a b : ℕ). a + word_end * b) (same (2 * k) (omega arith))
        (rw (add_assoc (row_at i) (2 * k) 1, add_assoc (row_at j) (2 * k) 1) (same (2 * k + 1) (omega arith))))

    equal_values : (n : ℕ) → 8 + (n + 3) / 4 ≤ m → values_in n x i ≡ values_in n y j
    unfolding values_in value_at
    equal_values n small =
        tabulated_same (value_at x (row_at i + 8)) (value_at y (row_at j + 8)) n
        (λ v l.
        let number : get_or x (row_at i + 8 + v / 4) 0 ≡ get_or y (row_at j + 8 + v / 4) 0 =
        rw (add_assoc (row_at i) 8 (v / 4), add_assoc (row_at j) 8 (v / 4)) (same (8 + v / 4) (omega arith)) in
        rw number)

    pub equal_points : (p n : ℕ) → 2 * p ≤ m → 8 + (n + 3) / 4 ≤ m → point_in p n x i ≡ point_in p n y j
    equal_points p n few small = point_eq (equal_costs p few) (equal_values n small)
