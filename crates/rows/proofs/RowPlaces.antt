-- The listed points by their rows: which row a point stands in, and the part of a row that is a point.
use mathlib.Core.Path.{◌≡◌, sym, ap, ◌∙◌}
use mathlib.Core.List.{List, [], Memᴰ as In}
use Prim.Native.Nat.{ℕ, zero, suc, ◌+◌, ◌≤◌, ◌<◌}
use native.Mathlib.Omega.{arith}
use native.Mathlib.Nat.{add-zero, zero-add}
use lib.ListN.{get_or, take}
use Rattle.model.specs.Limits.{max_objectives, max_variables}
use Rattle.model.specs.Frontiers.{Point, point}
use Rattle.model.proofs.Elements.{at_in, in_at}
use Rattle.model.proofs.Points.{point_eq}
use Rattle.rows.specs.Rows.{costs_in, point_in, list_in, row_in}
use Rattle.rows.proofs.RowParts.{rows_length}
use Rattle.rows.proofs.RowNumbers.{costs_front, values_front}

module _ (p n : ℕ) (work : List ℕ) where
  pub rows_at : (i k j : ℕ) (none : Point) → j < k → get_or (list_in p n work i k) j none ≡ point_in p n work (i + j)
  unfolding list_in
  rows_at i zero j none l = absurd (omega arith)
  rows_at i (suc k) zero none l = rw add-zero
  rows_at i (suc k) (suc j) none l =
      let e : i + 1 + j ≡ i + suc j = omega arith in
      rw e at (rows_at (i + 1) k j none (omega arith))

  pub row_listed : (k j : ℕ) → j < k → In (point_in p n work j) (list_in p n work 0 k)
  row_listed k j l =
      rw (rows_at 0 k j (point [] []) l, zero-add)
      at (at_in (list_in p n work 0 k) j (point [] []) (rw (rows_length p n work 0 k) l))

  pub listed_row : (k : ℕ) (a : Point) → In a (list_in p n work 0 k) → (j : ℕ) × (j < k) × (a ≡ point_in p n work j)
  listed_row k a m =
      let (j, l, e) = in_at (list_in p n work 0 k) (point [] []) m in
      let below : j < k = omega (arith, rows_length p n work 0 k) in
      (j, below, e ∙ rw (rows_at 0 k j (point [] []) below, zero-add))

-- equal rows have equal costs and equal points
module _ (work work' : List ℕ) (i j : ℕ) (same : row_in work' j ≡ row_in work i) where
  pub same_costs : (p : ℕ) → p ≤ max_objectives → costs_in p work' j ≡ costs_in p work i
  same_costs p few =
      sym (costs_front work' j p max_objectives few) ∙ ap (λ (t : Point). take p t.costs) same
      ∙ costs_front work i p max_objectives few

  pub same_point : (p n : ℕ) → p ≤ max_objectives → n ≤ max_variables → point_in p n work' j ≡ point_in p n work i
  same_point p n few small =
      point_eq (same_costs p few)
      (sym (values_front work' j n max_variables small) ∙ ap (λ (t : Point). take n t.choice) same
      ∙ values_front work i n max_variables small)
