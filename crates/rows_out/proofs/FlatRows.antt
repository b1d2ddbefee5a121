-- The costs and the values of the listed points as the flat buffers take them: those of each row, one after another.
use mathlib.Core.Path.{◌≡◌, refl, ap}
use mathlib.Core.List.{List, ◌++◌}
use Prim.Native.Nat.{ℕ, zero, suc, ◌+◌}
use Rattle.model.specs.Calls.{flat_costs, flat_choices}
use Rattle.rows.specs.Rows.{costs_in, values_in, list_in}
use Rattle.rows_out.proofs.RowsOut.{joined}

module _ (p n : ℕ) (work : List ℕ) where
  pub flat_costs_lem : (i k : ℕ) → flat_costs (list_in p n work i k) ≡ joined (costs_in p work) i k
  unfolding flat_costs list_in joined
  flat_costs_lem i zero = refl
  flat_costs_lem i (suc k) = ap (◌++◌ (costs_in p work i)) (flat_costs_lem (i + 1) k)

  pub flat_choices_lem : (i k : ℕ) → flat_choices (list_in p n work i k) ≡ joined (values_in n work) i k
  unfolding flat_choices list_in joined
  flat_choices_lem i zero = refl
  flat_choices_lem i (suc k) = ap (◌++◌ (values_in n work i)) (flat_choices_lem (i + 1) k)
