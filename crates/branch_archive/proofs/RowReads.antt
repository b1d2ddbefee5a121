-- What is read of a row: its first p costs, and a test of them.
use mathlib.Core.Path.{◌≡◌, sym, ap, ◌∙◌}
use mathlib.Core.Bool.{Bool}
use mathlib.Core.List.{List}
use Prim.Native.Nat.{ℕ, ◌≤◌}
use lib.ListN.{take}
use Rattle.model.specs.Limits.{max_objectives}
use Rattle.rows.specs.Rows.{costs_in}
use Rattle.rows.proofs.RowNumbers.{costs_front}

-- the first p of a row's four costs
pub front_costs : (p : ℕ) (work row : List ℕ) (i : ℕ) → p ≤ max_objectives → row ≡ costs_in max_objectives work i
    → take p row ≡ costs_in p work i
front_costs p work row i few e = rw e (costs_front work i p max_objectives few)

-- a test of them, as the code makes it
pub row_test : (p : ℕ) (work : List ℕ) (i : ℕ) (row : List ℕ) → p ≤ max_objectives
    → row ≡ costs_in max_objectives work i
    → (test : List ℕ → Bool) (met t : Bool) → met ≡ t → met ≡ test (take p row) → test (costs_in p work i) ≡ t
row_test p work i row few read test met t is says = sym (ap test (front_costs p work row i few read)) ∙ sym says ∙ is
