-- Runs of entries in even steps: the least number in them, and what finding those that agree with a prefix ensures.
use Rattle.std.specs.Prelude.{◌≡◌, List, ℕ, ◌+◌, ◌-◌, ◌*◌, ◌≤◌}
use Rattle.model.specs.Bounds.{least_to, least_from}
use Rattle.costs.specs.Entries.{number_at, scope_at, entries_at}
use Rattle.costs.specs.declared.Runs as DU

-- the least number of the record at `at` in each row, over all rows
abbrev pub least_in : List ℕ → List ℕ → ℕ → DU.Runs → ℕ
least_in ds s at r =
    least_to (r.rows - 1)
    (λ i. least_to (r.count - 1) (λ a. number_at ds s at (r.first + i * r.stride + a)))

-- there are entries in the runs, and they lie in the table of the record at `at`
pub record RunsFit (ds s : List ℕ) (at : ℕ) (r : DU.Runs) : Type 0 where
  pub some : 1 ≤ r.count
  pub row : 1 ≤ r.rows
  pub inside : r.first + (r.rows - 1) * r.stride + r.count ≤ entries_at ds s at

-- and the least of them is the least that agrees with the prefix
pub record RunsSay (ds pre s : List ℕ) (at : ℕ) (r : DU.Runs) : Type 0 where
  pub fit : RunsFit ds s at r
  pub least : least_in ds s at r ≡ least_from ds pre (number_at ds s at) 0 (scope_at s at)
