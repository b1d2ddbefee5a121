-- What a caller may rely on of records that were accepted.
use Rattle.std.specs.Prelude.{ℕ, zero, suc, ◌+◌, ◌≤◌, ◌<◌, List, length, drop}
use Rattle.model.specs.Limits.{max_arity, max_objectives}
use Rattle.model.specs.Problems.{InRange}
use Rattle.model.specs.Reading.{table_objective, table_arity, table_scope, table_length}

-- the head of the record at `at`, its fields and its scope, lies in the bytes
abbrev pub Headed : List ℕ → ℕ → Type 0
Headed s at = at + 4 + table_arity (drop at s) ≤ length s

-- the record at `at` is whole, and its objective and its scope's variables exist
pub record Whole (ds s : List ℕ) (at : ℕ) : Type 0 where
  pub owner : table_objective (drop at s) < max_objectives
  pub few : table_arity (drop at s) ≤ max_arity
  pub range : InRange (length ds) (table_scope (drop at s))
  pub long : at + table_length ds (drop at s) ≤ length s

-- r records from `at` on are whole
abbrev pub AllWhole : ℕ → List ℕ → List ℕ → ℕ → Type 0
AllWhole zero ds s at = at ≤ length s
AllWhole (suc r) ds s at = Whole ds s at × AllWhole r ds s (at + table_length ds (drop at s))
