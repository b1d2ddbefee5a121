-- A record's table by the place where the record starts, as the core has it.
use Rattle.std.specs.Prelude.{ℕ, List, get_or, drop}
use Rattle.model.specs.Problems.{Table, size_of}
use Rattle.model.specs.Reading.{table_scope, table_of}
use Rattle.model.specs.Core.{core_table}

-- the table of the record at `at`, its entry i, and how many entries it has
abbrev pub table_at : List ℕ → List ℕ → ℕ → Table
table_at ds s at = core_table (table_of ds (drop at s))

abbrev pub entry_at : List ℕ → List ℕ → ℕ → ℕ → ℕ
entry_at ds s at i = get_or (table_at ds s at).costs i 0

-- the number that stands in the table as entry i, before it is weighed
abbrev pub number_at : List ℕ → List ℕ → ℕ → ℕ → ℕ
number_at ds s at i = get_or (table_of ds (drop at s)).costs i 0

abbrev pub scope_at : List ℕ → ℕ → List ℕ
scope_at s at = table_scope (drop at s)

-- number k of its scope's variables
abbrev pub variable_at : List ℕ → ℕ → ℕ → ℕ
variable_at s at k = get_or (scope_at s at) k 0

abbrev pub entries_at : List ℕ → List ℕ → ℕ → ℕ
entries_at ds s at = size_of ds (scope_at s at)
