-- What writing the canonical form of a problem relies on, and what turning its records ensures.
use Rattle.std.specs.Prelude.{◌≡◌, true, List, map, ℕ, ◌≤◌, length}
use Rattle.model.specs.Basics.{All}
use Rattle.model.specs.Limits.{max_bytes, max_tables}
use Rattle.model.specs.Problems.{DomainSize, scope_rule}
use Rattle.model.specs.Encoding.{table_bytes, tables_bytes}
use Rattle.model.specs.Reading.{tables_start, tables_at, verdict_of, problem_of}
use Rattle.model.specs.declared.Header as DH
use Rattle.problem.specs.Records.{AllWhole}
use Rattle.problem.specs.Says.{start_of}
use Rattle.form_canonical.specs.Order.{ordered_by}
use Rattle.form_canonical.specs.Canonical.{turned_tables}
use Rattle.form_order.specs.Parts.{part_bytes, PartIn}

-- r whole records from `at` on, none of which names a variable twice, in bytes that are not too long
pub record Turnable (r : ℕ) (ds s : List ℕ) (at : ℕ) : Type 0 where
  pub whole : AllWhole r ds s at
  pub small : All DomainSize ds
  pub distinct : All (λ t. scope_rule (length ds) t.scope ≡ true) (tables_at r ds s at)
  pub short : length s ≤ max_bytes

-- their turned bytes, each at its part of a buffer
pub record TurnedParts (r : ℕ) (ds s : List ℕ) (at : ℕ) (turned parts : List ℕ) : Type 0 where
  pub inside : All (PartIn turned) parts
  pub bytes : map (part_bytes turned) parts ≡ map table_bytes (turned_tables ds (tables_at r ds s at))

-- their bytes in canonical form
abbrev pub form_records : ℕ → List ℕ → List ℕ → ℕ → List ℕ
form_records r ds s at = tables_bytes (ordered_by table_bytes (turned_tables ds (tables_at r ds s at)))

-- the header and the domain sizes of the problem that s holds
pub record Opened (s : List ℕ) (head : DH.Header) (sizes : List ℕ) : Type 0 where
  pub fine : (verdict_of s).number ≡ 0
  pub domains : sizes ≡ (problem_of s).domains
  pub tables : tables_at head.tables sizes s (start_of head) ≡ (problem_of s).tables
  pub few : head.tables ≤ max_tables
  pub begins : start_of head ≡ tables_start s
  pub turnable : Turnable head.tables sizes s (start_of head)
