-- Marks on variables, and what reads marked variables only.
use Rattle.std.specs.Prelude.{◌≡◌, List, ℕ, ◌<◌, get_or, drop}
use Rattle.model.specs.Basics.{All}
use Rattle.model.specs.Reading.{table_scope}
use Rattle.problem.specs.Records.{Headed}
use Rattle.branch_buckets.specs.Messages.{children_over}
use Rattle.branch_buckets.specs.Bounds.{places_over}
use Rattle.branch_buckets.proofs.Reading.{Reads}
use Rattle.branch_buckets.specs.declared.Span as DS

abbrev pub Marked : List ℕ → ℕ → Type 0
Marked marks v = get_or marks v 0 ≡ 1

-- the record at `at` has only variables with the property P
abbrev pub ScopeIn : (ℕ → Type 0) → List ℕ → ℕ → Type 0
ScopeIn P s at = All P (table_scope (drop at s))

-- the scopes of the first r records lie inside s
abbrev pub Inside : List ℕ → List ℕ → ℕ → Type 0
Inside s plan r = (i : ℕ) → i < r → Headed s (get_or plan i 0)

-- the records and the messages of a span read only such variables
pub record BucketIn (P : ℕ → Type 0) (s plan : List ℕ) (span : DS.Span) : Type 0 where
  pub records : All (ScopeIn P s) (places_over plan span.from span.to)
  pub children : All (Reads P plan) (children_over plan span.first span.last)
