-- What follows of a plan: its records' scopes lie inside the bytes, and the bucket of each position is one of it.
use mathlib.Core.List.{List}
use Prim.Native.Nat.{ℕ, ◌<◌}
use native.Mathlib.Omega.{arith}
use lib.ListN.{length, get_or}
use Rattle.problem.proofs.Scopes.{whole_inside}
use Rattle.branch_directions.specs.declared.Directions as DD
use Rattle.branch_buckets.specs.Content.{Planned}
use Rattle.branch_buckets.specs.Sound.{Ordered, Ends}
use Rattle.branch_buckets.proofs.ContentRows.{planned_whole, planned_fewer}
use Rattle.branch_buckets.proofs.Ends.{record_limit, child_limit}
use Rattle.plan_test.specs.Marks.{Inside}
use Rattle.plan_test.specs.Parts.{BucketOf}

pub records_inside : {d : DD.Directions} {r : ℕ} {ds s plan : List ℕ} → Planned d r ds s plan → Inside s plan r
records_inside {d} {r} {ds} {s} {plan} p i l =
    whole_inside ds s (get_or plan i 0) (planned_whole p i l)

pub bucket_of :
    {d : DD.Directions} {r : ℕ} {ds s plan : List ℕ} → Planned d r ds s plan → Ordered (length ds) plan
    → Ends (length ds) r plan → (k : ℕ) → k < length ds → BucketOf d ds s plan k
bucket_of p o e k l =
    record {
      planned = planned_fewer p _ (record_limit e k (omega arith));
      variables = l;
      variable = o.variable k l;
      slots = child_limit e k (omega arith);
    }
