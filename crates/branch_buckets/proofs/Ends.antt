-- The ends of every position lie inside their limits.
use mathlib.Core.List.{List}
use Prim.Native.Nat.{ℕ, ◌≤◌, ◌<◌}
use native.Mathlib.Omega.{arith}
use Rattle.model.proofs.Numbers.{largest_first}
use Rattle.layout.specs.Places.{max_messages, record_end, child_end, message_end}
use Rattle.branch_buckets.specs.Bounds.{span_at}
use Rattle.branch_buckets.specs.Content.{Ranged}
use Rattle.branch_buckets.specs.Sound.{Ends}

module _ {n r : ℕ} {plan : List ℕ} (e : Ends n r plan) (k : ℕ) where
  pub record_limit : k ≤ n → record_end plan k ≤ r
  record_limit l = omega (arith, largest_first (record_end plan) n e.records k l, e.records_first)

  pub child_limit : k ≤ n → child_end plan k ≤ max_messages
  child_limit l = omega (arith, largest_first (child_end plan) n e.children k l, e.children_first)

  pub message_limit : k ≤ n → message_end plan k ≤ max_messages
  message_limit l = omega (arith, largest_first (message_end plan) n e.messages k l, e.messages_first)

  -- a bucket goes upwards
  pub bucket_ranged : k < n → Ranged (span_at plan k)
  bucket_ranged l =
      record { records = e.records k l; children = e.children k l; children_end = child_limit (omega arith) }
