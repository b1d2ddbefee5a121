-- The slots are filled with the numbers of the messages, one after the other.
use mathlib.Core.Path.{◌≡◌, refl, ◌∙◌}
use mathlib.Core.List.{List}
use Prim.Native.Nat.{ℕ, ◌+◌, ◌≤◌, ◌<◌}
use native.Mathlib.Omega.{arith}
use native.Mathlib.Nat.{add_assoc, zero-add}
use lib.ListN.{length, set, take, drop}
use Rattle.model.specs.Basics.{All}
use Rattle.model.specs.Limits.{max_tables}
use Rattle.problem.specs.Records.{Whole}
use Rattle.branch_directions.specs.declared.Directions as DD
use Rattle.groups.proofs.Overwritten.{over, over_length, over_next, over_front, over_here}
use Rattle.layout.specs.Places.{max_messages, children_at, loose_at}
use Rattle.branch_buckets.specs.Messages.{count_from}
use Rattle.branch_buckets.specs.Sound.{Rearranged}
use Rattle.branch_buckets.specs.Content.{Planned}
use Rattle.branch_buckets.proofs.Sums.{count_from_more, count_from_length}
use Rattle.plan_memory.specs.Arranged.{Arranged}

module _ (w : List ℕ) (i : ℕ) (long : loose_at ≤ length w) where
  pub filled_length : i ≤ max_messages → length (over w children_at (count_from 0 i) (children_at + i)) ≡ length w
  filled_length h =
      over_length w children_at (count_from 0 i) (children_at + i) (omega (arith, count_from_length 0 i)) (omega arith)

  pub filled_next : i < max_messages
      → set (over w children_at (count_from 0 i) (children_at + i)) (children_at + i) i
      ≡ over w children_at (count_from 0 (i + 1)) (children_at + (i + 1))
  filled_next h =
      over_next w children_at (count_from 0 i) (children_at + i) (omega (arith, count_from_length 0 i)) (omega arith)
      (omega arith) i
      ∙ rw (count_from_more 0 i, zero-add i, add_assoc children_at i 1) refl

-- what stands before the slots is kept, and they hold the numbers
module _ (w : List ℕ) (long : loose_at ≤ length w) where
  pub filled_front : (r : ℕ) → r ≤ max_tables
      → take r (over w children_at (count_from 0 max_messages) loose_at) ≡ take r w
  filled_front r few =
      over_front w children_at (count_from 0 max_messages) loose_at (omega (arith, count_from_length 0 max_messages))
      long r
      (omega arith)

  pub filled_slots :
      take max_messages (drop children_at (over w children_at (count_from 0 max_messages) loose_at))
      ≡ count_from 0 max_messages
  filled_slots =
      rw (count_from_length 0 max_messages)
      at
      (over_here w children_at (count_from 0 max_messages) loose_at
      (omega (arith, count_from_length 0 max_messages)) long)

-- a plan whose slots are filled, and what is made of it
module _ {d : DD.Directions} {r : ℕ} {ds s w b : List ℕ} (p : Planned d r ds s w)
    (e : b ≡ over w children_at (count_from 0 max_messages) loose_at) where
  front : take r b ≡ take r w
  front = rw e (filled_front w p.long r p.few)

  same : length b ≡ length w
  same = rw e (filled_length w max_messages p.long (omega arith))

  pub planned_filled : Planned d r ds s b
  planned_filled =
      record {
        sensible = p.sensible;
        small = p.small;
        variables = p.variables;
        few = p.few;
        whole = rw front p.whole;
        long = rw same p.long;
      }

  pub filled_arranged : {a : List ℕ} → Arranged r b a
      → (length a ≡ length w) × All (Whole ds s) (take r a) × Rearranged (take r w) (take r a)
      × Rearranged (count_from 0 max_messages) (take max_messages (drop children_at a))
  filled_arranged h = (
    h.long ∙ same,
    h.whole ds s planned_filled.whole,
    (λ f. rw front at (h.records f)),
    (λ f. rw (filled_slots w p.long) at (rw e at (h.slots f))),
  )
