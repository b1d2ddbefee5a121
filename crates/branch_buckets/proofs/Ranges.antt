-- Ranges of a plan, one number at a time: places of records, slots and messages.
use mathlib.Core.Path.{◌≡◌, refl}
use mathlib.Core.List.{List, [], ◌∷◌}
use Prim.Native.Nat.{ℕ, suc, ◌+◌, ◌-◌, ◌≤◌, ◌<◌}
use native.Mathlib.Omega.{arith}
use native.Mathlib.Numerals.{add-one}
use lib.ListN.{length, get_or}
use Rattle.model.proofs.Lists.{take_cons, part_next}
use Rattle.layout.specs.Places.{max_messages, children_at, loose_at}
use Rattle.branch_buckets.specs.Messages.{sum_over, count_from, message_at, sent_over, children_over}
use Rattle.branch_buckets.specs.Bounds.{places_over}

module _ (plan : List ℕ) (i to : ℕ) where
  pub places_next :
      i < to → to ≤ length plan → places_over plan i to ≡ get_or plan i 0 ∷ places_over plan (i + 1) to
  places_next h long = part_next 0 plan i to h long

  pub places_none : to ≤ i → places_over plan i to ≡ []
  places_none h = let none : to - i ≡ 0 = omega arith in rw none refl

  pub children_next :
      i < to → to ≤ max_messages → loose_at ≤ length plan
      → children_over plan i to ≡ get_or plan (children_at + i) 0 ∷ children_over plan (i + 1) to
  children_next h few long =
      let k : to - i - 1 ≡ to - (i + 1) = omega arith in
      let m : children_at + i + 1 ≡ children_at + (i + 1) = omega arith in
      rw (← k, ← m) (take_cons 0 (to - i) (children_at + i) plan (omega arith) (omega arith))

  pub children_none : to ≤ i → children_over plan i to ≡ []
  children_none h = let none : to - i ≡ 0 = omega arith in rw none refl

pub count_next : (i to : ℕ) → i < to → count_from i (to - i) ≡ i ∷ count_from (i + 1) (to - (i + 1))
unfolding count_from
count_next i to h =
    let k : to - i ≡ suc (to - (i + 1)) = omega arith in
    rw (k, add-one) refl

pub count_none : (i to : ℕ) → to ≤ i → count_from i (to - i) ≡ []
unfolding count_from
count_none i to h = let none : to - i ≡ 0 = omega arith in rw none refl

-- messages: one more, one alone, and none
module _ (w : ℕ) (plan : List ℕ) (i to : ℕ) (y : List ℕ) (j : ℕ) where
  pub sent_next : i < to → sent_over w plan i to y j ≡ message_at w plan y j i + sent_over w plan (i + 1) to y j
  unfolding sum_over
  sent_next h = rw (count_next i to h) refl

  pub sent_none : to ≤ i → sent_over w plan i to y j ≡ 0
  unfolding sum_over
  sent_none h = rw (count_none i to h) refl

pub sent_one :
    (w : ℕ) (plan : List ℕ) (g : ℕ) (y : List ℕ) (j : ℕ) → sent_over w plan g (g + 1) y j ≡ message_at w plan y j g
sent_one w plan g y j =
    omega (arith, sent_next w plan g (g + 1) y j (omega arith), sent_none w plan (g + 1) (g + 1) y j (omega arith))
