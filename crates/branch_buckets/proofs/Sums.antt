-- Sums over lists of numbers and over records' places; ranges of numbers, places, slots and messages that are cut in
-- two.
use mathlib.Core.Path.{◌≡◌, refl, ap, ap₂}
use mathlib.Core.List.{List, [], ◌∷◌, ◌++◌}
use Prim.Native.Nat.{ℕ, zero, suc, ◌+◌, ◌-◌, ◌≤◌}
use native.Mathlib.Nat.{zero-add, add-zero, suc-add}
use native.Mathlib.Omega.{arith}
use lib.Dec.{eqb}
use lib.ListN.{length, drop}
use lib.Seq.{take-take}
use Rattle.model.specs.Basics.{when, All}
use Rattle.model.specs.Problems.{Table}
use Rattle.model.specs.Costs.{total, totals_from}
use Rattle.model.specs.Vectors.{added}
use Rattle.model.proofs.Lists.{part_split}
use Rattle.model.proofs.Elements.{all_take}
use Rattle.costs.specs.Entries.{table_at}
use Rattle.groups.specs.Groups.{tables_over}
use Rattle.layout.specs.Places.{children_at}
use Rattle.branch_buckets.specs.Messages.{sum_over, count_from, message_at, sent_over, children_over, received_over}
use Rattle.branch_buckets.specs.Bounds.{places_over}

pub sum_over_append : (f : ℕ → ℕ) (xs ys : List ℕ) → sum_over f (xs ++ ys) ≡ sum_over f xs + sum_over f ys
unfolding sum_over
sum_over_append f [] ys = omega arith
sum_over_append f (x ∷ xs) ys = omega (arith, sum_over_append f xs ys)

pub sum_over_mono : (f g : ℕ → ℕ) (xs : List ℕ) → All (λ x. f x ≤ g x) xs → sum_over f xs ≤ sum_over g xs
unfolding sum_over
sum_over_mono f g [] h = omega arith
sum_over_mono f g (x ∷ xs) h = omega (arith, h.0, sum_over_mono f g xs h.1)

pub sum_over_equal : (f g : ℕ → ℕ) (xs : List ℕ) → All (λ x. f x ≡ g x) xs → sum_over f xs ≡ sum_over g xs
unfolding sum_over
sum_over_equal f g [] h = refl
sum_over_equal f g (x ∷ xs) h = ap₂ ◌+◌ h.0 (sum_over_equal f g xs h.1)

pub count_from_split : (i a b : ℕ) → count_from i (a + b) ≡ count_from i a ++ count_from (i + a) b
unfolding count_from
count_from_split i zero b = rw (zero-add b, add-zero i)
count_from_split i (suc a) b =
    let next : suc i + a ≡ i + suc a = omega arith in
    rw (suc-add a b, ← next) (ap (◌∷◌ i) (count_from_split (suc i) a b))

pub count_from_more : (i c : ℕ) → count_from i (c + 1) ≡ count_from i c ++ (i + c) ∷ []
unfolding count_from
count_from_more i c = count_from_split i c 1

pub count_from_length : (i c : ℕ) → length (count_from i c) ≡ c
unfolding count_from
count_from_length i zero = refl
count_from_length i (suc c) = ap suc (count_from_length (suc i) c)

pub places_over_split : (plan : List ℕ) (a b c : ℕ) → a ≤ b → b ≤ c
    → places_over plan a c ≡ places_over plan a b ++ places_over plan b c
places_over_split plan a b c g h = rw (zero-add a, zero-add b) at (part_split plan 0 a b c g h)

pub children_over_split : (plan : List ℕ) (a b c : ℕ) → a ≤ b → b ≤ c
    → children_over plan a c ≡ children_over plan a b ++ children_over plan b c
children_over_split plan a b c g h = part_split plan children_at a b c g h

-- what every place of a range has, every place of a shorter one has
pub places_over_all : (P : ℕ → Type 0) (plan : List ℕ) (a b c : ℕ) → b ≤ c → All P (places_over plan a c)
    → All P (places_over plan a b)
places_over_all P plan a b c h k =
    rw (take-take (b - a) (c - a) (drop a plan) (omega arith)) at (all_take P (b - a) (places_over plan a c) k)

pub children_over_all : (P : ℕ → Type 0) (plan : List ℕ) (a b c : ℕ) → b ≤ c → All P (children_over plan a c)
    → All P (children_over plan a b)
children_over_all P plan a b c h k =
    rw (take-take (b - a) (c - a) (drop (children_at + a) plan) (omega arith))
    at (all_take P (b - a) (children_over plan a c) k)

-- messages that are sent, and those that are received
module _ (w : ℕ) (plan : List ℕ) (a b c : ℕ) (g : a ≤ b) (h : b ≤ c) (y : List ℕ) (j : ℕ) where
  pub sent_split : sent_over w plan a b y j + sent_over w plan b c y j ≡ sent_over w plan a c y j
  sent_split =
      let both : c - a ≡ b - a + (c - b) = omega arith in
      let seam : a + (b - a) ≡ b = omega arith in
      rw (
        both,
        count_from_split a (b - a) (c - b),
        seam,
        sum_over_append (message_at w plan y j) (count_from a (b - a)) (count_from b (c - b)),
      ) refl

  pub received_split : received_over w plan a b y j + received_over w plan b c y j ≡ received_over w plan a c y j
  received_split =
      rw (
        children_over_split plan a b c g h,
        sum_over_append (message_at w plan y j) (children_over plan a b) (children_over plan b c),
      ) refl

-- the sum of an objective's records is a sum over their places
module _ (ds s : List ℕ) where
  abbrev pub share_of : ℕ → (Table → ℕ) → ℕ → ℕ
  share_of o f at = when (eqb (table_at ds s at).objective o) (f (table_at ds s at))

  pub total_over : (o : ℕ) (f : Table → ℕ) (places : List ℕ)
      → total o f (tables_over ds s places) ≡ sum_over (share_of o f) places
  unfolding total tables_over sum_over
  total_over o f [] = refl
  total_over o f (at ∷ places) = ap (◌+◌ (share_of o f at)) (total_over o f places)

  -- where each objective has the same sum, all sums are the same
  pub totals_same : (p o : ℕ) (f g : Table → ℕ) (xs ys : List ℕ)
      → ((i : ℕ) → total i f (tables_over ds s xs) ≡ total i g (tables_over ds s ys))
      → totals_from p o f (tables_over ds s xs) ≡ totals_from p o g (tables_over ds s ys)
  unfolding totals_from
  totals_same zero o f g xs ys h = refl
  totals_same (suc p) o f g xs ys h = ap₂ ◌∷◌ (h o) (totals_same p (suc o) f g xs ys h)

  total_append : (o : ℕ) (f : Table → ℕ) (xs ys : List ℕ)
      → total o f (tables_over ds s (xs ++ ys)) ≡ total o f (tables_over ds s xs) + total o f (tables_over ds s ys)
  total_append o f xs ys =
      rw (total_over o f (xs ++ ys), total_over o f xs, total_over o f ys) (sum_over_append (share_of o f) xs ys)

  pub totals_append : (p o : ℕ) (f : Table → ℕ) (xs ys : List ℕ)
      → totals_from p o f (tables_over ds s (xs ++ ys))
      ≡ added (totals_from p o f (tables_over ds s xs)) (totals_from p o f (tables_over ds s ys))
  unfolding totals_from added
  totals_append zero o f xs ys = refl
  totals_append (suc p) o f xs ys = ap₂ ◌∷◌ (total_append o f xs ys) (totals_append p (suc o) f xs ys)
