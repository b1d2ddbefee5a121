-- Lists with the same numbers in another order: an exchange makes one, and sums over records' places do not see the
-- order.
use mathlib.Core.Path.{◌≡◌, sym}
use mathlib.Core.Logic.{⊎_elim}
use mathlib.Core.Bool.{true, false}
use mathlib.Core.List.{List, [], ◌∷◌}
use Prim.Native.Nat.{ℕ, zero, suc, ◌+◌, ◌<◌}
use native.Mathlib.Omega.{arith}
use lib.Dec.{eqb}
use lib.ListN.{length, get_or, set, take, drop, length-set}
use lib.Seq.{get_or-set_same, get_or-set_other, get_or-take, get_or-drop, take-set-lt, drop-set-add}
use borrow.Author.Tests.{eqb-true, eqb-false}
use Rattle.model.specs.Basics.{All}
use Rattle.model.specs.Problems.{Table}
use Rattle.model.specs.Costs.{total, totals_from}
use Rattle.model.proofs.Bits.{test}
use Rattle.model.proofs.Elements.{all_below, all_set}
use Rattle.groups.specs.Groups.{tables_over}
use Rattle.branch_buckets.specs.Messages.{sum_over}
use Rattle.branch_buckets.specs.Sound.{Rearranged}
use Rattle.branch_buckets.proofs.Sums.{share_of, total_over, totals_same}

-- the numbers at i and j have changed places
abbrev pub exchanged : List ℕ → ℕ → ℕ → List ℕ
exchanged l i j = set (set l i (get_or l j 0)) j (get_or l i 0)

sum_set : (f : ℕ → ℕ) (l : List ℕ) (i a : ℕ) → i < length l
    → sum_over f (set l i a) + f (get_or l i 0) ≡ sum_over f l + f a
unfolding sum_over
sum_set f [] i a h = absurd (omega arith)
sum_set f (x ∷ l) zero a h = omega arith
sum_set f (x ∷ l) (suc i) a h = omega (arith, sum_set f l i a (omega arith))

module _ (l : List ℕ) (i j : ℕ) (g : i < length l) (h : j < length l) where
  -- the first write leaves at j what it wrote, or what stood there
  second : get_or (set l i (get_or l j 0)) j 0 ≡ get_or l j 0
  second =
      ⊎_elim
      (λ (e : eqb i j ≡ true).
      let k : i ≡ j = eqb-true i j e in
      rw (← k) (get_or-set_same l i (get_or l i 0) 0 g))
      (λ (e : eqb i j ≡ false). get_or-set_other l i j (get_or l j 0) 0 (λ k. eqb-false i j e (sym k)))
      (test (eqb i j))

  pub exchange_sum : (f : ℕ → ℕ) → sum_over f (exchanged l i j) ≡ sum_over f l
  exchange_sum f =
      let inside : j < length (set l i (get_or l j 0)) = omega (arith, length-set l i (get_or l j 0)) in
      let there : sum_over f (exchanged l i j) + f (get_or (set l i (get_or l j 0)) j 0)
      ≡ sum_over f (set l i (get_or l j 0)) + f (get_or l i 0) =
      sum_set f (set l i (get_or l j 0)) j (get_or l i 0) inside in
      omega (arith, rw second at there, sum_set f l i (get_or l j 0) g)

  pub exchange_rearranged : Rearranged l (exchanged l i j)
  exchange_rearranged f = exchange_sum f

  pub exchange_all : (P : ℕ → Type 0) → All P l → All P (exchanged l i j)
  exchange_all P k =
      all_set P (set l i (get_or l j 0)) j (get_or l i 0) (all_set P l i (get_or l j 0) k (all_below P l k j 0 h))
      (all_below P l k i 0 g)

-- an exchange within a part of a list is one of the part; with `at` 0 for the front
pub exchange_part : (l : List ℕ) (at n i j : ℕ) → i < n → j < n
    → take n (drop at (exchanged l (at + i) (at + j))) ≡ exchanged (take n (drop at l)) i j
exchange_part l at n i j g h =
    rw (
      drop-set-add at (set l (at + i) (get_or l (at + j) 0)) j (get_or l (at + i) 0),
      drop-set-add at l i (get_or l (at + j) 0),
      take-set-lt n (set (drop at l) i (get_or l (at + j) 0)) j (get_or l (at + i) 0) h,
      take-set-lt n (drop at l) i (get_or l (at + j) 0) g,
      get_or-take n (drop at l) i 0 g,
      get_or-take n (drop at l) j 0 h,
      get_or-drop at l i 0,
      get_or-drop at l j 0,
    )

pub exchange_front : (l : List ℕ) (n i j : ℕ) → i < n → j < n → take n (exchanged l i j) ≡ exchanged (take n l) i j
exchange_front l n i j g h =
    rw (
      take-set-lt n (set l i (get_or l j 0)) j (get_or l i 0) h,
      take-set-lt n l i (get_or l j 0) g,
      get_or-take n l i 0 g,
      get_or-take n l j 0 h,
    )

-- sums over records do not see their order
module _ (ds s xs ys : List ℕ) (h : Rearranged xs ys) where
  pub rearranged_totals : (o : ℕ) (f : Table → ℕ) → total o f (tables_over ds s ys) ≡ total o f (tables_over ds s xs)
  rearranged_totals o f = rw (total_over ds s o f ys, total_over ds s o f xs) (h (share_of ds s o f))

  pub rearranged_costs : (p o : ℕ) (f : Table → ℕ)
      → totals_from p o f (tables_over ds s ys) ≡ totals_from p o f (tables_over ds s xs)
  rearranged_costs p o f = totals_same ds s p o f f ys xs (λ i. rearranged_totals i f)
