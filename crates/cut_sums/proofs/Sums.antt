-- The sums of two lists in work memory: what each of them has, and that storing the listed points leaves them as they
-- are.
use mathlib.Core.Path.{◌≡◌, refl, sym, ap₂, ◌∙◌, subst}
use mathlib.Core.Logic.{⊎_elim}
use mathlib.Core.Bool.{true}
use mathlib.Core.List.Memᴰ.{head as here}
use mathlib.Core.List.Memᴰ.{tail as there}
use mathlib.Core.List.{List, [], ◌∷◌, Memᴰ as In}
use mathlib.Core.List.Memᴰ.{cases_cons as in-cases}
use mathlib.Core.List.Memᴰ.{not-nil as in-none}
use mathlib.Core.List.Memᴰ.{append_cases as in-append}
use Prim.Native.Nat.{ℕ, zero, suc, ◌+◌, ◌≤◌}
use native.Mathlib.Omega.{arith}
use lib.ListN.{take, drop}
use Rattle.model.specs.Vectors.{added}
use Rattle.model.specs.Core.{under}
use Rattle.model.specs.Frontiers.{Point}
use Rattle.model.specs.Merging.{sum_of, sums_with, all_sums}
use Rattle.model.proofs.Bits.{kept_cases}
use Rattle.model.proofs.Sorting.{Sized, AllSized}
use Rattle.model.proofs.Sums.{added_length}
use Rattle.layout.specs.Layout.{list_end, first_row, second_row}
use Rattle.rows.specs.Rows.{point_in, list_in}
use Rattle.rows.proofs.RowNumbers.{costs_long, values_long}
use Rattle.rows.proofs.RowsKept.{behind_rows}
use Rattle.cut_sums.specs.Sums.{first_in, second_in, sums_in}

-- what the sums of all pairs under the ceilings have
module _ (P : Point → Type 0) (ceilings : List ℕ) where
  abbrev Has : Point → Point → Type 0
  Has x y = under (sum_of x y).costs ceilings ≡ true → P (sum_of x y)

  with_has : (x : Point) (ys : List Point) → ((y : Point) → In y ys → Has x y) → (r : Point)
      → In r (sums_with ceilings x ys) → P r
  unfolding sums_with
  with_has x [] h r m = absurd (in-none m)
  with_has x (y ∷ ys) h r m =
      ⊎_elim
      (λ k. subst P (sym k.0) (h y (here refl) k.1))
      (λ k. with_has x ys (λ z i. h z (there i)) r k)
      (kept_cases (under (added x.costs y.costs) ceilings) m)

  sums_have : (xs ys : List Point) → ((x y : Point) → In x xs → In y ys → Has x y) → (r : Point)
      → In r (all_sums ceilings xs ys) → P r
  unfolding all_sums
  sums_have [] ys h r m = absurd (in-none m)
  sums_have (x ∷ xs) ys h r m =
      ⊎_elim
      (λ k. with_has x ys (λ y i. h x y (here refl) i) r k)
      (λ k. sums_have xs ys (λ z y i. h z y (there i)) r k)
      (in-append (sums_with ceilings x ys) m)

module _ (p n : ℕ) where
  -- rows have p costs and n values
  rows_sized : (work : List ℕ) (i k : ℕ) → AllSized p n (list_in p n work i k)
  unfolding list_in
  rows_sized work i zero r m = absurd (in-none m)
  rows_sized work i (suc k) r m =
      ⊎_elim
      (λ (e : r ≡ point_in p n work i). subst (Sized p n) (sym e) (costs_long work i p, values_long work i n))
      (λ t. rows_sized work (i + 1) k r t)
      (in-cases m)

  sum_sized : (x y : Point) → Sized p n x → Sized p n y → Sized p n (sum_of x y)
  sum_sized x y a b = (
    added_length x.costs y.costs (a.0 ∙ sym b.0) ∙ a.0,
    added_length x.choice y.choice (a.1 ∙ sym b.1) ∙ a.1,
  )

-- a sum has p costs, under the ceilings, and n values
pub sums_good : (p n a b : ℕ) (work ceilings : List ℕ) (r : Point) → In r (sums_in p n ceilings work a b)
    → Sized p n r × (under r.costs (take p ceilings) ≡ true)
sums_good p n a b work ceilings =
    let first = rows_sized p n work first_row a in
    let second = rows_sized p n work second_row b in
    sums_have (λ r. Sized p n r × (under r.costs (take p ceilings) ≡ true)) (take p ceilings) (first_in p n work a)
    (second_in p n work b)
    (λ x y i j u. (sum_sized p n x y (first x i) (second y j), u))

-- rows behind the listed points
module _ (p n : ℕ) (was work : List ℕ) (behind : drop list_end work ≡ drop list_end was) where
  pub rows_kept : (i k : ℕ) → second_row ≤ i → list_in p n work i k ≡ list_in p n was i k
  rows_kept i k l = behind_rows list_end work was behind p n i k (omega arith)

  pub sums_kept : (ceilings : List ℕ) (a b : ℕ) → sums_in p n ceilings work a b ≡ sums_in p n ceilings was a b
  sums_kept ceilings a b =
      ap₂ (all_sums (take p ceilings)) (rows_kept first_row a (omega arith)) (rows_kept second_row b (omega arith))
