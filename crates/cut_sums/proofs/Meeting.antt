-- A pass over the sums of the halves' rows, one row at a time.
use mathlib.Core.Path.{◌≡◌, refl, sym}
use mathlib.Core.Bool.{Bool, true, false}
use mathlib.Core.List.{List, [], ◌∷◌, ◌++◌, Memᴰ as In}
use Prim.Native.Nat.{ℕ, suc, ◌+◌, ◌-◌, ◌≤◌, ◌<◌}
use native.Mathlib.Omega.{arith}
use native.Mathlib.Nat.{add-zero, sub-zero}
use lib.ListN.{take}
use Rattle.model.specs.Basics.{pick, keep_if}
use Rattle.model.specs.Vectors.{added}
use Rattle.model.specs.Core.{under}
use Rattle.model.specs.Frontiers.{Point}
use Rattle.model.specs.Search.{Held, matched}
use Rattle.model.specs.Merging.{sum_of, sums_with, all_sums, nearer, least_left}
use Rattle.model.proofs.Elements.{all_in}
use Rattle.rows.specs.Rows.{point_in, list_in}
use Rattle.rows.proofs.RowParts.{row_has}
use Rattle.layout.specs.Layout.{first_row, second_row}
use Rattle.cut_sums.specs.Sums.{first_in, second_in, SmallCosts, Values, Paired, Halved}

-- a pass over two lists in a row, and over a sum before others
module _ (ps : List Point) where
  least_append : (xs ys : List Point) (h : Held) → least_left ps (xs ++ ys) h ≡ least_left ps ys (least_left ps xs h)
  unfolding least_left
  least_append [] ys h = refl
  least_append (x ∷ xs) ys h = least_append xs ys (pick (matched x.costs ps) h (nearer x h))

  least_kept : (t : Bool) (x : Point) (xs : List Point) (h : Held)
      → least_left ps (keep_if t x xs) h ≡ least_left ps xs (least_left ps (keep_if t x []) h)
  unfolding least_left
  least_kept true x xs h = refl
  least_kept false x xs h = refl

-- what is left of k rows from row f on, i rows later
module _ (p n : ℕ) (work : List ℕ) (f k : ℕ) where
  abbrev rows_from : ℕ → List Point
  rows_from i = list_in p n work (f + i) (k - i)

  rows_start : rows_from 0 ≡ list_in p n work f k
  rows_start = rw (add-zero, sub-zero)

  rows_none : (i : ℕ) → k ≤ i → rows_from i ≡ []
  unfolding list_in
  rows_none i h =
      let none : k - i ≡ 0 = omega arith in
      rw none

  rows_next : (i : ℕ) → i < k → rows_from i ≡ point_in p n work (f + i) ∷ rows_from (i + 1)
  unfolding list_in
  rows_next i h =
      let one : k - i ≡ suc (k - (i + 1)) = omega arith in
      let at : f + i + 1 ≡ f + (i + 1) = omega arith in
      rw (one, list_in, at)

module _ (p n : ℕ) (ceilings work : List ℕ) (k : ℕ) where
  abbrev ps : List Point
  ps = list_in p n work 0 k

  -- the sums of a point with the second half's points from j on
  module _ (x : Point) (b : ℕ) where
    abbrev pub meets_from : ℕ → Held → Held
    meets_from j h = least_left ps (sums_with (take p ceilings) x (rows_from p n work second_row b j)) h

    pub meets_start : (h : Held)
        → meets_from 0 h ≡ least_left ps (sums_with (take p ceilings) x (second_in p n work b)) h
    meets_start h = rw (rows_start p n work second_row b)

    pub meets_end : (j : ℕ) (h : Held) → b ≤ j → meets_from j h ≡ h
    unfolding sums_with least_left
    meets_end j h l = rw (rows_none p n work second_row b j l)

    pub meets_next : (j : ℕ) (h g : Held) → j < b → (y : Point) → y ≡ sum_of x (point_in p n work (second_row + j))
        → g ≡ least_left ps (keep_if (under y.costs (take p ceilings)) y []) h → meets_from (j + 1) g ≡ meets_from j h
    unfolding sums_with
    meets_next j h g l y s e =
        let z = sum_of x (point_in p n work (second_row + j)) in
        rw (rows_next p n work second_row b j l, e, s)
        (sym (least_kept ps (under z.costs (take p ceilings)) z
        (sums_with (take p ceilings) x (rows_from p n work second_row b (j + 1))) h))

  -- the sums of the first half's points from i on with those of the second half
  module _ (a b : ℕ) where
    abbrev pub pass_from : ℕ → Held → Held
    pass_from i h =
        least_left ps (all_sums (take p ceilings) (rows_from p n work first_row a i) (second_in p n work b)) h

    pub pass_start : (h : Held)
        → pass_from 0 h ≡ least_left ps (all_sums (take p ceilings) (first_in p n work a) (second_in p n work b)) h
    pass_start h = rw (rows_start p n work first_row a)

    pub pass_end : (i : ℕ) (h : Held) → a ≤ i → pass_from i h ≡ h
    unfolding all_sums least_left
    pass_end i h l = rw (rows_none p n work first_row a i l)

    pub pass_next : (i : ℕ) (h g : Held) → i < a
        → g ≡ least_left ps (sums_with (take p ceilings) (point_in p n work (first_row + i)) (second_in p n work b)) h
        → pass_from (i + 1) g ≡ pass_from i h
    unfolding all_sums
    pass_next i h g l e =
        rw (rows_next p n work first_row a i l, e)
        (sym (least_append ps (sums_with (take p ceilings) (point_in p n work (first_row + i)) (second_in p n work b))
        (all_sums (take p ceilings) (rows_from p n work first_row a (i + 1)) (second_in p n work b)) h))

-- the added values of two rows are values of domains
pub paired_values : {p n k i b : ℕ} {work : List ℕ} → Paired p n k i b work → (j : ℕ) → j < b
    → Values (added (point_in p n work i).choice (point_in p n work (second_row + j)).choice)
paired_values {p} {n} {k} {i} {b} {work} h j l =
    let P : Point → Type 0 = λ y. Values (added (point_in p n work i).choice y.choice) in
    row_has p n work P second_row b (all_in P (second_in p n work b) h.values) j l

pub halved_paired : {p n k a b : ℕ} {work : List ℕ} → Halved p n k a b work → (i : ℕ) → i < a
    → Paired p n k (first_row + i) b work
halved_paired {p} {n} {k} {a} {b} {work} h i l =
    let P : Point → Type 0 = λ x. (y : Point) → In y (second_in p n work b) → Values (added x.choice y.choice) in
    record {
      long = h.long;
      objectives = h.objectives;
      variables = h.variables;
      count = h.count;
      row = omega (arith, h.first_count);
      second_count = h.second_count;
      small = row_has p n work SmallCosts first_row a h.first_small i l;
      second_small = h.second_small;
      values = row_has p n work P first_row a (all_in P (first_in p n work a) (λ x m y. h.values x y m)) i l;
    }
