-- Rows and numbers that stay where memory is the same from a place on, before the list, or in a part that was copied.
use mathlib.Core.Path.{◌≡◌, refl, sym, ap, ap₂, ◌∙◌}
use mathlib.Core.List.{List, ◌∷◌}
use Prim.Native.Nat.{ℕ, zero, suc, ◌+◌, ◌*◌, ◌/◌, ◌≤◌, ◌<◌}
use native.Mathlib.Omega.{arith}
use lib.ListN.{get_or, take, drop}
use lib.Seq.{get_or-take, get_or-drop, take-take}
use Rattle.model.specs.Limits.{max_objectives, max_variables}
use Rattle.model.proofs.Lists.{take_drop, get_d_later}
use Rattle.layout.specs.Layout.{list_at, row_width}
use Rattle.rows.specs.Rows.{row_at, costs_in, point_in, list_in, Framed}
use Rattle.rows.proofs.RowNumbers.{equal_costs, equal_points}

-- the same from a place on
module _ (at : ℕ) (x y : List ℕ) (behind : drop at x ≡ drop at y) where
  pub behind_costs : (p i : ℕ) → at ≤ row_at i → costs_in p x i ≡ costs_in p y i
  behind_costs p i l =
      equal_costs x y i i (2 * p) (λ k h. get_d_later 0 at (row_at i + k) x y (omega arith) behind) p (omega arith)

  behind_point : (p n i : ℕ) → at ≤ row_at i → point_in p n x i ≡ point_in p n y i
  behind_point p n i l =
      let m = 2 * p + (8 + (n + 3) / 4) in
      equal_points x y i i m (λ k h. get_d_later 0 at (row_at i + k) x y (omega arith) behind) p n (omega arith)
      (omega arith)

  pub behind_rows : (p n i k : ℕ) → at ≤ row_at i → list_in p n x i k ≡ list_in p n y i k
  unfolding list_in
  behind_rows p n i zero l = refl
  behind_rows p n i (suc k) l = ap₂ ◌∷◌ (behind_point p n i l) (behind_rows p n (i + 1) k (omega arith))

-- k rows from i on have the numbers of k rows from j on
module _ (p n : ℕ) (few : p ≤ max_objectives) (small : n ≤ max_variables) (x y : List ℕ) where
  equal_rows : (i j k : ℕ) → ((m : ℕ) → m < row_width * k → get_or x (row_at i + m) 0 ≡ get_or y (row_at j + m) 0)
      → list_in p n x i k ≡ list_in p n y j k
  unfolding list_in
  equal_rows i j zero same = refl
  equal_rows i j (suc k) same =
      ap₂ ◌∷◌
      (equal_points x y i j row_width (λ m l. same m (omega arith)) p n (omega arith) (omega arith))
      (equal_rows (i + 1) (j + 1) k (λ m l.
      let there : (r : ℕ) → row_at (r + 1) + m ≡ row_at r + (row_width + m) = λ r. omega arith in
      rw (there i, there j) (same (row_width + m) (omega arith))))

  pub copied_rows : (i j k : ℕ) → take (row_width * k) (drop (row_at i) x) ≡ take (row_width * k) (drop (row_at j) y)
      → list_in p n x i k ≡ list_in p n y j k
  copied_rows i j k e = equal_rows i j k (λ m l.
      sym (front (drop (row_at i) x) m l ∙ get_or-drop (row_at i) x m 0) ∙ ap (λ (u : List ℕ). get_or u m 0) e
      ∙ front (drop (row_at j) y) m l ∙ get_or-drop (row_at j) y m 0)
    where
      front : (u : List ℕ) (m : ℕ) → m < row_width * k → get_or (take (row_width * k) u) m 0 ≡ get_or u m 0
      front u m l = get_or-take (row_width * k) u m 0 l

-- the same before the list
module _ {work work' : List ℕ} (f : Framed work work') where
  front : (k : ℕ) → k ≤ list_at → take k work' ≡ take k work
  front k l = sym (take-take k list_at work' l) ∙ ap (take k) f.before ∙ take-take k list_at work l

  pub framed_number : (k : ℕ) → k < list_at → get_or work' k 0 ≡ get_or work k 0
  framed_number k l =
      sym (get_or-take list_at work' k 0 l) ∙ ap (λ (u : List ℕ). get_or u k 0) f.before
      ∙ get_or-take list_at work k 0 l

  pub framed_part : (k at : ℕ) → at + k ≤ list_at → take k (drop at work') ≡ take k (drop at work)
  framed_part k at l = take_drop k at work' ∙ ap (drop at) (front (at + k) l) ∙ sym (take_drop k at work)
