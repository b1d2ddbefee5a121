-- The list as a row is written: another point in a place, or one more.
use mathlib.Core.Path.{◌≡◌, sym, ap, ◌∙◌}
use mathlib.Core.Logic.{⊎_elim}
use mathlib.Core.List.{List, [], ◌∷◌, ◌++◌}
use Prim.Native.Nat.{ℕ, suc, ◌+◌, ◌≤◌, ◌<◌}
use native.Mathlib.Omega.{arith}
use native.Mathlib.Nat.{zero-add}
use native.Mathlib.Numerals.{add-one}
use lib.ListN.{length, get_or, take, drop, set, length-set}
use lib.Seq.{ext_get_or, get_or-set_same, get_or-set_other, set_split, split_at}
use Rattle.model.specs.Limits.{max_objectives, max_variables, max_points}
use Rattle.model.specs.Frontiers.{Point, point}
use Rattle.model.proofs.Numbers.{equal_or}
use Rattle.rows.specs.Rows.{point_in, list_in, RowWritten}
use Rattle.rows.proofs.RowParts.{rows_length, rows_more}
use Rattle.rows.proofs.RowPlaces.{rows_at, same_point}

-- where the other points stand
pub list_split : (p n : ℕ) (work : List ℕ) (i c : ℕ) → i < c
    → list_in p n work 0 c
    ≡ take i (list_in p n work 0 c) ++ (point_in p n work i ∷ drop (suc i) (list_in p n work 0 c))
list_split p n work i c l =
    split_at (list_in p n work 0 c) i (point [] []) (omega (arith, rows_length p n work 0 c))
    ∙ rw (rows_at p n work 0 c i (point [] []) l, zero-add)

module _ {work : List ℕ} {i : ℕ} {row : Point} {work' : List ℕ} (w : RowWritten work i row work') (p n : ℕ)
    (few : p ≤ max_objectives) (small : n ≤ max_variables) where
  pub other_point : (j : ℕ) → j ≤ max_points → (j ≡ i → ⊥) → point_in p n work' j ≡ point_in p n work j
  other_point j l m = same_point work work' j j (w.others j l m) p n few small

  pub list_replaced : (c : ℕ) → i < c → c ≤ max_points + 1
      → list_in p n work' 0 c
      ≡ take i (list_in p n work 0 c) ++ (point_in p n work' i ∷ drop (suc i) (list_in p n work 0 c))
  list_replaced c l count =
      ext_get_or none new (set old i (point_in p n work' i)) long each
      ∙ set_split old i (point_in p n work' i) (omega (arith, rows_length p n work 0 c))
    where
      none : Point
      none = point [] []

      old : List Point
      old = list_in p n work 0 c

      new : List Point
      new = list_in p n work' 0 c

      long : length new ≡ length (set old i (point_in p n work' i))
      long = rows_length p n work' 0 c ∙ sym (length-set old i (point_in p n work' i) ∙ rows_length p n work 0 c)

      each : (j : ℕ) → j < length new → get_or new j none ≡ get_or (set old i (point_in p n work' i)) j none
      each j h =
          let below : j < c = omega (arith, rows_length p n work' 0 c) in
          rows_at p n work' 0 c j none below
          ∙ rw zero-add
          (⊎_elim
          (λ (t : j ≡ i).
          rw t (sym (get_or-set_same old i (point_in p n work' i) none (omega (arith, rows_length p n work 0 c)))))
          (λ t. other_point j (omega arith) t
          ∙ sym
          (get_or-set_other old i j (point_in p n work' i) none t ∙ rows_at p n work 0 c j none below ∙ rw zero-add))
          (equal_or j i))

  pub list_added : i ≤ max_points → list_in p n work' 0 (i + 1) ≡ list_in p n work 0 i ++ (point_in p n work' i ∷ [])
  list_added l =
      rw (add-one, rows_more p n work' 0 i, zero-add) (ap (λ (ps : List Point). ps ++ (point_in p n work' i ∷ [])) kept)
    where
      none : Point
      none = point [] []

      kept : list_in p n work' 0 i ≡ list_in p n work 0 i
      kept =
          ext_get_or
          none
          (list_in p n work' 0 i)
          (list_in p n work 0 i)
          (rows_length p n work' 0 i ∙ sym (rows_length p n work 0 i))
          (λ j h.
          let below : j < i = omega (arith, rows_length p n work' 0 i) in
          rows_at p n work' 0 i j none below
          ∙ rw zero-add
          (other_point j (omega arith) (λ e. omega arith) ∙ sym (rows_at p n work 0 i j none below ∙ rw zero-add)))
