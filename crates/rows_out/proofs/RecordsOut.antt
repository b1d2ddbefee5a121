-- The records of rows, written one after another over the start of a list of records.
use mathlib.Core.Path.{◌≡◌, refl, ap, ◌∙◌}
use mathlib.Core.List.{List, [], ◌∷◌, ◌++◌, append_assoc}
use Prim.Native.Nat.{ℕ, suc, ◌+◌, ◌≤◌, ◌<◌}
use native.Mathlib.Omega.{arith}
use native.Mathlib.Nat.{zero-add}
use native.Mathlib.Numerals.{add-one}
use lib.ListN.{length, drop, set, length-append, length-drop}
use lib.Seq.{set_at, drop-cons}
use Rattle.model.specs.Frontiers.{Point}
use Rattle.model.specs.Calls.{over}
use Rattle.model.specs.declared.Point as DP
use Rattle.rows.specs.Rows.{point_in, list_in}
use Rattle.rows.proofs.RowParts.{rows_length, rows_more}
use Rattle.rows_out.specs.Records.{record_of, records_of}

records_count : (ts : List Point) → length (records_of ts) ≡ length ts
unfolding records_of
records_count [] = refl
records_count (t ∷ ts) = ap suc (records_count ts)

records_last : (ts : List Point) (t : Point) → records_of (ts ++ (t ∷ [])) ≡ records_of ts ++ (record_of t ∷ [])
unfolding records_of
records_last [] t = refl
records_last (u ∷ ts) t = ap (◌∷◌ (record_of u)) (records_last ts t)

-- one more is written
over_next : (xs : List DP.Point) (x : DP.Point) (old : List DP.Point) (i : ℕ) → length xs ≡ i → i < length old
    → set (over xs old) i x ≡ over (xs ++ (x ∷ [])) old
unfolding over
over_next xs x old i e h =
    let more : length (xs ++ (x ∷ [])) ≡ suc i = omega (arith, length-append xs (x ∷ [])) in
    rw (e, more, append_assoc)
    (ap (λ rest. set (xs ++ rest) i x) (drop-cons old i x h) ∙ set_at xs _ (drop (suc i) old) x i e)

module _ (p n : ℕ) (work : List ℕ) (old : List DP.Point) where
  -- the records of the first i rows are written
  abbrev pub written : ℕ → List DP.Point
  written i = over (records_of (list_in p n work 0 i)) old

  pub written_none : written 0 ≡ old
  unfolding list_in records_of over
  written_none = refl

  long : (i : ℕ) → length (records_of (list_in p n work 0 i)) ≡ i
  long i = records_count (list_in p n work 0 i) ∙ rows_length p n work 0 i

  pub written_length : (i : ℕ) → i ≤ length old → length (written i) ≡ length old
  unfolding over
  written_length i h =
      let records = records_of (list_in p n work 0 i) in
      omega (arith, length-append records (drop (length records) old), length-drop (length records) old, long i)

  pub written_next : (i : ℕ) → i < length old → set (written i) i (record_of (point_in p n work i)) ≡ written (i + 1)
  written_next i h =
      let t = point_in p n work i in
      let more : list_in p n work 0 (i + 1) ≡ list_in p n work 0 i ++ (t ∷ []) =
      rw add-one (rows_more p n work 0 i ∙ rw zero-add) in
      rw (more, records_last) (over_next (records_of (list_in p n work 0 i)) (record_of t) old i (long i) h)
