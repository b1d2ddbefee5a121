-- Memory in which rows of the list are written: what stands before the list is kept, so that the records, their
-- groups and the gains stay.
use mathlib.Core.Path.{◌≡◌}
use mathlib.Core.List.{List}
use Prim.Native.Nat.{ℕ, ◌+◌, ◌-◌, ◌*◌, ◌≤◌, ◌<◌}
use native.Mathlib.Omega.{arith}
use lib.ListN.{length, get_or}
use Rattle.model.specs.Limits.{max_objectives}
use Rattle.layout.specs.Layout.{records_at, gains_at}
use Rattle.groups.specs.Groups.{places_in, Placed, Grouped}
use Rattle.rows.specs.Rows.{Framed}
use Rattle.rows.proofs.RowsKept.{framed_number, framed_part}
use Rattle.pass_search.specs.States.{gains_in}

module _ (ds s work : List ℕ) (r : ℕ) (grouped : Grouped ds s work r) {after : List ℕ} (f : Framed work after) where
  pub kept_places_lem : places_in after r ≡ places_in work r
  kept_places_lem = framed_part f r records_at (omega (arith, grouped.placed.few))

  pub kept_gains : (p k : ℕ) → p ≤ max_objectives → k ≤ length ds → gains_in p after k ≡ gains_in p work k
  kept_gains p k few h = framed_part f p (gains_at + 4 * k) (omega (arith, grouped.placed.variables))

  kept_placed : Placed ds s after r
  kept_placed =
      record {
        few = grouped.placed.few;
        small = grouped.placed.small;
        variables = grouped.placed.variables;
        long = omega (arith, f.long, grouped.placed.long);
        whole = rw kept_places_lem grouped.placed.whole;
      }

  pub kept_grouped : Grouped ds s after r
  kept_grouped =
      let here : (v : ℕ) → v < length ds → get_or after v 0 ≡ get_or work v 0 =
      λ v h. framed_number f v (omega (arith, grouped.placed.variables)) in
      let next : (v : ℕ) → v < length ds → get_or after (v + 1) 0 ≡ get_or work (v + 1) 0 =
      λ v h. framed_number f (v + 1) (omega (arith, grouped.placed.variables)) in
      let size : ℕ → ℕ = λ v. get_or work (v + 1) 0 - get_or work v 0 in
      record {
        placed = kept_placed;
        from = λ v h. rw (here v h) (grouped.from v h);
        to = λ v h. rw (here v h, next v h) (grouped.to v h);
        end = λ v h. rw (next v h) (grouped.end v h);
        group = λ v h.
            let group = framed_part f (size v) (get_or work v 0) (omega (arith, grouped.to v h, grouped.end v h)) in
            rw (here v h, next v h, kept_places_lem, group) (grouped.group v h);
      }
