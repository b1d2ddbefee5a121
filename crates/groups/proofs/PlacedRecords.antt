-- r accepted records in work memory: how many places and tables they have, a group that is written before them, and how
-- long one is.
use mathlib.Core.Path.{◌≡◌, refl, ap}
use mathlib.Core.Logic.{inr}
use mathlib.Core.List.{List, [], ◌∷◌}
use Prim.Native.Nat.{ℕ, suc, ◌+◌, ◌-◌, ◌≤◌, ◌<◌}
use native.Mathlib.Omega.{arith}
use lib.ListN.{length, get_or, take, drop, length-drop}
use lib.Seq.{length-take-le}
use Rattle.model.specs.Limits.{max_tables}
use Rattle.layout.specs.Layout.{records_at}
use Rattle.groups.specs.Groups.{group_of, places_in, tables_over, Placed, Grouped}
use Rattle.groups.proofs.Keeping.{keeps_few, group_keeps}
use Rattle.groups.proofs.Adding.{Apart}

pub tables_count : (ds s places : List ℕ) → length (tables_over ds s places) ≡ length places
unfolding tables_over
tables_count ds s [] = refl
tables_count ds s (at ∷ places) = ap suc (tables_count ds s places)

module _ (ds s work : List ℕ) (r : ℕ) where
  pub places_length : Placed ds s work r → length (places_in work r) ≡ r
  places_length p = length-take-le r (drop records_at work) (omega (arith, p.few, p.long, length-drop records_at work))

  pub group_apart : Placed ds s work r → (v from : ℕ) → from + length (group_of s v (places_in work r)) ≤ records_at
      → Apart (group_of s v) work r records_at from
  group_apart p v from room =
      record {
        inside = omega (arith, p.few, p.long);
        room = omega (arith, p.long);
        apart = inr room;
      }

  -- a group has at most as many places as there are records
  pub group_few : Grouped ds s work r → (v : ℕ) → v < length ds → get_or work (v + 1) 0 - get_or work v 0 ≤ max_tables
  group_few g v h =
      let a = get_or work v 0 in
      let e = get_or work (v + 1) 0 in
      let p = g.placed in
      let long : length (take (e - a) (drop a work)) ≡ e - a = length-take-le (e - a) (drop a work)
      (omega (arith, g.to v h, g.end v h, p.long, length-drop a work)) in
      omega (arith, p.few, places_length p, keeps_few (group_keeps s v) (places_in work r), ap length (g.group v h))
