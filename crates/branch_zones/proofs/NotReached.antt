-- A bound that is not at most a zone's row, clamped as the row is: nothing in the zone is that large.
use mathlib.Core.Path.{◌≡◌, sym, ◌∙◌}
use mathlib.Core.Logic.{⊎_elim}
use mathlib.Core.Bool.{true}
use mathlib.Core.List.{List}
use Prim.Native.Nat.{ℕ, ◌*◌, ◌≤◌, ◌<◌}
use native.Mathlib.Omega.{arith}
use lib.Dec.{ltb}
use lib.ListN.{length, get_or, take, drop, length-drop}
use lib.Seq.{length-take-le, get_or-take}
use borrow.Author.Tests.{ltb-true, ltb-false}
use Rattle.model.specs.Vectors.{at_most}
use Rattle.model.proofs.Bits.{test, true_false, not_true_false}
use Rattle.model.proofs.Vectors.{at_most_true, at_most_test}
use Rattle.branch_directions.specs.Directions.{max_directions, directions_of, width_of, Sensible}
use Rattle.branch_directions.specs.declared.Directions as DD
use Rattle.model.proofs.AtMostAt.{at_most_each, at_most_at}
use Rattle.branch_directions.proofs.DirectionLaws.{directions_length}
use Rattle.branch_zones.specs.Zones.{zone_width, corner_in, clamped, Measured, Missed}
use Rattle.branch_zones.specs.Steps.{row_in, Under}
use Rattle.branch_zones.proofs.Clamping.{clamped_mono}
use Rattle.branch_zones.proofs.ZoneRows.{corner_long, front_number}

module _ {d : DD.Directions} {zones : List ℕ} {m : ℕ} (sensible : Sensible d) (old : Measured d zones m)
    (b least : List ℕ) (full : length b ≡ max_directions) (wide : length least ≡ zone_width)
    (numbers : (j : ℕ) → j < width_of d → get_or least j 0 ≡ clamped (get_or b j 0))
    (zeros : (j : ℕ) → width_of d ≤ j → get_or least j 0 ≡ 0) (i : ℕ) (l : i < m) where
  abbrev dirs : List ℕ
  dirs = directions_of d (corner_in d.objectives zones i)

  dirs_long : length dirs ≡ width_of d
  dirs_long =
      directions_length d (corner_in d.objectives zones i)
      (corner_long d.objectives zones i sensible.few old.long (omega (arith, old.few)))

  row_long : length (row_in zones i) ≡ zone_width
  row_long =
      length-take-le zone_width (drop (zone_width * i) zones)
      (omega (arith, old.long, old.few, length-drop (zone_width * i) zones))

  bound_long : length (take (width_of d) b) ≡ width_of d
  bound_long = length-take-le (width_of d) b (omega (arith, sensible.few, sensible.few_sums))

  -- what is as large as the bound in every direction is so when clamped
  clamped_at_most : at_most (take (width_of d) b) dirs ≡ true → (j : ℕ) → j < zone_width
      → get_or least j 0 ≤ get_or (row_in zones i) j 0
  clamped_at_most t j few =
      ⊎_elim
      (λ u. number (ltb-true j (width_of d) u))
      (λ u. omega (arith, zeros j (ltb-false j (width_of d) u)))
      (test (ltb j (width_of d)))
    where
      number : j < width_of d → get_or least j 0 ≤ get_or (row_in zones i) j 0
      number h =
          let most : get_or b j 0 ≤ get_or dirs j 0 = rw (get_or-take (width_of d) b j 0 h)
          at (at_most_at (take (width_of d) b) dirs (bound_long ∙ sym dirs_long)
          (at_most_true (take (width_of d) b) dirs t) j (omega (arith, bound_long))) in
          omega (
            arith,
            clamped_mono (get_or b j 0) (get_or dirs j 0) most,
            numbers j h,
            old.numbers i j l h,
            front_number zone_width zones i j few,
          )

  pub not_reached : Under zones least i → Missed d zones b i
  not_reached under = not_true_false (at_most (take (width_of d) b) dirs) λ t.
      true_false (at_most_test least (row_in zones i)
      (at_most_each least (row_in zones i) (wide ∙ sym row_long) (λ j k. clamped_at_most t j (omega (arith, wide)))))
      under
