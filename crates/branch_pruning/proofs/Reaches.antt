-- What a bound may reach: what it does not reach, no larger bound does.
use mathlib.Core.Path.{◌≡◌, sym, ◌∙◌}
use mathlib.Core.List.{List}
use Prim.Native.Nat.{ℕ, ◌≤◌, ◌<◌}
use native.Mathlib.Omega.{arith}
use lib.ListN.{length, get_or, take, length-drop}
use lib.Seq.{length-take-le, get_or-take}
use Rattle.model.specs.Vectors.{at_most}
use Rattle.model.proofs.Bits.{true_false, not_true_false}
use Rattle.model.proofs.Vectors.{at_most_true, at_most_test}
use Rattle.rows.specs.Rows.{costs_in}
use Rattle.rows.proofs.RowNumbers.{costs_long}
use Rattle.branch_candidates.specs.Sifted.{list_width}
use Rattle.branch_candidates.proofs.Sifting.{sifted_map}
use Rattle.branch_directions.specs.Directions.{max_directions, directions_of, width_of, Sensible}
use Rattle.branch_directions.specs.declared.Directions as DD
use Rattle.model.proofs.AtMostAt.{at_most_at, at_most_each}
use Rattle.branch_directions.proofs.DirectionLaws.{directions_length}
use Rattle.branch_directions.proofs.Widths.{width_few}
use Rattle.branch_zones.specs.Zones.{corner_in, Exceeds}
use Rattle.branch_zones.proofs.ZoneRows.{corner_long}
use Rattle.branch_pruning.specs.Tests.{zones_of, reach_width, Full, Reached, Searched}
use Rattle.branch_pruning.specs.declared.Progress as DP

-- nothing is left out
pub reached_full : {d : DD.Directions} {work : List ℕ} {run : DP.Progress} {b : List ℕ} {reach : List ℕ}
    → Full run reach → Reached d work run b reach
reached_full h =
    record { zones = sifted_map (λ i l o. absurd o) h.zones; ties = sifted_map (λ i l o. absurd o) h.ties }

-- there are two lists
pub reached_long : {d : DD.Directions} {work : List ℕ} {run : DP.Progress} {b : List ℕ} {reach : List ℕ}
    → Reached d work run b reach → length reach ≡ reach_width
reached_long {reach = reach} h = omega (arith, h.ties.long, length-drop list_width reach)

-- the same zones and points
pub reached_same : {d : DD.Directions} {work work' : List ℕ} {run run' : DP.Progress} {b : List ℕ} {reach : List ℕ}
    → work' ≡ work → run'.points ≡ run.points → run'.zones ≡ run.zones → Reached d work run b reach
    → Reached d work' run' b reach
reached_same same points zones h = record { zones = rw (same, zones) h.zones; ties = rw (same, points) h.ties }

module _ (d : DD.Directions) (sensible : Sensible d) (b b' : List ℕ) (long : max_directions ≡ length b)
    (long' : max_directions ≡ length b') (rises : (j : ℕ) → j < width_of d → get_or b j 0 ≤ get_or b' j 0) where
  wide : (u : List ℕ) → max_directions ≡ length u → length (take (width_of d) u) ≡ width_of d
  wide u e = length-take-le (width_of d) u (omega (arith, width_few d sensible))

  exceeds_rises : (v : List ℕ) → length v ≡ d.objectives → Exceeds d b v → Exceeds d b' v
  exceeds_rises v e f =
      not_true_false (at_most (take (width_of d) b') (directions_of d v)) λ t.
      let all = directions_length d v e in
      let above =
      at_most_at (take (width_of d) b') (directions_of d v) (wide b' long' ∙ sym all) (at_most_true _ _ t) in
      let below = at_most_each (take (width_of d) b) (directions_of d v) (wide b long ∙ sym all) (λ j l.
      let m : j < width_of d = omega (arith, wide b long) in
      omega (
        arith,
        rises j m,
        above j (omega (arith, wide b' long')),
        get_or-take (width_of d) b j 0 m,
        get_or-take (width_of d) b' j 0 m,
      )) in
      true_false (at_most_test _ _ below) f

  pub reached_rises : {work : List ℕ} {run : DP.Progress} {reach : List ℕ} → Searched d work run
      → Reached d work run b reach → Reached d work run b' reach
  reached_rises {work} {run} {reach} s h =
      record {
        zones = sifted_map (λ i l o.
            exceeds_rises (corner_in d.objectives (zones_of work) i)
            (corner_long d.objectives (zones_of work) i sensible.few s.measured.long
            (omega (arith, s.measured.few))) o) h.zones;
        ties = sifted_map (λ i l o.
            exceeds_rises (costs_in d.objectives work i) (costs_long work i d.objectives) o) h.ties;
      }
