-- A corner written to a row, in every direction: the row has it, the other rows are kept, and the rows stay measured.
use mathlib.Core.Path.{◌≡◌, sym, ap, ◌∙◌, subst}
use mathlib.Core.Logic.{⊎_elim}
use mathlib.Core.List.{List, map}
use Prim.Native.Nat.{ℕ, ◌+◌, ◌-◌, ◌*◌, ◌≤◌, ◌<◌}
use native.Mathlib.Omega.{arith}
use lib.ListN.{length, get_or, take, drop, replicate, length-map, get_or-map, get_or-append}
use lib.Seq.{ext_get_or, get_or-take}
use Rattle.model.specs.Basics.{All}
use Rattle.model.specs.Problems.{Word}
use Rattle.model.specs.Calls.{padded}
use Rattle.model.proofs.Numbers.{equal_or, one_first}
use Rattle.model.proofs.Elements.{all_below}
use Rattle.problem.proofs.Filled.{length_padded}
use Rattle.groups.proofs.Overwritten.{over, over_length, over_behind, over_part, over_here}
use Rattle.branch_directions.specs.Directions.{max_directions, directions_of, width_of, Sensible}
use Rattle.branch_directions.specs.declared.Directions as DD
use Rattle.branch_directions.proofs.DirectionLaws.{directions_length, directions_costs}
use Rattle.layout.specs.Layout.{zones_end}
use Rattle.branch_zones.specs.Zones.{max_zones, zone_width, corner_in, clamped, Measured}
use Rattle.branch_zones.specs.Steps.{row_in, Written}
use Rattle.branch_zones.proofs.Clamping.{clamped_small}
use Rattle.branch_zones.proofs.ZoneRows.{corner_long, front_number, same_corner, same_number}

-- the numbers of a row
pub row_long : (d : DD.Directions) (t all : List ℕ) → Sensible d → length t ≡ d.objectives
    → all ≡ padded max_directions (directions_of d t) → length (map clamped all) ≡ zone_width
row_long d t all sensible wide is =
    length-map all clamped
    ∙ ap length is
    ∙ length_padded max_directions (directions_of d t)
    (omega (arith, directions_length d t wide, sensible.few, sensible.few_sums))

module _ (d : DD.Directions) (zones : List ℕ) (i : ℕ) (t all zones' : List ℕ) (sensible : Sensible d)
    (long : zones_end ≤ length zones) (few : i < max_zones) (wide : length t ≡ d.objectives) (words : All Word t)
    (is : all ≡ padded max_directions (directions_of d t))
    (new : zones' ≡ over zones (zone_width * i) (map clamped all) (zone_width * i + zone_width)) where
  dirs_long : length (directions_of d t) ≡ width_of d
  dirs_long = directions_length d t wide

  full : length (map clamped all) ≡ zone_width
  full = row_long d t all sensible wide is

  row_end : zone_width * i + zone_width ≡ zone_width * i + length (map clamped all)
  row_end = omega (arith, full)

  inside : zone_width * i + zone_width ≤ length zones
  inside = omega arith

  here : row_in zones' i ≡ map clamped all
  here =
      rw new
      (subst
      (λ (n : ℕ). take n
      (drop (zone_width * i) (over zones (zone_width * i) (map clamped all) (zone_width * i + zone_width)))
      ≡ map clamped all)
      full
      (over_here zones (zone_width * i) (map clamped all) (zone_width * i + zone_width) row_end inside))

  number : (j : ℕ) → j < width_of d → get_or zones' (zone_width * i + j) 0 ≡ clamped (get_or (directions_of d t) j 0)
  unfolding padded
  number j l =
      sym (front_number zone_width zones' i j (omega (arith, sensible.few, sensible.few_sums)))
      ∙ ap (λ (r : List ℕ). get_or r j 0) here
      ∙ get_or-map clamped all j 0
      ∙ ap (λ (r : List ℕ). clamped (get_or r j 0)) is
      ∙ ap clamped
      (get_or-append (directions_of d t) (replicate (max_directions - length (directions_of d t)) 0) 0 j
      (omega (arith, dirs_long)))

  long' : length zones' ≡ length zones
  long' = rw new (over_length zones (zone_width * i) (map clamped all) (zone_width * i + zone_width) row_end inside)

  cost : (j : ℕ) → j < d.objectives → get_or (corner_in d.objectives zones' i) j 0 ≡ get_or t j 0
  cost j l =
      front_number d.objectives zones' i j l
      ∙ number j (omega arith)
      ∙ ap clamped
      (sym (get_or-take d.objectives (directions_of d t) j 0 l)
      ∙ ap (λ (r : List ℕ). get_or r j 0) (directions_costs d t wide))
      ∙ clamped_small (get_or t j 0) (all_below Word t words j 0 (omega arith))

  other : (k : ℕ) → k < max_zones → (k ≡ i → ⊥) → row_in zones' k ≡ row_in zones k
  other k l n =
      rw new
      (⊎_elim
      (λ h. over_part zones (zone_width * i) (map clamped all) (zone_width * i + zone_width) row_end inside zone_width
      (zone_width * k) (omega arith))
      (λ h. ap (take zone_width)
      (over_behind zones (zone_width * i) (map clamped all) (zone_width * i + zone_width) row_end inside
      (zone_width * k)
      (omega arith)))
      (one_first k i n))

  pub row_written : Written d zones i t zones'
  row_written =
      let same = corner_long d.objectives zones' i sensible.few (omega (arith, long')) few in
      record {
        long = long';
        corner =
            ext_get_or 0 (corner_in d.objectives zones' i) t (same ∙ sym wide) (λ j l. cost j (omega (arith, same)));
        numbers = number;
        others = other;
      }

pub written_as : {d : DD.Directions} {zones : List ℕ} {i : ℕ} {t u zones' : List ℕ} → t ≡ u → Written d zones i t zones'
    → Written d zones i u zones'
written_as {d} {zones} {i} {t} {u} {zones'} e w = subst (λ (v : List ℕ). Written d zones i v zones') e w

pub measured_none : (d : DD.Directions) (zones : List ℕ) → zones_end ≤ length zones → Measured d zones 0
measured_none d zones long = record { few = omega arith; long = long; numbers = λ k j l h. absurd (omega arith) }

-- of m zones all but that in row i are measured, and row i is written
pub measured_written : {d : DD.Directions} {zones : List ℕ} {i : ℕ} {t zones' : List ℕ} → Sensible d
    → Written d zones i t zones' → (m : ℕ) → Measured d zones m → (m' : ℕ) → m' ≤ max_zones
    → ((k : ℕ) → k < m' → (k ≡ i → ⊥) → k < m) → Measured d zones' m'
measured_written {d} {zones} {i} {t} {zones'} sensible w m old m' few inside = record {
  few = few;
  long = omega (arith, w.long, old.long);
  numbers = numbers;
}
  where
    Number : ℕ → ℕ → Type 0
    Number k j =
        get_or zones' (zone_width * k + j) 0 ≡ clamped (get_or (directions_of d (corner_in d.objectives zones' k)) j 0)

    same_dirs : (u v : List ℕ) (j : ℕ) → u ≡ v
        → clamped (get_or (directions_of d v) j 0) ≡ clamped (get_or (directions_of d u) j 0)
    same_dirs u v j e = ap (λ (c : List ℕ). clamped (get_or (directions_of d c) j 0)) (sym e)

    numbers : (k j : ℕ) → k < m' → j < width_of d → Number k j
    numbers k j l h =
        ⊎_elim
        (λ (e : k ≡ i). subst (λ (r : ℕ). Number r j) (sym e)
        (w.numbers j h ∙ same_dirs (corner_in d.objectives zones' i) t j w.corner))
        (λ n.
        let row = w.others k (omega arith) n in
        same_number zones zones' k row j (omega (arith, sensible.few, sensible.few_sums))
        ∙ old.numbers k j (inside k l n) h
        ∙ same_dirs (corner_in d.objectives zones' k) (corner_in d.objectives zones k) j
        (same_corner zones zones' k row d.objectives (omega (arith, sensible.few))))
        (equal_or k i)
