-- The zones in memory: rows of eight numbers, a corner's costs and its sums. A number that does not fit 32 bits counts
-- as the greatest that does.
use Rattle.std.specs.Prelude.{◌≡◌, ◌⊎◌, true, false, ℕ, zero, suc, ◌+◌, ◌-◌, ◌*◌, ◌≤◌, ◌<◌, ltb, length, get_or, take}
use Rattle.std.specs.Prelude.{drop}
use mathlib.Core.List.{List, [], ◌∷◌, Memᴰ as In}
use Rattle.model.specs.Basics.{pick}
use Rattle.model.specs.Limits.{word_end}
use Rattle.model.specs.Vectors.{at_most}
use Rattle.model.specs.Archive.{below, lowered}
use Rattle.layout.specs.Layout.{zones_end}
use Rattle.branch_directions.specs.Directions.{directions_of, width_of}
use Rattle.branch_directions.specs.declared.Directions as DD

abbrev pub max_zones : ℕ
max_zones = 128

abbrev pub zone_width : ℕ
zone_width = 8

-- the corner of zone i, with p costs
abbrev pub corner_in : ℕ → List ℕ → ℕ → List ℕ
corner_in p zones i = take p (drop (zone_width * i) zones)

-- m corners from zone i on
unfoldable pub corners_in : ℕ → List ℕ → ℕ → ℕ → List (List ℕ)
corners_in p zones i zero = []
corners_in p zones i (suc m) = corner_in p zones i ∷ corners_in p zones (i + 1) m

abbrev pub clamped : ℕ → ℕ
clamped x = pick (ltb x word_end) x (word_end - 1)

-- the rows of m zones have their corners in every direction
pub record Measured (d : DD.Directions) (zones : List ℕ) (m : ℕ) : Type 0 where
  pub few : m ≤ max_zones
  pub long : zones_end ≤ length zones
  pub numbers : (i j : ℕ) → i < m → j < width_of d
      → get_or zones (zone_width * i + j) 0 ≡ clamped (get_or (directions_of d (corner_in d.objectives zones i)) j 0)

-- a vector is below the bound b in some direction: nothing that costs as much as the bound is at most the vector
abbrev pub Exceeds : DD.Directions → List ℕ → List ℕ → Type 0
Exceeds d b v = at_most (take (width_of d) b) (directions_of d v) ≡ false

-- and so it is with the corner of zone i: nothing with this bound lies in the zone
abbrev pub Missed : DD.Directions → List ℕ → List ℕ → ℕ → Type 0
Missed d zones b i = Exceeds d b (corner_in d.objectives zones i)

-- zones split at z: each goes on whole, or by its parts below z (the model's zones-split asks for this)
abbrev pub SplitAt : ℕ → List ℕ → List (List ℕ) → List (List ℕ) → Type 0
SplitAt p z zones zones' =
    (t : List ℕ)
    → In t zones
    → ((t' : List ℕ) × In t' zones' × (at_most t t' ≡ true))
    ⊎ ((j : ℕ) → j < p → 1 ≤ get_or z j 0 → (t' : List ℕ) × In t' zones' × (at_most (below t z j) t' ≡ true))

-- the first zone: all that is under the ceilings, or none where a ceiling is 0
abbrev pub FirstZone : ℕ → List ℕ → List ℕ → ℕ → Type 0
FirstZone p ceilings zones m =
    ((m ≡ 1) × (corner_in p zones 0 ≡ lowered (take p ceilings)))
    ⊎ ((m ≡ 0) × ((i : ℕ) × (i < p) × (get_or ceilings i 0 ≡ 0)))
