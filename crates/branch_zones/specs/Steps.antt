-- The steps of a split, row by row.
use Rattle.std.specs.Prelude.{◌≡◌, ◌⊎◌, true, false, List, ℕ, ◌+◌, ◌*◌, ◌≤◌, ◌<◌, length, get_or, take, drop}
use Rattle.model.specs.Vectors.{at_most}
use Rattle.model.specs.Archive.{below}
use Rattle.branch_directions.specs.Directions.{directions_of, width_of}
use Rattle.branch_directions.specs.declared.Directions as DD
use Rattle.branch_zones.specs.Zones.{max_zones, zone_width, corner_in, clamped, Measured}
use Rattle.branch_zones.specs.declared.Places as DP

-- all numbers of row i
abbrev pub row_in : List ℕ → ℕ → List ℕ
row_in zones i = take zone_width (drop (zone_width * i) zones)

-- a number of row i is below that of a clamped bound
abbrev pub Under : List ℕ → List ℕ → ℕ → Type 0
Under zones least i = at_most least (row_in zones i) ≡ false

-- row i has the corner t in every direction, and the other rows are kept
pub record Written (d : DD.Directions) (zones : List ℕ) (i : ℕ) (t zones' : List ℕ) : Type 0 where
  pub long : length zones' ≡ length zones
  pub corner : corner_in d.objectives zones' i ≡ t
  pub numbers : (j : ℕ) → j < width_of d
      → get_or zones' (zone_width * i + j) 0 ≡ clamped (get_or (directions_of d t) j 0)
  pub others : (k : ℕ) → k < max_zones → (k ≡ i → ⊥) → row_in zones' k ≡ row_in zones k

-- a zone of m has all that is in the zone with the corner t; what stands in the row `free` does not count
abbrev pub Held : ℕ → List ℕ → ℕ → ℕ → List ℕ → Type 0
Held p zones m free t = (k : ℕ) × (k < m) × (k ≡ free → ⊥) × (at_most t (corner_in p zones k) ≡ true)

-- a part of the zone with the corner t, below z in objective j, is taken in
pub record PartAdded (d : DD.Directions) (t z : List ℕ) (j : ℕ)
    (zones : List ℕ) (s : DP.Places) (zones' : List ℕ) (s' : DP.Places)
    : Type 0 where
  pub measured : Measured d zones' s'.count
  pub long : length zones' ≡ length zones
  pub inside : s'.free ≤ s'.count
  pub least : s.count ≤ s'.count
  pub most : (n : ℕ) → s.free < n → s.count ≤ n → (s'.free < n + 1) × (s'.count ≤ n + 1)
  pub kept : (u : List ℕ) → Held d.objectives zones s.count s.free u
      → Held d.objectives zones' s'.count s'.free u
  pub part : 1 ≤ get_or z j 0 → Held d.objectives zones' s'.count s'.free (below t z j)

-- no row is free any more, and there are m zones
pub record Closed (d : DD.Directions) (zones : List ℕ) (s : DP.Places) (zones' : List ℕ) (m : ℕ) : Type 0 where
  pub measured : Measured d zones' m
  pub long : length zones' ≡ length zones
  pub least : s.count ≤ m + 1
  pub kept : (u : List ℕ) → Held d.objectives zones s.count s.free u → Held d.objectives zones' m m u

-- each of m zones goes on whole, or by its parts below z
abbrev pub SplitRows : ℕ → List ℕ → List ℕ → ℕ → List ℕ → ℕ → Type 0
SplitRows p z zones m zones' m' =
    (k : ℕ)
    → k < m
    → Held p zones' m' m' (corner_in p zones k)
    ⊎ ((j : ℕ) → j < p → 1 ≤ get_or z j 0 → Held p zones' m' m' (below (corner_in p zones k) z j))

-- m zones are split at z: one at a time, or all
pub record ZonesSplit (d : DD.Directions) (z zones : List ℕ) (m : ℕ) (zones' : List ℕ) (m' : ℕ) : Type 0 where
  pub measured : Measured d zones' m'
  pub long : length zones' ≡ length zones
  pub split : SplitRows d.objectives z zones m zones' m'
