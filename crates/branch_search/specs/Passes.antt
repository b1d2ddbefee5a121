-- What the start of a pass ensures of the zones.
use Rattle.std.specs.Prelude.{◌≡◌, ℕ, List, length, take, drop}
use Rattle.model.specs.Archive.{Zoned}
use Rattle.rows.specs.Rows.{list_in}
use Rattle.branch_directions.specs.declared.Directions as DD
use Rattle.layout.specs.Layout.{zones_end}
use Rattle.branch_zones.specs.Zones.{corners_in, Measured}
use Rattle.branch_pruning.specs.Tests.{zones_of}

-- only zones are written
pub record ZonesWritten (d : DD.Directions) (work work' : List ℕ) (m : ℕ) : Type 0 where
  pub long : length work' ≡ length work
  pub behind : drop zones_end work' ≡ drop zones_end work
  pub measured : Measured d (zones_of work') m

-- the zones of memory hold what the first c archived points leave, whatever the limit
abbrev pub ZonesHold : DD.Directions → ℕ → List ℕ → List ℕ → List ℕ → ℕ → Type 0
ZonesHold d c ceilings rows work m =
    (n limit : ℕ) (ws : List ℕ)
    → Zoned d.objectives (take d.objectives ceilings) ws (list_in d.objectives n rows 0 c) limit
    (corners_in d.objectives (zones_of work) 0 m)
