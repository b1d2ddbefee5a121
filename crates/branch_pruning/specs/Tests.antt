-- What the tests of a partial choice x say, with its bound b in every direction:
-- whether its completions may be left out.
use Rattle.std.specs.Prelude.{◌≡◌, ◌⊎◌, true, false, List, ℕ, ◌+◌, ◌≤◌, ◌<◌, length, get_or, take, drop}
use Rattle.model.specs.Limits.{max_points}
use Rattle.model.specs.Core.{core_sum_end}
use Rattle.model.specs.Vectors.{at_most, earlier}
use Rattle.rows.specs.Rows.{costs_in, values_in, EachCost}
use Rattle.branch_directions.specs.Directions.{directions_of, width_of, lead_at, Sensible}
use Rattle.branch_directions.specs.declared.Directions as DD
use Rattle.layout.specs.Layout.{zones_end, list_end}
use Rattle.branch_candidates.specs.Sifted.{list_width, Sifted}
use Rattle.branch_zones.specs.Zones.{Measured, Exceeds, Missed}
use Rattle.branch_pruning.specs.declared.Progress as DP

-- the zones are the first numbers of work memory
abbrev pub zones_of : List ℕ → List ℕ
zones_of work = take zones_end work

-- the archived point in row i cannot be replaced by a completion: its costs are below the bound somewhere,
-- or its choice is not later
abbrev pub Untied : DD.Directions → ℕ → List ℕ → List ℕ → List ℕ → ℕ → Type 0
Untied d n work x b i =
    at_most (take (width_of d) b) (directions_of d (costs_in d.objectives work i)) ≡ true
    → earlier (take n x) (values_in n work i) ≡ false

-- and so it is where they are below the bound
abbrev pub Surpassed : DD.Directions → List ℕ → List ℕ → ℕ → Type 0
Surpassed d work b i = Exceeds d b (costs_in d.objectives work i)

-- none of m zones has a corner that is at least the bound
abbrev pub Unreached : DD.Directions → List ℕ → ℕ → List ℕ → Type 0
Unreached d zones m b = (i : ℕ) → i < m → Missed d zones b i

-- what may be reached stands in two lists of candidates: of zones, and of archived points
abbrev pub reach_width : ℕ
reach_width = 258

abbrev pub zones_in : List ℕ → List ℕ
zones_in reach = take list_width reach

abbrev pub ties_in : List ℕ → List ℕ
ties_in reach = drop list_width reach

-- all are among them
pub record Full (run : DP.Progress) (reach : List ℕ) : Type 0 where
  pub zones : Sifted run.zones (λ _. ⊥) (zones_in reach)
  pub ties : Sifted run.points (λ _. ⊥) (ties_in reach)

-- what is not among them is not reached by the bound b
pub record Reached
    (d : DD.Directions) (work : List ℕ) (run : DP.Progress) (b : List ℕ) (reach : List ℕ) : Type 0 where
  pub zones : Sifted run.zones (Missed d (zones_of work) b) (zones_in reach)
  pub ties : Sifted run.points (Surpassed d work b) (ties_in reach)

-- zones and points that may be tested
pub record Searched (d : DD.Directions) (work : List ℕ) (run : DP.Progress) : Type 0 where
  pub sensible : Sensible d
  pub long : list_end ≤ length work
  pub measured : Measured d (zones_of work) run.zones
  pub few : run.points ≤ max_points + 1
  pub small : EachCost (λ a. a < core_sum_end) d.objectives work run.points

-- nothing that is sought is left below it
abbrev pub Dead : DD.Directions → ℕ → List ℕ → DP.Progress → List ℕ → List ℕ → Type 0
Dead d n work run x b =
    (run.limit ≤ get_or b (lead_at d) 0)
    ⊎ (Unreached d (zones_of work) run.zones b × ((i : ℕ) → i < run.points → Untied d n work x b i))
