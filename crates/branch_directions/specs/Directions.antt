-- Directions: the objectives, and weighted sums of them that bound several objectives at once. One of them, the leading
-- sum, has every objective in it.
use Rattle.std.specs.Prelude.{◌≡◌, List, [], ◌∷◌, ◌++◌, ℕ, zero, suc, ◌+◌, ◌*◌, ◌≤◌, eqb, take, drop}
use Rattle.model.specs.Basics.{All, pick}
use Rattle.model.specs.Limits.{max_objectives}
use Rattle.model.specs.Archive.{weighted}
use Rattle.branch_archive.specs.Changes.{max_weight}
use Rattle.branch_directions.specs.declared.Directions as DD

-- at most so many: four objectives and four sums
abbrev pub max_sums : ℕ
max_sums = 4

abbrev pub max_directions : ℕ
max_directions = 8

-- what a number in any direction stays below
abbrev pub direction_end : ℕ
direction_end = 4611686018427387904

-- the weights of sum i, one for each objective
abbrev pub weights_of : DD.Directions → ℕ → List ℕ
weights_of d i = take d.objectives (drop (4 * i) d.weights)

-- c sums of a vector, from number i on
unfoldable pub sums_from : DD.Directions → ℕ → ℕ → List ℕ → List ℕ
sums_from d zero i v = []
sums_from d (suc c) i v = weighted (weights_of d i) v ∷ sums_from d c (suc i) v

-- a cost vector in every direction: its costs, and the sums
unfoldable pub directions_of : DD.Directions → List ℕ → List ℕ
directions_of d v = v ++ sums_from d d.sums 0 v

abbrev pub width_of : DD.Directions → ℕ
width_of d = d.objectives + d.sums

-- the leading sum: its weights, and its number among the directions; with one objective it is that one
abbrev pub lead_weights : DD.Directions → List ℕ
lead_weights d = weights_of d 0

abbrev pub lead_at : DD.Directions → ℕ
lead_at d = pick (eqb d.sums 0) 0 d.objectives

-- what is relied on: no sum wraps, and what beats a vector has a smaller leading sum
pub record Sensible (d : DD.Directions) : Type 0 where
  pub some : 1 ≤ d.objectives
  pub few : d.objectives ≤ max_objectives
  pub few_sums : d.sums ≤ max_sums
  pub small : All (λ w. w ≤ max_weight) d.weights
  pub every : All (λ w. 1 ≤ w) (lead_weights d)
  pub alone : d.sums ≡ 0 → (d.objectives ≡ 1) × (lead_weights d ≡ 1 ∷ [])
