-- What the second form of the search keeps: an archive of points, a limit on a weighted sum of costs, and zones in
-- which new vectors may lie.
-- Nobody has to believe it: proofs/ArchiveEnd.antt shows that what is left in the archive is the frontier,
-- proofs/Zones.antt what may be left out.
use Rattle.std.specs.Prelude.{◌≡◌, ◌⊎◌, true, ℕ, ◌+◌, ◌*◌, ◌-◌, ◌≤◌, length, get_or, set}
use mathlib.Core.List.{List, [], ◌∷◌, Memᴰ as In}
use Rattle.model.specs.Problems.{Problem}
use Rattle.model.specs.Vectors.{at_most, earlier}
use Rattle.model.specs.Frontiers.{Point}
use Rattle.model.specs.Core.{under, CoreReached}

-- a weighted sum of a vector
unfoldable pub weighted : List ℕ → List ℕ → ℕ
weighted [] cs = 0
weighted (w ∷ ws) [] = 0
weighted (w ∷ ws) (c ∷ cs) = w * c + weighted ws cs

-- a point does as well as another: its costs are at most as large, and at equal costs its choice is not later
abbrev pub Serves : Point → Point → Type 0
Serves a y =
    (at_most a.costs y.costs ≡ true)
    × (a.costs ≡ y.costs → (a.choice ≡ y.choice) ⊎ (earlier a.choice y.choice ≡ true))

-- y needs no more looking at: its sum is not below the limit, or an archived point does as well
abbrev pub Covered : List ℕ → List Point → ℕ → Point → Type 0
Covered ws archive limit y = (limit ≤ weighted ws y.costs) ⊎ ((a : Point) × In a archive × Serves a y)

-- an archive: consistent choices with their costs, none of which matches or beats another, none above the limit
pub record Archived (q : Problem) (ws : List ℕ) (archive : List Point) (limit : ℕ) : Type 0 where
  pub reached : (a : Point) → In a archive → CoreReached q a
  pub apart : (a b : Point) → In a archive → In b archive → at_most a.costs b.costs ≡ true → a ≡ b
  pub within : (a : Point) → In a archive → weighted ws a.costs ≤ limit

-- costs that stand once
abbrev pub Distinct : List Point → Type 0
Distinct [] = Unit {0}
Distinct (p ∷ ps) = ((r : Point) → In r ps → p.costs ≡ r.costs → ⊥) × Distinct ps

-- what changes an archive may meet: what it covers stays covered
pub record Follows (ws : List ℕ) (archive : List Point) (limit : ℕ) (archive' : List Point) (limit' : ℕ) : Type 0 where
  pub lower : limit' ≤ limit
  pub served : (a : Point) → In a archive
      → (limit' ≤ weighted ws a.costs) ⊎ ((b : Point) × In b archive' × Serves b a)

-- zones by their upper corners (in the field: local upper bounds): every vector under the ceilings is in a zone, or an
-- archived point matches it, or its sum is not below the limit
abbrev pub InZone : List (List ℕ) → List ℕ → Type 0
InZone zones v = (t : List ℕ) × In t zones × (at_most v t ≡ true)

abbrev pub Zoned : ℕ → List ℕ → List ℕ → List Point → ℕ → List (List ℕ) → Type 0
Zoned p ceilings ws archive limit zones =
    (v : List ℕ) → length v ≡ p → under v ceilings ≡ true
    → InZone zones v ⊎ (((a : Point) × In a archive × (at_most a.costs v ≡ true)) ⊎ (limit ≤ weighted ws v))

-- the corner of all that is under the ceilings: each ceiling less one
unfoldable pub lowered : List ℕ → List ℕ
lowered [] = []
lowered (c ∷ cs) = (c - 1) ∷ lowered cs

-- the part of a zone below z in objective j
abbrev pub below : List ℕ → List ℕ → ℕ → List ℕ
below t z j = set t j (get_or z j 0 - 1)
